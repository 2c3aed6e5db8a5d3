-- From how a script ended to what a run wrote.
use Rattle.std.proofs.Common.{◌≡◌, ℕ, ◌⊎◌, inl, inr, List, [], Option, refl, sym, ◌∙◌, ap, subst, arith}
use Rattle.std.proofs.lemmas.List.{append-nil}
use Rattle.pdq_edge.specs.Bytes.{Grows}
use Rattle.pdq_edge.specs.Causes.{Rose}
use Rattle.pdq_model.specs.Configuration.{Configuration}
use Rattle.pdq_session.specs.Progress.{Cut, SourceView, WroteScript, WroteSome}
use Rattle.pdq_session.specs.ScriptStates.{ScriptState, no_tables}
use Rattle.pdq_session.specs.ScriptTranscript.{Failures, Out, ScriptEnding, failures_in, script_transcript}
use Rattle.pdqd.specs.declared.words.Form.TheVariants.{Script}
use Rattle.pdq_load.specs.Files.{Contents, GivenFiles}
use Rattle.pdqd.specs.Output.{Output}
use Rattle.pdq_query.specs.Answer.{answer}
use Rattle.pdqd.specs.Run.{status_of, RanWhole, RanInPart, IsWhole}
use Rattle.pdqd.specs.Stores.{AreRight, FewFailed, StoresView}

-- what a sink told stays what it grew by
pub grows_same : (w0 w v : Option (List ℕ)) (text : List ℕ) → v ≡ w → Grows w0 w text → Grows w0 v text
grows_same w0 w v text same grew = let P : Option (List ℕ) → Type 0 = λ o. Grows w0 o text in subst P (sym same) grew

-- the output of a run with the text and the ending of its script
unfoldable pub output_of : Out → Output
output_of out = record { text = out.text; status = status_of out.ending }

-- a script is given no files
pub no_files : GivenFiles
no_files = record { schema = []; tables = [] }

-- the answers of the definition are right
pub definition_is_right : (stores : StoresView) → AreRight stores answer
definition_is_right stores = record { each = λ told tables q. refl }

-- lines at which no store failed are few
pub none_is_few : (f g : List ℕ) (failed : Failures) → failures_in failed ≡ 0 → FewFailed f g failed
none_is_few f g failed none below = rw none (omega arith)

-- a script that wrote its whole transcript is a run that wrote all
pub wrote_all : (c : Configuration) (contents : Contents) (p : ℕ) (f g : StoresView) (status : ℕ) (before now : SourceView) (w0 w v : Option (List ℕ)) (ending : ScriptEnding) (state : ScriptState) → WroteScript before now w0 w f.faults g.faults (script_transcript no_tables c p) ending state → v ≡ w → status ≡ status_of ending → RanWhole (Script c p) contents before now w0 v f g status
unfolding output_of
wrote_all c contents p f g status before now w0 w v ending state wrote same is = record {
  files = no_files;
  given = tt;
  answers = answer;
  right = definition_is_right f;
  wrote = record {
    bytes = wrote.bytes;
    failed = wrote.failed;
    text = wrote.text;
    few = wrote.few;
    came = wrote.came;
    grew = grows_same w0 w v wrote.text same wrote.grew;
    whole = λ more later follows. ap output_of (wrote.whole more later follows) ∙ ap (λ n. record { text = wrote.text; status = n }) (sym is);
  };
  failures = tt;
  puts = λ none. tt;
}

-- and a run that wrote a part, which is all of it
pub wrote_all_part : (c : Configuration) (contents : Contents) (p : ℕ) (f g : StoresView) (before now : SourceView) (w0 w v : Option (List ℕ)) (ending : ScriptEnding) (state : ScriptState) → WroteScript before now w0 w f.faults g.faults (script_transcript no_tables c p) ending state → v ≡ w → RanInPart (Script c p) contents before now w0 v f g
wrote_all_part c contents p f g before now w0 w v ending state wrote same = record {
  files = no_files;
  given = tt;
  answers = answer;
  right = definition_is_right f;
  wrote = record {
    bytes = wrote.bytes;
    failed = wrote.failed;
    text = wrote.text;
    few = wrote.few;
    came = wrote.came;
    grew = grows_same w0 w v wrote.text same wrote.grew;
    begins = λ more later follows. record { tail = []; part = ap (λ (o : Out). o.text) (wrote.whole more later follows) ∙ sym (append-nil wrote.text) };
  };
}

-- a script that was cut off is a run that was cut off
pub wrote_some_part : (c : Configuration) (contents : Contents) (p : ℕ) (f g : StoresView) (before now : SourceView) (w0 w : Option (List ℕ)) (state : ScriptState) (cut : Cut) → WroteSome cut before now w0 w f.faults g.faults (script_transcript no_tables c p) state → RanInPart (Script c p) contents before now w0 w f g
wrote_some_part c contents p f g before now w0 w state cut some = let wrote = some.wrote in record {
  files = no_files;
  given = tt;
  answers = answer;
  right = definition_is_right f;
  wrote = record {
    bytes = wrote.bytes;
    failed = wrote.failed;
    text = wrote.text;
    few = wrote.few;
    came = wrote.came;
    grew = wrote.grew;
    begins = wrote.begins;
  };
}

-- a status that a flush may have turned into 74, and that tells of a whole text, is as it was
pub whole_kept : (r status : ℕ) → (r ≡ status) ⊎ (r ≡ 74) → IsWhole r → r ≡ status
whole_kept r status (inl e) is = e
whole_kept r status (inr e) (inl z) = absurd (omega arith)
whole_kept r status (inr e) (inr (inl z)) = absurd (omega arith)
whole_kept r status (inr e) (inr (inr z)) = absurd (omega arith)

-- a count that stayed and then rose has risen
pub rose_since : (a m b : ℕ) → m ≡ a → Rose m b → Rose a b
rose_since a m b stayed rose = let P : ℕ → Type 0 = λ n. Rose n b in subst P stayed rose
