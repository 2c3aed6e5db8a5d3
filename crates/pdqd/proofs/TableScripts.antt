-- From how a script over tables ended to what a run wrote.
use Rattle.std.proofs.Common.{◌≡◌, ◌≢◌, ◌⊎◌, inl, inr, ℕ, List, [], ◌++◌, Bool, true, false, Option, Some, take, drop, refl, sym, ◌∙◌, ap, arith}
use Rattle.std.specs.Prelude.{◌==◌, if◌then◌else◌, Ok, Err}
use Rattle.std.proofs.lemmas.Bool.{false≢true}
use Rattle.std.proofs.lemmas.List.{append-nil}
use Rattle.pdq_edge.specs.Bytes.{Grows, GrewSome}
use Rattle.pdq_model.specs.Configuration.{Configuration}
use Rattle.pdq_query.specs.Answer.{answer}
use Rattle.pdq_table.specs.Storing.{StoredView}
use Rattle.pdq_load.specs.Files.{Contents}
use Rattle.pdq_load.specs.Loaded.{FilesGive, loaded}
use Rattle.pdq_session.specs.Progress.{Cut, Script, SourceView, WroteScript, WroteSome}
use Rattle.pdq_session.specs.ScriptStates.{ScriptState, asked_of}
use Rattle.pdq_session.specs.ScriptTranscript.{Failures, Out, ScriptEnding, script_transcript}
use Rattle.pdqd.specs.declared.words.Form.TheVariants.{ScriptTables}
use Rattle.pdqd.specs.Output.{Output}
use Rattle.pdqd.specs.Run.{FailsAs, IsCutOff, IsWhole, RanInPart, RanWhole, plain_status, script_over, status_of}
use Rattle.pdqd.specs.Stores.{StoresView}
use Rattle.pdqd.proofs.Inputs.{took_none}
use Rattle.pdqd.proofs.Questions.{two_parts}
use Rattle.pdqd.proofs.Statuses.{definition_is_right, grows_same, none_is_few, output_of}

-- the status at the end tells whether a store failed, and is 0 but for that
pub plain_end : (status : ℕ) (b : Bool) → status ≡ (if b then 70 else 0) → (if status == 70 then 0 else status) ≡ 0
plain_end status true is = rw is refl
plain_end status false is = rw is refl

pub fails_end : (status : ℕ) (b any : Bool) → status ≡ (if b then 70 else 0) → b ≡ any → (status ≡ 70 → any ≡ true) × (any ≡ true → status ≡ 70)
fails_end status true any is same = (λ e. sym same, λ e. is)
fails_end status false any is same = (λ e. absurd (omega (arith, is, e)), λ e. absurd (false≢true (same ∙ e)))

pub plain_fault : (status : ℕ) → status ≡ 65 → (if status == 70 then 0 else status) ≡ 65
plain_fault status is = rw is refl

-- what a flush makes of the status at the end
pub ended_known : (r status : ℕ) (b : Bool) → status ≡ (if b then 70 else 0) → (r ≡ status) ⊎ (r ≡ 74) → IsWhole r ⊎ IsCutOff r
ended_known r status b is (inr e) = inr (inr (inr e))
ended_known r status true is (inl e) = inl (inr (inr (e ∙ is)))
ended_known r status false is (inl e) = inl (inl (e ∙ is))

pub ended_read : (r status : ℕ) (b : Bool) → status ≡ (if b then 70 else 0) → (r ≡ status) ⊎ (r ≡ 74) → r ≡ 66 → ⊥
ended_read r status b is (inr e) unread = omega (arith, e, unread)
ended_read r status true is (inl e) unread = omega (arith, is, e, unread)
ended_read r status false is (inl e) unread = omega (arith, is, e, unread)

pub ended_written : (r status : ℕ) (b : Bool) → status ≡ (if b then 70 else 0) → r ≡ 74 → r ≢ status
ended_written r status true is cut same = omega (arith, is, cut, same)
ended_written r status false is cut same = omega (arith, is, cut, same)

-- a script over tables that were loaded
module _ (c : Configuration) (p : ℕ) (contents : Contents) (schema : List ℕ) (stored : StoredView) (gives : FilesGive contents schema (Ok stored)) (f g : StoresView) where
  abbrev transcript : Script
  transcript = script_transcript (asked_of (Some stored)) c p

  is_output : (bytes : List ℕ) (failed : Failures) → script_over c p bytes failed (loaded gives.files) ≡ output_of (transcript bytes failed)
  unfolding output_of
  is_output bytes failed = ap (script_over c p bytes failed) (sym gives.is)

  is_text : (bytes : List ℕ) (failed : Failures) → (script_over c p bytes failed (loaded gives.files)).text ≡ (transcript bytes failed).text
  unfolding output_of
  is_text bytes failed = ap (λ (o : Output). o.text) (is_output bytes failed)

  -- one that wrote its whole transcript is a run that wrote all
  pub tables_wrote : (status : ℕ) (before now : SourceView) (w0 w v : Option (List ℕ)) (ending : ScriptEnding) (state : ScriptState) (wrote : WroteScript before now w0 w f.faults g.faults transcript ending state) → v ≡ w
      → plain_status (ScriptTables c p schema) status ≡ status_of ending → FailsAs (ScriptTables c p schema) status wrote.failed → RanWhole (ScriptTables c p schema) contents before now w0 v f g status
  unfolding output_of
  tables_wrote status before now w0 w v ending state wrote same is fails = record {
    files = gives.files;
    given = gives.told;
    answers = answer;
    right = definition_is_right f;
    wrote = record {
      bytes = wrote.bytes;
      failed = wrote.failed;
      text = wrote.text;
      few = wrote.few;
      came = wrote.came;
      grew = grows_same w0 w v wrote.text same wrote.grew;
      whole = λ more later follows. is_output (wrote.bytes ++ more) (wrote.failed ++ later) ∙ ap output_of (wrote.whole more later follows) ∙ ap (λ n. record { text = wrote.text; status = n }) (sym is);
    };
    failures = fails;
    puts = λ none. tt;
  }

  -- and a run that wrote a part, which is all of it
  pub tables_wrote_part : (before now : SourceView) (w0 w v : Option (List ℕ)) (ending : ScriptEnding) (state : ScriptState) → WroteScript before now w0 w f.faults g.faults transcript ending state → v ≡ w → RanInPart (ScriptTables c p schema) contents before now w0 v f g
  tables_wrote_part before now w0 w v ending state wrote same = record {
    files = gives.files;
    given = gives.told;
    answers = answer;
    right = definition_is_right f;
    wrote = record {
      bytes = wrote.bytes;
      failed = wrote.failed;
      text = wrote.text;
      few = wrote.few;
      came = wrote.came;
      grew = grows_same w0 w v wrote.text same wrote.grew;
      begins = λ more later follows. record { tail = []; part = is_text (wrote.bytes ++ more) (wrote.failed ++ later) ∙ ap (λ (o : Out). o.text) (wrote.whole more later follows) ∙ sym (append-nil wrote.text) };
    };
  }

  -- one that was cut off is a run that was cut off
  pub tables_cut_off : (before now : SourceView) (w0 w : Option (List ℕ)) (state : ScriptState) (cut : Cut) → WroteSome cut before now w0 w f.faults g.faults transcript state → RanInPart (ScriptTables c p schema) contents before now w0 w f g
  tables_cut_off before now w0 w state cut some = let wrote = some.wrote in record {
    files = gives.files;
    given = gives.told;
    answers = answer;
    right = definition_is_right f;
    wrote = record {
      bytes = wrote.bytes;
      failed = wrote.failed;
      text = wrote.text;
      few = wrote.few;
      came = wrote.came;
      grew = wrote.grew;
      begins = λ more later follows. let from = wrote.begins more later follows in record { tail = from.tail; part = is_text (wrote.bytes ++ more) (wrote.failed ++ later) ∙ from.part };
    };
  }

-- a schema file that is refused, or a table of it
module _ (c : Configuration) (p : ℕ) (contents : Contents) (schema line : List ℕ) (gives : FilesGive contents schema (Err line)) (f g : StoresView) (source : SourceView) (w v : Option (List ℕ)) where
  is_refusal : (bytes : List ℕ) (failed : Failures) → script_over c p bytes failed (loaded gives.files) ≡ record { text = line; status = 65 }
  is_refusal bytes failed = ap (script_over c p bytes failed) (sym gives.is)

  pub refusal_wrote : Grows w v line → RanWhole (ScriptTables c p schema) contents source source w v f g 65
  refusal_wrote grew = record {
    files = gives.files;
    given = gives.told;
    answers = answer;
    right = definition_is_right f;
    wrote = record {
      bytes = [];
      text = line;
      failed = [];
      few = none_is_few f.faults g.faults [] refl;
      came = took_none source.left source.taken;
      grew = grew;
      whole = λ more later can. is_refusal more later;
    };
    failures = λ other. absurd (other refl);
    puts = λ none. tt;
  }

  pub refusal_wrote_part : GrewSome w v line → RanInPart (ScriptTables c p schema) contents source source w v f g
  refusal_wrote_part some = record {
    files = gives.files;
    given = gives.told;
    answers = answer;
    right = definition_is_right f;
    wrote = record {
      bytes = [];
      text = take some.count line;
      failed = [];
      few = none_is_few f.faults g.faults [] refl;
      came = took_none source.left source.taken;
      grew = some.grew;
      begins = λ more later can. record { tail = drop some.count line; part = ap (λ (o : Output). o.text) (is_refusal more later) ∙ two_parts some.count line };
    };
  }
