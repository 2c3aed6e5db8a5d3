-- From the text of `make` to what a run wrote.
use Rattle.std.proofs.Common.{◌≡◌, ℕ, ◌∙◌, Bool, false, List, [], ◌∷◌, take, drop, refl, sym, ap}
use Rattle.std.specs.Prelude.{Option}
use Rattle.pdq_edge.specs.Bytes.{Grows, GrewSome}
use Rattle.pdq_make.specs.MadeTables.{made_tables}
use Rattle.pdq_make.specs.Make.{text_over}
use Rattle.pdq_session.specs.Progress.{SourceView}
use Rattle.pdqd.specs.declared.words.Form.TheVariants.{Make}
use Rattle.pdq_load.specs.Files.{Contents}
use Rattle.pdqd.specs.Make.{make_output}
use Rattle.pdqd.specs.Output.{Output}
use Rattle.pdq_query.specs.Answer.{answer}
use Rattle.pdqd.specs.Run.{RanInPart, RanWhole}
use Rattle.pdqd.specs.Stores.{StoresView}
use Rattle.pdqd.proofs.Inputs.{took_none}
use Rattle.pdqd.proofs.Questions.{two_parts}
use Rattle.pdqd.proofs.Statuses.{definition_is_right, no_files, none_is_few}

-- the text where no store fails
abbrev pub made_text : ℕ → List ℕ
made_text count = text_over count (made_tables count) false false false

no_failures : (count : ℕ) (later : List Bool) → make_output count (false ∷ false ∷ false ∷ later) ≡ record { text = made_text count; status = 0 }
unfolding make_output
no_failures count later = refl

is_output : (count : ℕ) (later : List Bool) (text : List ℕ) → text ≡ made_text count → make_output count (false ∷ false ∷ false ∷ later) ≡ record { text = text; status = 0 }
is_output count later text is = no_failures count later ∙ ap (λ (t : List ℕ). record { text = t; status = 0 }) (sym is)

-- a text that was written whole
pub wrote_made : (count : ℕ) (contents : Contents) (f g : StoresView) (source : SourceView) (w v : Option (List ℕ)) (text : List ℕ) → text ≡ made_text count → Grows w v text → RanWhole (Make count) contents source source w v f g 0
wrote_made count contents f g source w v text is grew = record {
  files = no_files;
  given = tt;
  answers = answer;
  right = definition_is_right f;
  wrote = record {
    bytes = [];
    text = text;
    failed = false ∷ false ∷ false ∷ [];
    few = none_is_few f.faults g.faults (false ∷ false ∷ false ∷ []) refl;
    came = took_none source.left source.taken;
    grew = grew;
    whole = λ more later can. is_output count later text is;
  };
  failures = tt;
  puts = λ none. tt;
}

-- a text of which the first bytes were written
pub wrote_made_part : (count : ℕ) (contents : Contents) (f g : StoresView) (source : SourceView) (w v : Option (List ℕ)) (text : List ℕ) → text ≡ made_text count → GrewSome w v text → RanInPart (Make count) contents source source w v f g
wrote_made_part count contents f g source w v text is some = record {
  files = no_files;
  given = tt;
  answers = answer;
  right = definition_is_right f;
  wrote = record {
    bytes = [];
    text = take some.count text;
    failed = false ∷ false ∷ false ∷ [];
    few = none_is_few f.faults g.faults (false ∷ false ∷ false ∷ []) refl;
    came = took_none source.left source.taken;
    grew = some.grew;
    begins = λ more later can. record { tail = drop some.count text; part = ap (λ (o : Output). o.text) (is_output count later text is) ∙ two_parts some.count text };
  };
}
