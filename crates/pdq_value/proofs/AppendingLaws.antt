-- One text appended after another.
use Rattle.std.proofs.Common.{◌≡◌, ℕ, List, [], ◌++◌, refl, sym, ap, ◌∙◌, append_assoc}
use Rattle.std.proofs.lemmas.List.{append-nil}
use Rattle.std.specs.Prelude.{Result, Ok, Err, OnErr}
use Rattle.pdq_value.specs.Appending.{AppendsPart}

pub AppendsPart-none : (old text : List ℕ) → AppendsPart old old text
AppendsPart-none old text = record { part = []; missing = text; appended = sym (append-nil old); beginning = refl }

pub AppendsPart-before : (old new text more : List ℕ) → AppendsPart old new text → AppendsPart old new (text ++ more)
AppendsPart-before old new text more h = record { part = h.part; missing = h.missing ++ more; appended = h.appended; beginning = ap (λ t. t ++ more) h.beginning ∙ append_assoc h.part h.missing more }

pub AppendsPart-after : (old text mid new more : List ℕ) → mid ≡ old ++ text → AppendsPart mid new more → AppendsPart old new (text ++ more)
AppendsPart-after old text mid new more e h = record { part = text ++ h.part; missing = h.missing; appended = h.appended ∙ ap (λ m. m ++ h.part) e ∙ append_assoc old text h.part; beginning = ap (λ t. text ++ t) h.beginning ∙ sym (append_assoc text h.part h.missing) }

pub appended_two : (old text mid new more : List ℕ) → mid ≡ old ++ text → new ≡ mid ++ more → new ≡ old ++ (text ++ more)
appended_two old text mid new more e f = f ∙ ap (λ m. m ++ more) e ∙ append_assoc old text more

pub on_err_from : {T E P : Type 0} (r : Result T E) → P → OnErr r P
on_err_from (Ok x) p = tt
on_err_from (Err e) p = p
