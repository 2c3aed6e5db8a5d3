-- One row more of a batch.
use Rattle.std.proofs.Common.{◌≡◌, ℕ, ◌+◌, List, [], ◌∷◌, ◌++◌, take, sym, ap, ◌∙◌, subst}
use Rattle.std.specs.Prelude.{Some, slice_get}
use Rattle.std.proofs.lemmas.List.{take_more}
use Rattle.std.proofs.lemmas.Option.{slice_get_within, get_or_from_slice_get}

pub take-row : {X : Type 0} (rows : List X) (i : ℕ) (row : X) → slice_get rows i ≡ Some row → take (i + 1) rows ≡ take i rows ++ row ∷ []
take-row rows i row is = take_more rows i row (slice_get_within rows i row is) ∙ ap (λ x. take i rows ++ x ∷ []) (get_or_from_slice_get rows i row row is)

-- what takes the rows before, and then the next, takes the rows up to it
pub takes-row : {X O : Type 0} (takes : O → List X → O → Type 0) → ((a b c : O) (us vs : List X) → takes a us b → takes b vs c → takes a (us ++ vs) c) → (rows : List X) (i : ℕ) (row : X) → slice_get rows i ≡ Some row → (a b c : O) → takes a (take i rows) b → takes b (row ∷ []) c → takes a (take (i + 1) rows) c
takes-row takes on rows i row is a b c h k = subst (λ l. takes a l c) (sym (take-row rows i row is)) (on a b c (take i rows) (row ∷ []) h k)
