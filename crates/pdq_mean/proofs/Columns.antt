-- Columns of choices, one choice more, and their folds.
use Rattle.std.proofs.Common.{◌≡◌, ◌<◌, ◌≤◌, ◌+◌, ◌++◌, ℕ, zero, suc, List, [], ◌∷◌, sym, ap, ◌∙◌, arith, length, get_or, map, take, max, ℤ, pos, ◌+ℤ◌, nat_abs, add-one}
use Rattle.std.proofs.Math.IntN.{+ℤ_assoc, +ℤ_comm}
use Rattle.std.specs.Global.{Vec}
use Rattle.std.proofs.lemmas.Int.{ints}
use Rattle.std.proofs.lemmas.List.{map-append}
use Rattle.pdq_value.specs.declared.cells.Cell.{Cell}
use Rattle.pdq_value.specs.Cells.{number_of, scale_of}
use Rattle.pdq_value.specs.Tables.{TableView}
use Rattle.pdq_query.specs.Queries.{QueryView}
use Rattle.pdq_query.specs.Conditions.{Choice}
use Rattle.pdq_query.specs.Folds.{scale_in, total_of}
use Rattle.pdq_mean.specs.Loops.{chosen}
use Rattle.pdq_mean.specs.Groups.{choices_of}

pub total_of-append : (cs : List Cell) (c : Cell) → total_of (cs ++ c ∷ []) ≡ total_of cs +ℤ number_of c
total_of-append [] c = +ℤ_comm (number_of c) (pos 0)
total_of-append (x ∷ cs) c = ap (λ z. number_of x +ℤ z) (total_of-append cs c) ∙ sym (+ℤ_assoc (number_of x) (total_of cs) (number_of c))

pub scale_in-append : (cs : List Cell) (c : Cell) → scale_in (cs ++ c ∷ []) ≡ max (scale_in cs) (scale_of c)
scale_in-append [] c = omega arith
scale_in-append (x ∷ cs) c = let h = scale_in-append cs c in omega arith

pub nat_abs-sum : (a b : ℤ) (m n : ℕ) → nat_abs a ≤ m → nat_abs b ≤ n → nat_abs (a +ℤ b) ≤ m + n
nat_abs-sum a b m n h k = omega (arith, ints)

module _ (tables : List TableView) (q : QueryView) where
  choices_more : (vs : List (Vec ℕ)) (i : ℕ) (v : Vec ℕ) → i < length vs → v ≡ get_or vs i v → choices_of tables q (take (suc i) vs) ≡ choices_of tables q (take i vs) ++ chosen tables q v.items ∷ []
  choices_more [] i v below is = absurd (omega arith)
  choices_more (w ∷ vs) zero v below is = ap (λ (u : Vec ℕ). chosen tables q u.items ∷ []) (sym is)
  choices_more (w ∷ vs) (suc i) v below is = ap (λ l. chosen tables q w.items ∷ l) (choices_more vs i v (omega arith) is)

  -- one choice more
  pub choices_of-more : (vs : List (Vec ℕ)) (i : ℕ) (v : Vec ℕ) → i < length vs → v ≡ get_or vs i v → choices_of tables q (take (i + 1) vs) ≡ choices_of tables q (take i vs) ++ chosen tables q v.items ∷ []
  choices_of-more vs i v below is = rw add-one (choices_more vs i v below is)

  pub mapped-more : {X : Type 0} (f : Choice → X) (vs : List (Vec ℕ)) (i : ℕ) (v : Vec ℕ) → i < length vs → v ≡ get_or vs i v → map f (choices_of tables q (take (i + 1) vs)) ≡ map f (choices_of tables q (take i vs)) ++ f (chosen tables q v.items) ∷ []
  mapped-more f vs i v below is = ap (map f) (choices_of-more vs i v below is) ∙ map-append f (choices_of tables q (take i vs)) (chosen tables q v.items ∷ [])
