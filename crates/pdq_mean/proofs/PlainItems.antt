-- A plain item of a group is the cell of its first choice.
use Rattle.std.proofs.Common.{◌≡◌, ◌<◌, ◌≤◌, ◌+◌, ℕ, zero, suc, not, cond, List, [], ◌∷◌, Bool, true, false, ◌&&◌, ◌==◌, refl, sym, ap, ap₂, ◌∙◌, arith, length, get_or, map, Contains, Option, Some, None, unwrap_or, true≢false, eqb-true, lt-ltb, lt_of_le_of_lt}
use Rattle.std.specs.List.{position, position_or_len, prefix_len}
use Rattle.std.proofs.lemmas.Cmp.{nat_eq_equiv}
use Rattle.std.proofs.lemmas.List.Quantifiers.{position-Some}
use Rattle.pdq_value.specs.declared.cells.Cell.TheVariants.{Nothing}
use Rattle.pdq_value.specs.Cells.{cell_at}
use Rattle.pdq_query.specs.declared.query.At.{At}
use Rattle.pdq_query.specs.declared.query.Item.TheVariants.{Plain}
use Rattle.pdq_query.specs.Queries.{QueryView}
use Rattle.pdq_query.specs.Conditions.{Choice, cell_in}
use Rattle.pdq_query.specs.Folds.{is_column, item_of_group}
use Rattle.pdq_mean.specs.Groups.{first_cell, first_key}
use Rattle.pdq_mean.proofs.Kept.{get_or-mapped}

both_hold : (a b : Bool) → (a && b) ≡ true → (a ≡ true) × (b ≡ true)
both_hold true b e = (refl, e)
both_hold false b e = absurd (true≢false (sym e))

same_column : (a b : At) → is_column a b ≡ true → b ≡ a
same_column a b e =
    let parts = both_hold (a.table == b.table) (a.column == b.column) e in
    ap₂ (λ t c. let at : At = record { table = t; column = c } in at) (sym (eqb-true a.table b.table parts.0)) (sym (eqb-true a.column b.column parts.1))

itself : (a : At) → is_column a a ≡ true
itself a = ap₂ (λ x y. x && y) (nat_eq_equiv.refl a.table) (nat_eq_equiv.refl a.column)

module _ {X : Type 0} (p : X → Bool) where
  -- what passes is not before the first that passes
  first_before : (xs : List X) (k : ℕ) (x : X) → k < length xs → get_or xs k x ≡ x → p x ≡ true → position_or_len p xs ≤ k
  first_before [] k x below is e = absurd (omega arith)
  first_before (y ∷ xs) zero x below is e = none_before (p y) (prefix_len (λ z. not (p z)) xs) (ap p is ∙ e)
    where
      none_before : (b : Bool) (n : ℕ) → b ≡ true → cond (not b) (1 + n) 0 ≤ 0
      none_before true n e = omega arith
      none_before false n e = absurd (true≢false (sym e))
  first_before (y ∷ xs) (suc k) x below is e = no_later (p y) (position_or_len p xs) k (first_before xs k x (omega arith) is e)
    where
      no_later : (b : Bool) (n k : ℕ) → n ≤ k → cond (not b) (1 + n) 0 ≤ suc k
      no_later true n k h = omega arith
      no_later false n k h = omega arith

  is_found : (xs : List X) (k : ℕ) (x : X) → k < length xs → get_or xs k x ≡ x → p x ≡ true → position p xs ≡ Some (position_or_len p xs)
  is_found xs k x below is e = ap (λ b. cond b (Some (position_or_len p xs)) None) (lt-ltb (position_or_len p xs) (length xs) (lt_of_le_of_lt (first_before xs k x below is e) below))

pub get_or-any : {X : Type 0} (xs : List X) (i : ℕ) (d e : X) → i < length xs → get_or xs i d ≡ get_or xs i e
get_or-any [] i d e below = absurd (omega arith)
get_or-any (x ∷ xs) zero d e below = refl
get_or-any (x ∷ xs) (suc i) d e below = get_or-any xs i d e (omega arith)

plain_at : (c : Choice) (groups : List At) (a : At) → Contains groups a → (o : Option ℕ) → position (is_column a) groups ≡ o → cell_at (unwrap_or o 0) (map (cell_in c) groups) ≡ cell_in c a
plain_at c groups a has None e = let found = is_found (is_column a) groups has.0 a has.1 has.2 (itself a) in cc
plain_at c groups a has (Some i) e =
    let found = position-Some (is_column a) groups i a e in
    get_or-mapped (cell_in c) groups i (get_or groups i a) Nothing found.0 (get_or-any groups i a (get_or groups i a) found.0) ∙ ap (cell_in c) (same_column a (get_or groups i a) found.1)

pub item_of_group-plain : (q : QueryView) (cs : List Choice) (a : At) → Contains q.groups a → item_of_group q (first_key q cs) cs (Plain a) ≡ first_cell a cs
unfolding item_of_group
item_of_group-plain q [] a has = refl
item_of_group-plain q (c ∷ cs) a has = plain_at c q.groups a has (position (is_column a) q.groups) refl
