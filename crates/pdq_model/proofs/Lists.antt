-- Lists of rows: what a test of all of them says of each, and what is left where one is taken out or changed.
use Rattle.std.proofs.Common.{ℕ, zero, suc, ◌≡◌, ◌+◌, ◌<◌, ◌≤◌, List, [], ◌∷◌, Option, None, Some, Bool, true, false, length, get_or, take, drop, refl, sym, ap, ◌∙◌, arith}
use Rattle.std.specs.Prelude.{All, remove, position, slice_get, slice_set, sum_by}
use Rattle.std.proofs.lemmas.List.{take_all, drop_all, append-nil}
use Rattle.std.specs.List.{list_all, list_any, position_or_len}
use Rattle.std.proofs.lemmas.List.Elements.{All-append, All-take, All-drop}
use Rattle.std.proofs.lemmas.List.Folds.{list_all_at, list_any_at}
use Rattle.std.proofs.lemmas.List.Quantifiers.{position-Some}
use Rattle.std.proofs.lemmas.List.Sums.{sum_by-remove, sum_by-set, position_or_len_is}
use Rattle.std.proofs.lemmas.Option.{get_or_from_slice_get, slice_get_within}
use Rattle.std.proofs.lemmas.Bool.{true_from_ne_false, false_from_ne_true, both_ways, lt-ltb}

-- where all pass, each does
pub passes_at : {X : Type 0} (p : X → Bool) (xs : List X) (i : ℕ) (d : X) → list_all p xs ≡ true → i < length xs → p (get_or xs i d) ≡ true
passes_at p xs i d pass within = true_from_ne_false (p (get_or xs i d)) (λ e. both_ways (list_all p xs) (list_all_at p xs i d within e) pass)

-- what is true of each is true of those that are left
pub All_remove : {X : Type 0} (P : X → Type 0) (xs : List X) (i : ℕ) → All P xs → All P (remove xs i)
All_remove P xs i each = All-append P (take i xs) (drop (suc i) xs) (All-take P i xs each) (All-drop P (suc i) xs each)

-- a place that is found is within
pub place_within : {X : Type 0} (p : X → Bool) (xs : List X) (i : ℕ) → position p xs ≡ Some i → i < length xs
place_within p [] i found = grind arith
place_within p (x ∷ xs) i found = (position-Some p (x ∷ xs) i x found).0

-- the row there passes
pub place_passes : {X : Type 0} (p : X → Bool) (xs : List X) (i : ℕ) (x : X) → position p xs ≡ Some i → slice_get xs i ≡ Some x → p x ≡ true
place_passes p xs i x found there = ap p (sym (get_or_from_slice_get xs i x x there)) ∙ (position-Some p xs i x found).1

-- a list of no length has no sum
pub sum_by_none : {X : Type 0} (f : X → ℕ) (xs : List X) → length xs ≡ 0 → sum_by f xs ≡ 0
sum_by_none f [] none = refl
sum_by_none f (x ∷ xs) none = absurd (omega arith)

-- the sum without one of the rows
pub sum_by_without : {X : Type 0} (f : X → ℕ) (xs : List X) (i : ℕ) (x : X) → slice_get xs i ≡ Some x → sum_by f (remove xs i) + f x ≡ sum_by f xs
sum_by_without f xs i x there = ap (λ y. sum_by f (remove xs i) + f y) (sym (get_or_from_slice_get xs i x x there)) ∙ sum_by-remove f xs i x (slice_get_within xs i x there)

-- the sum with one of the rows changed
pub sum_by_changed : {X : Type 0} (f : X → ℕ) (xs : List X) (i : ℕ) (x y : X) → slice_get xs i ≡ Some x → sum_by f (slice_set xs i y) + f x ≡ sum_by f xs + f y
sum_by_changed f xs i x y there = ap (λ z. sum_by f (slice_set xs i y) + f z) (sym (get_or_from_slice_get xs i x x there)) ∙ sum_by-set f xs i y x (slice_get_within xs i x there)

-- within a list there is a row
pub row_at : {X : Type 0} (xs : List X) (i : ℕ) → i < length xs → (x : X) × (slice_get xs i ≡ Some x)
row_at [] i within = absurd (omega arith)
row_at (x ∷ xs) zero within = (x, refl)
row_at (x ∷ xs) (suc i) within = row_at xs i (omega arith)

-- where none passes, this one does not
pub fails_at : {X : Type 0} (p : X → Bool) (xs : List X) (i : ℕ) (x : X) → list_any p xs ≡ false → slice_get xs i ≡ Some x → p x ≡ false
fails_at p xs i x none there = false_from_ne_true (p x) (λ passes. both_ways (list_any p xs) none (list_any_at p xs i x (slice_get_within xs i x there) (ap p (get_or_from_slice_get xs i x x there) ∙ passes)))

-- nor has any a place
pub no_place : {X : Type 0} (p : X → Bool) (xs : List X) → list_any p xs ≡ false → position p xs ≡ None
no_place {X} p xs none = go (position p xs) refl
  where
    go : (o : Option ℕ) → position p xs ≡ o → o ≡ None
    go None found = refl
    go (Some i) found =
        let row = row_at xs i (place_within p xs i found) in
        absurd (both_ways (p row.0) (fails_at p xs i row.0 none row.1) (place_passes p xs i row.0 found row.1))

-- the place of the first that passes
pub place_is : {X : Type 0} (p : X → Bool) (xs : List X) (i : ℕ) (x : X) → slice_get xs i ≡ Some x → p x ≡ true → ((k : ℕ) → k < i → p (get_or xs k x) ≡ false) → position p xs ≡ Some i
place_is p xs i x there passes earlier =
    let within : i < length xs = slice_get_within xs i x there in
    let first : position_or_len p xs ≡ i = position_or_len_is p xs i x (omega arith) earlier (λ h. ap p (get_or_from_slice_get xs i x x there) ∙ passes) in
    rw (first, lt-ltb i (length xs) within) refl

-- past the end no row is left out
pub remove_past : {X : Type 0} (xs : List X) (i : ℕ) → length xs ≤ i → remove xs i ≡ xs
remove_past xs i past = rw (take_all i xs past, drop_all (suc i) xs (omega arith)) (append-nil xs)
