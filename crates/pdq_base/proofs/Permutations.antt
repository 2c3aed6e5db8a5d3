-- What holds of two lists where one is a permutation of the other.
use Rattle.std.proofs.Common.{ℕ, zero, suc, ◌<◌, List, [], ◌∷◌, ◌++◌, length, get_or, set, subst, arith, IsPermutation, flat_map, filter, cond}
use Rattle.std.proofs.lemmas.List.Sorted.{IsPermutation-keeps, IsPermutation-refl, IsPermutation-trans, IsPermutation-cons, IsPermutation-middle, IsPermutation-append_left, IsPermutation-append_right, IsPermutation-append_comm}
use Rattle.std.proofs.Common.{append_assoc, Bool, true, false}
use Rattle.std.proofs.lemmas.List.Edits.{swap_is}

first_of : {X : Type 0} (l : List X) → 0 < length l → X
first_of [] p = absurd (omega arith)
first_of (x ∷ l) p = x

module _ {X : Type 0} (R : List X → List X → Type 0) (same : (xs : List X) → R xs xs) (chain : (xs ys zs : List X) → R xs ys → R ys zs → R xs zs) (under : (x : X) (xs ys : List X) → R xs ys → R (x ∷ xs) (x ∷ ys)) (front : (x y : X) (xs : List X) → R (x ∷ y ∷ xs) (y ∷ x ∷ xs)) where
  to_place : (x : X) (l : List X) (j : ℕ) (d : X) → j < length l → R (x ∷ l) (get_or l j d ∷ set l j x)
  to_place x [] j d p = absurd (omega arith)
  to_place x (y ∷ l) zero d p = front x y l
  to_place x (y ∷ l) (suc j) d p = chain _ (y ∷ x ∷ l) _ (front x y l) (chain _ (y ∷ get_or l j d ∷ set l j x) _ (under y _ _ (to_place x l j d (omega arith))) (front y (get_or l j d) (set l j x)))

  one_swap : (l : List X) (i j : ℕ) (d : X) → i < length l → j < length l → R l (set (set l i (get_or l j d)) j (get_or l i d))
  one_swap [] i j d p q = absurd (omega arith)
  one_swap (x ∷ l) zero zero d p q = same (x ∷ l)
  one_swap (x ∷ l) zero (suc j) d p q = to_place x l j d (omega arith)
  one_swap (x ∷ l) (suc i) zero d p q = to_place x l i d (omega arith)
  one_swap (x ∷ l) (suc i) (suc j) d p q = under x _ _ (one_swap l i j d (omega arith) (omega arith))

  -- what holds of a list and itself, in a chain, under a head and of two heads swapped, holds of a list and its permutation
  pub IsPermutation-by_swaps : (xs ys : List X) → IsPermutation xs ys → R xs ys
  IsPermutation-by_swaps xs = IsPermutation-keeps xs (R xs) (same xs) (λ l i j p q h. let d = first_of l (omega arith) in chain xs l _ h (subst (R l) (swap_is l i j d p q) (one_swap l i j d p q)))

module _ {A X : Type 0} (f : A → List X) where
  two_parts : (us vs ws : List X) → IsPermutation (us ++ (vs ++ ws)) (vs ++ (us ++ ws))
  two_parts us vs ws = subst (IsPermutation (us ++ (vs ++ ws))) (append_assoc vs us ws) (subst (λ l. IsPermutation l ((vs ++ us) ++ ws)) (append_assoc us vs ws) (IsPermutation-append_left ws _ _ (IsPermutation-append_comm us vs)))

  pub flat_map-IsPermutation : (xs ys : List A) → IsPermutation xs ys → IsPermutation (flat_map f xs) (flat_map f ys)
  flat_map-IsPermutation = IsPermutation-by_swaps (λ xs ys. IsPermutation (flat_map f xs) (flat_map f ys)) (λ xs. IsPermutation-refl _) (λ xs ys zs h k. IsPermutation-trans _ _ _ h k) (λ x xs ys h. IsPermutation-append_right (f x) _ _ h) (λ x y xs. two_parts (f x) (f y) (flat_map f xs))

module _ {X : Type 0} (p : X → Bool) where
  kept : (b : Bool) (x : X) (us vs : List X) → IsPermutation us vs → IsPermutation (cond b (x ∷ us) us) (cond b (x ∷ vs) vs)
  kept true x us vs h = IsPermutation-cons x us vs h
  kept false x us vs h = h

  kept_two : (b d : Bool) (x y : X) (us : List X) → IsPermutation (cond b (x ∷ cond d (y ∷ us) us) (cond d (y ∷ us) us)) (cond d (y ∷ cond b (x ∷ us) us) (cond b (x ∷ us) us))
  kept_two true true x y us = IsPermutation-middle (x ∷ []) y us
  kept_two true false x y us = IsPermutation-refl _
  kept_two false true x y us = IsPermutation-refl _
  kept_two false false x y us = IsPermutation-refl _

  pub filter-IsPermutation : (xs ys : List X) → IsPermutation xs ys → IsPermutation (filter p xs) (filter p ys)
  filter-IsPermutation = IsPermutation-by_swaps (λ xs ys. IsPermutation (filter p xs) (filter p ys)) (λ xs. IsPermutation-refl _) (λ xs ys zs h k. IsPermutation-trans _ _ _ h k) (λ x xs ys h. kept (p x) x _ _ h) (λ x y xs. kept_two (p x) (p y) x y (filter p xs))
