-- A list has one sorted permutation.
use Rattle.std.proofs.Common.{◌≡◌, ℕ, zero, suc, ◌+◌, Bool, true, false, cond, List, [], ◌∷◌, refl, sym, ap, ap₂, ◌∙◌, arith, All, AllPairs, count_by, sum_by, IsPermutation, IsSortedBy}
use Rattle.std.specs.Cmp.{IsStrictWeakOrder}
use Rattle.std.proofs.lemmas.List.Sorted.{sorted_far, sum_by-IsPermutation}
use Rattle.std.proofs.lemmas.List.Sums.{sum_by-cons}
use Rattle.std.proofs.lemmas.List.Elements.{All-head, All-tail}

one_or_none : (b : Bool) → ◌≡◌ {A = ℕ} (cond b 1 0) 0 → b ≡ false
one_or_none true e = absurd (omega (arith, e))
one_or_none false e = refl

module _ {X : Type 0} where
  none_counted : (p : X → Bool) (xs : List X) → All (λ x. p x ≡ false) xs → count_by p xs ≡ 0
  none_counted p [] h = refl
  none_counted p (x ∷ xs) h = sum_by-cons (λ z. cond (p z) 1 0) x xs ∙ ap₂ (λ b n. cond b 1 0 + n) (All-head (λ z. p z ≡ false) x xs h) (none_counted p xs (All-tail (λ z. p z ≡ false) x xs h))

  head_fails : (p : X → Bool) (x : X) (xs : List X) → count_by p (x ∷ xs) ≡ 0 → p x ≡ false
  head_fails p x xs e = one_or_none (p x) (omega (arith, e, sum_by-cons (λ z. cond (p z) 1 0) x xs))

  -- each function has the same sum over both
  abbrev pub HasEqualSums : List X → List X → Type 0
  HasEqualSums xs ys = (f : X → ℕ) → sum_by f xs ≡ sum_by f ys

module _ {X : Type 0} (lt : X → X → Bool) where
  abbrev pub Rises : List X → Type 0
  Rises xs = AllPairs (λ x y. lt y x ≡ false) xs

  pub tail : (x : X) (xs : List X) → Rises (x ∷ xs) → Rises xs
  tail x xs h i j d p q = h (suc i) (suc j) d (omega arith) (omega arith)

  pub after : (x : X) (xs : List X) → Rises (x ∷ xs) → All (λ z. lt z x ≡ false) xs
  after x xs h k d w = h zero (suc k) d (omega arith) (omega arith)

module _ {X : Type 0} (lt : X → X → Bool) (o : IsStrictWeakOrder lt) (one : (x y : X) → lt x y ≡ false → lt y x ≡ false → x ≡ y) where
  self : (x : X) (b : Bool) → lt x x ≡ b → lt x x ≡ false
  self x true e = o.one_way x x e
  self x false e = e

  -- no element is less than the first
  least : (x : X) (xs : List X) → Rises lt (x ∷ xs) → All (λ z. lt z x ≡ false) (x ∷ xs)
  least x xs h zero d p = self x _ refl
  least x xs h (suc k) d p = h zero (suc k) d (omega arith) (omega arith)

  heads : (x : X) (xs : List X) (y : X) (ys : List X) → Rises lt (y ∷ ys) → HasEqualSums (x ∷ xs) (y ∷ ys) → lt x y ≡ false
  heads x xs y ys h s = head_fails (λ z. lt z y) x xs (s (λ z. cond (lt z y) 1 0) ∙ none_counted (λ z. lt z y) (y ∷ ys) (least y ys h))

  rising_same : (xs ys : List X) → Rises lt xs → Rises lt ys → HasEqualSums xs ys → xs ≡ ys
  rising_same [] [] h k s = refl
  rising_same [] (y ∷ ys) h k s = absurd (omega (arith, s (λ _. 1), sum_by-cons (λ _. 1) y ys))
  rising_same (x ∷ xs) [] h k s = absurd (omega (arith, s (λ _. 1), sum_by-cons (λ _. 1) x xs))
  rising_same (x ∷ xs) (y ∷ ys) h k s =
      let e : x ≡ y = one x y (heads x xs y ys k s) (heads y ys x xs h (λ f. sym (s f))) in
      ap₂ (λ a us. a ∷ us) e (rising_same xs ys (tail lt x xs h) (tail lt y ys k) (λ f. omega (arith, s f, sum_by-cons f x xs, sum_by-cons f y ys, ap f e)))

  rises : (xs : List X) → IsSortedBy lt xs → Rises lt xs
  rises xs h i j d p q = sorted_far lt o xs h i j d (omega arith) q

  pub sorted-unique : (xs ys : List X) → IsSortedBy lt xs → IsSortedBy lt ys → IsPermutation xs ys → xs ≡ ys
  sorted-unique xs ys h k s = rising_same xs ys (rises xs h) (rises ys k) (λ f. sym (sum_by-IsPermutation f xs ys s))
