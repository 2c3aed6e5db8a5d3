-- The list in order is the one in_order permutation.
use Rattle.std.proofs.Common.{◌≡◌, ◌+◌, Bool, false, List, [], ◌∷◌, refl, sym, arith, IsPermutation, IsSorted, is_lt}
use Rattle.std.specs.Cmp.{IsStrictWeakOrder}
use Rattle.std.specs.declared.cmp.Ordering.{Ordering}
use Rattle.std.specs.declared.cmp.Ordering.TheVariants.{Less, Equal, Greater}
use Rattle.std.proofs.Common.{ap, true≢false}
use Rattle.std.specs.Ordering.{ordering_reverse}
use Rattle.std.proofs.lemmas.List.MinMax.{ranks_by}
use Rattle.std.proofs.lemmas.List.Sorted.{IsPermutation-refl, IsPermutation-trans, IsPermutation-sym, IsPermutation-cons, IsPermutation-middle, All-permutation}
use Rattle.std.proofs.lemmas.List.Elements.{All-cons, All-nil}
use Rattle.std.proofs.lemmas.List.Kept.{AllPairs-cons}
use Rattle.std.proofs.lemmas.Bool.{cond_both}
use Rattle.pdq_base.specs.Sorting.{IsLinearOrder, in_order, in_order_by, put_in_place}
use Rattle.pdq_base.proofs.SortedLists.{sorted-unique, Rises, tail, after}

module _ {X : Type 0} (lt : X → X → Bool) where
  put_in_place-IsPermutation : (x : X) (ys : List X) → IsPermutation (x ∷ ys) (put_in_place lt x ys)
  put_in_place-IsPermutation x [] = IsPermutation-refl _
  put_in_place-IsPermutation x (y ∷ ys) = cond_both (lt x y) (x ∷ y ∷ ys) (y ∷ put_in_place lt x ys) (IsPermutation (x ∷ y ∷ ys)) (λ _. IsPermutation-refl _)
      (λ _. IsPermutation-trans _ _ _ (IsPermutation-middle (x ∷ []) y ys) (IsPermutation-cons y _ _ (put_in_place-IsPermutation x ys)))

  in_order_by-IsPermutation : (xs : List X) → IsPermutation xs (in_order_by lt xs)
  in_order_by-IsPermutation [] = IsPermutation-refl []
  in_order_by-IsPermutation (x ∷ xs) = IsPermutation-trans _ _ _ (IsPermutation-cons x _ _ (in_order_by-IsPermutation xs)) (put_in_place-IsPermutation x (in_order_by lt xs))

  module _ (o : IsStrictWeakOrder lt) where
    put_in_place-rises : (x : X) (ys : List X) → Rises lt ys → Rises lt (put_in_place lt x ys)
    put_in_place-rises x [] h = AllPairs-cons (λ u v. lt v u ≡ false) x [] (All-nil (λ z. lt z x ≡ false)) h
    put_in_place-rises x (y ∷ ys) h = cond_both (lt x y) (x ∷ y ∷ ys) (y ∷ put_in_place lt x ys) (Rises lt)
        (λ e. AllPairs-cons (λ u v. lt v u ≡ false) x (y ∷ ys) (All-cons (λ z. lt z x ≡ false) y ys (o.one_way x y e) (λ k d w. o.chain _ y x (after lt y ys h k d w) (o.one_way x y e))) h)
        (λ e. AllPairs-cons (λ u v. lt v u ≡ false) y (put_in_place lt x ys) (All-permutation (λ z. lt z y ≡ false) (x ∷ ys) _ (put_in_place-IsPermutation x ys) (All-cons (λ z. lt z y ≡ false) x ys e (after lt y ys h))) (put_in_place-rises x ys (tail lt y ys h)))

    in_order_by-rises : (xs : List X) → Rises lt (in_order_by lt xs)
    in_order_by-rises [] = λ i j d p q. absurd (omega (arith, q))
    in_order_by-rises (x ∷ xs) = put_in_place-rises x (in_order_by lt xs) (in_order_by-rises xs)

not_less : (a b : Ordering) → a ≡ ordering_reverse b → is_lt a ≡ false → is_lt b ≡ false → a ≡ Equal
not_less Less b e p q = absurd (true≢false p)
not_less Equal b e p q = refl
not_less Greater Less e p q = absurd (true≢false q)
not_less Greater Equal e p q = e
not_less Greater Greater e p q = absurd (true≢false (sym (ap is_lt e)))

module _ {X : Type 0} {cmp : X → X → Ordering} (o : IsLinearOrder cmp) where
  pub order : IsStrictWeakOrder (λ x y. is_lt (cmp x y))
  order = ranks_by o.total (λ x. x)

  pub one : (x y : X) → is_lt (cmp x y) ≡ false → is_lt (cmp y x) ≡ false → x ≡ y
  one x y p q = o.same x y (not_less (cmp x y) (cmp y x) (o.total.antisymm x y) p q)

  pub in_order-IsPermutation : (xs : List X) → IsPermutation xs (in_order cmp xs)
  unfolding in_order
  in_order-IsPermutation xs = in_order_by-IsPermutation (λ x y. is_lt (cmp x y)) xs

  pub in_order-IsSorted : (xs : List X) → IsSorted cmp (in_order cmp xs)
  unfolding in_order
  in_order-IsSorted xs k d p q = in_order_by-rises (λ x y. is_lt (cmp x y)) order xs k (k + 1) d (omega arith) q

  -- what a sort of a permutation gives is the list in order
  pub in_order-from_sorted : (xs ys : List X) → IsPermutation xs ys → IsSorted cmp ys → ys ≡ in_order cmp xs
  in_order-from_sorted xs ys s h = sorted-unique (λ x y. is_lt (cmp x y)) order one ys (in_order cmp xs) h (in_order-IsSorted xs) (IsPermutation-trans _ _ _ (IsPermutation-sym _ _ s) (in_order-IsPermutation xs))

  pub in_order-alike : (xs ys : List X) → IsPermutation xs ys → in_order cmp xs ≡ in_order cmp ys
  in_order-alike xs ys s = in_order-from_sorted ys (in_order cmp xs) (IsPermutation-trans _ _ _ (IsPermutation-sym _ _ s) (in_order-IsPermutation xs)) (in_order-IsSorted xs)
