-- Keys, each once.
use Rattle.std.proofs.Common.{◌≡◌, List, [], ◌∷◌, Bool, true, false, not, cond, ◌||◌, Decides, Contains, refl, sym, ap, ap₂, ◌∙◌, subst, length, map, filter, IsPermutation, true≢false, is_eq}
use Rattle.std.specs.List.{IsDistinct, AllByRecursion, remove, dedup}
use Rattle.std.specs.Set.{is_member}
use Rattle.std.specs.Cmp.{Equal-is, tied_itself}
use Rattle.std.proofs.lemmas.Bool.Decides.{same_from_decides}
use Rattle.std.proofs.lemmas.Cmp.{eq_by_cmp_equiv}
use Rattle.std.proofs.lemmas.Map.Made.{is_member-Decides}
use Rattle.std.proofs.lemmas.Map.Keys.{IsDistinct-IsPermutation, IsDistinct-from_sorted}
use Rattle.std.proofs.lemmas.List.Kept.{IsStrictlySortedBy-dedup, Contains-dedup, Contains-from_dedup}
use Rattle.std.proofs.lemmas.List.Sorted.{IsPermutation-refl, IsPermutation-trans, IsPermutation-sym, IsPermutation-cons, IsPermutation-map, IsPermutation-remove, Contains-permutation, length_permutation}
use Rattle.pdq_base.specs.Sorting.{in_order}
use Rattle.pdq_base.proofs.Permutations.{IsPermutation-by_swaps}
use Rattle.pdq_base.proofs.InOrder.{in_order-IsPermutation, in_order-IsSorted}
use Rattle.pdq_value.specs.declared.cells.Cell.{Cell}
use Rattle.pdq_value.specs.Cells.{row_cmp}
use Rattle.pdq_value.proofs.Orders.{row_cmp-IsLinearOrder}
use Rattle.pdq_query.specs.Queries.{QueryView}
use Rattle.pdq_query.specs.Conditions.{Choice}
use Rattle.pdq_query.specs.Folds.{is_grouped, is_row, key_of, keys_of}
use Rattle.pdq_plan.specs.Lists.{once}

or_swap : (a b d : Bool) → (a || (b || d)) ≡ (b || (a || d))
or_swap true true d = refl
or_swap true false d = refl
or_swap false b d = refl

or_rest : (a b d : Bool) → (a ≡ true → b ≡ d) → (a || b) ≡ (a || d) → b ≡ d
or_rest true b d same e = same refl
or_rest false b d same e = e

or_same : (a b d : Bool) → (a ≡ false → b ≡ d) → (a || b) ≡ (a || d)
or_same true b d h = refl
or_same false b d h = h refl

module _ {K : Type 0} (eq : K → K → Bool) (is : (a b : K) → Decides (eq a b) (a ≡ b)) where
  itself : (a : K) → eq a a ≡ true
  itself a = (is a a).1 refl

  none_is : (x : K) (xs : List K) → AllByRecursion (λ y. eq x y ≡ false) xs → is_member eq xs x ≡ false
  none_is x [] h = refl
  none_is x (y ∷ xs) h = ap₂ (λ a b. a || b) h.0 (none_is x xs h.1)

  pub member_moves : (xs ys : List K) → IsPermutation xs ys → (q : K) → is_member eq xs q ≡ is_member eq ys q
  member_moves = IsPermutation-by_swaps (λ xs ys. (q : K) → is_member eq xs q ≡ is_member eq ys q) (λ xs q. refl) (λ xs ys zs h k q. h q ∙ k q) (λ x xs ys h q. ap (λ b. eq q x || b) (h q)) (λ x y xs q. or_swap (eq q x) (eq q y) (is_member eq xs q))

  flips : (x y : K) → eq x y ≡ eq y x
  flips x y = same_from_decides (eq x y) (eq y x) (is x y) ((λ e. sym ((is y x).0 e)), (λ e. (is y x).1 (sym e)))

  -- lists without duplicates that have the same elements
  pub distinct-IsPermutation : (xs ys : List K) → IsDistinct eq xs → IsDistinct eq ys → ((q : K) → is_member eq xs q ≡ is_member eq ys q) → IsPermutation xs ys
  unfolding IsDistinct
  distinct-IsPermutation [] [] h k s = IsPermutation-refl []
  distinct-IsPermutation [] (y ∷ ys) h k s = absurd (true≢false (sym (s y ∙ ap (λ b. b || is_member eq ys y) (itself y))))
  distinct-IsPermutation (x ∷ xs) ys h k s =
      let there : Contains ys x = (is_member-Decides is ys x).0 (sym (s x) ∙ ap (λ b. b || is_member eq xs x) (itself x)) in
      let left = remove ys there.0 in
      let moved : IsPermutation ys (x ∷ left) = IsPermutation-remove ys there.0 x there.1 (sym there.2) in
      let apart : IsDistinct eq (x ∷ left) = IsDistinct-IsPermutation eq flips ys (x ∷ left) moved k in
      let same : (q : K) → is_member eq xs q ≡ is_member eq left q = λ q. or_rest (eq q x) (is_member eq xs q) (is_member eq left q)
      (λ e. subst (λ z. is_member eq xs z ≡ is_member eq left z) (sym ((is q x).0 e)) (none_is x xs h.0 ∙ sym (none_is x left apart.0)))
      (s q ∙ member_moves ys (x ∷ left) moved q) in
      IsPermutation-trans _ _ _ (IsPermutation-cons x xs left (distinct-IsPermutation xs left h.1 apart.1 same)) (IsPermutation-sym _ _ moved)

  all_differ : (x : K) (xs : List K) → AllByRecursion (λ y. eq x y ≡ false) (filter (λ y. not (eq x y)) xs)
  all_differ x [] = tt
  all_differ x (y ∷ xs) = by (eq x y) refl (all_differ x xs)
    where
      by : (b : Bool) → eq x y ≡ b → AllByRecursion (λ y. eq x y ≡ false) (filter (λ y. not (eq x y)) xs) → AllByRecursion (λ y. eq x y ≡ false) (cond (not b) (y ∷ filter (λ y. not (eq x y)) xs) (filter (λ y. not (eq x y)) xs))
      by true e h = h
      by false e h = (e, h)

  kept_all : (P : K → Type 0) (p : K → Bool) (xs : List K) → AllByRecursion P xs → AllByRecursion P (filter p xs)
  kept_all P p [] h = h
  kept_all P p (x ∷ xs) h = by (p x) (kept_all P p xs h.1)
    where
      by : (b : Bool) → AllByRecursion P (filter p xs) → AllByRecursion P (cond b (x ∷ filter p xs) (filter p xs))
      by true r = (h.0, r)
      by false r = r

  distinct_kept : (p : K → Bool) (xs : List K) → IsDistinct eq xs → IsDistinct eq (filter p xs)
  unfolding IsDistinct
  distinct_kept p [] h = h
  distinct_kept p (x ∷ xs) h = by (p x) (distinct_kept p xs h.1)
    where
      by : (b : Bool) → IsDistinct eq (filter p xs) → IsDistinct eq (cond b (x ∷ filter p xs) (filter p xs))
      by true r = (kept_all (λ y. eq x y ≡ false) p xs h.0, r)
      by false r = r

  -- each element once
  pub IsDistinct-once : (xs : List K) → IsDistinct eq (once eq xs)
  unfolding IsDistinct
  IsDistinct-once [] = tt
  IsDistinct-once (x ∷ xs) = (all_differ x (once eq xs), distinct_kept (λ y. not (eq x y)) (once eq xs) (IsDistinct-once xs))

  member_kept : (x q : K) → eq q x ≡ false → (xs : List K) → is_member eq (filter (λ y. not (eq x y)) xs) q ≡ is_member eq xs q
  member_kept x q e [] = refl
  member_kept x q e (y ∷ xs) = by (eq x y) refl (member_kept x q e xs)
    where
      by : (b : Bool) → eq x y ≡ b → is_member eq (filter (λ y. not (eq x y)) xs) q ≡ is_member eq xs q → is_member eq (cond (not b) (y ∷ filter (λ y. not (eq x y)) xs) (filter (λ y. not (eq x y)) xs)) q ≡ (eq q y || is_member eq xs q)
      by true f h = h ∙ ap (λ b. b || is_member eq xs q) (sym e ∙ ap (eq q) ((is x y).0 f))
      by false f h = ap (λ b. eq q y || b) h

  pub is_member-once : (xs : List K) (q : K) → is_member eq (once eq xs) q ≡ is_member eq xs q
  is_member-once [] q = refl
  is_member-once (x ∷ xs) q = or_same (eq q x) _ _ (λ e. member_kept x q e (once eq xs) ∙ is_member-once xs q)

pub same_row : (a b : List Cell) → Decides (is_row a b) (a ≡ b)
same_row a b = ((λ e. row_cmp-IsLinearOrder.same a b ((Equal-is (row_cmp a b)).0 e)), (λ e. subst (λ z. is_row a z ≡ true) e (ap is_eq (tied_itself row_cmp-IsLinearOrder.total a))))

each_once : (ks : List (List Cell)) (q : List Cell) → is_member is_row (dedup is_row (in_order row_cmp ks)) q ≡ is_member is_row ks q
each_once ks q = same_from_decides _ _ (is_member-Decides same_row (dedup is_row (in_order row_cmp ks)) q) (
  (λ e. Contains-dedup (eq_by_cmp_equiv row_cmp-IsLinearOrder.total) (λ x y. (same_row x y).0) (in_order row_cmp ks) q (Contains-permutation ks _ q (in_order-IsPermutation row_cmp-IsLinearOrder ks) ((is_member-Decides same_row ks q).0 e))),
  (λ c. (is_member-Decides same_row ks q).1 (Contains-permutation _ ks q (IsPermutation-sym _ _ (in_order-IsPermutation row_cmp-IsLinearOrder ks)) (Contains-from_dedup is_row (in_order row_cmp ks) q c))),
)

-- the keys of a query in the order in which they come first are its keys
pub keys_of-once : (q : QueryView) (cs : List Choice) → is_grouped q ≡ true → IsPermutation (keys_of q cs) (once is_row (map (key_of q) cs))
unfolding keys_of
keys_of-once q cs grouped =
    let all = map (key_of q) cs in
    subst (λ b. IsPermutation (cond b (dedup is_row (in_order row_cmp all)) ([] ∷ [])) (once is_row all)) (sym grouped)
    (distinct-IsPermutation is_row same_row _ (once is_row all) (IsDistinct-from_sorted row_cmp _ (IsStrictlySortedBy-dedup row_cmp-IsLinearOrder.total (λ x y. refl) _ (in_order-IsSorted row_cmp-IsLinearOrder all))) (IsDistinct-once is_row same_row all)
    (λ k. each_once all k ∙ sym (is_member-once is_row same_row all k)))

-- the keys of the same choices in another order are as many
pub length-keys_of : (q : QueryView) (cs ds : List Choice) → is_grouped q ≡ true → IsPermutation cs ds → length (keys_of q cs) ≡ length (once is_row (map (key_of q) ds))
length-keys_of q cs ds grouped h =
    let here = keys_of-once q cs grouped in
    let moved = distinct-IsPermutation is_row same_row (once is_row (map (key_of q) cs)) (once is_row (map (key_of q) ds)) (IsDistinct-once is_row same_row (map (key_of q) cs)) (IsDistinct-once is_row same_row (map (key_of q) ds))
    (λ k. is_member-once is_row same_row (map (key_of q) cs) k ∙ member_moves is_row same_row (map (key_of q) cs) (map (key_of q) ds) (IsPermutation-map (key_of q) cs ds h) k ∙ sym (is_member-once is_row same_row (map (key_of q) ds) k)) in
    sym (length_permutation (keys_of q cs) (once is_row (map (key_of q) ds)) (IsPermutation-trans _ _ _ here moved))
