-- One walk over places in the order of their keys numbers the keys.
use Rattle.std.proofs.Common.{◌≡◌, ◌⊎◌, inl, inr, ◌≢◌, ◌+◌, ◌-◌, ◌<◌, ◌≤◌, ℕ, zero, suc, List, [], ◌∷◌, ◌++◌, Bool, true, false, cond, Decides, Some, refl, sym, ap, ap₂, ◌∙◌, subst, arith, add-one, length, get_or, map, set, slice_get, slice_index, take, All, IsPermutation, IsSorted, is_eq}
use Rattle.std.specs.Global.{Vec}
use Rattle.std.specs.List.{dedup, dedup_from, range_with_len}
use Rattle.std.specs.Ordering.{is_ne}
use Rattle.std.specs.declared.cmp.Ordering.{Ordering}
use Rattle.std.specs.declared.cmp.Ordering.TheVariants.{Less, Equal, Greater}
use Rattle.std.proofs.lemmas.Bool.{cases_eq}
use Rattle.std.proofs.lemmas.List.{get_or-map, get_or-set_other, get_or-set_same, length-map, map-append, same_lists, take_all}
use Rattle.std.proofs.lemmas.List.Elements.{All-map, All-more, All-weaker}
use Rattle.std.proofs.lemmas.List.FromFn.{get_or-map-range_with_len, get_or-range_with_len, length-map-range_with_len, length-range_with_len, map-range_with_len_more}
use Rattle.std.proofs.lemmas.List.Sorted.{All-permutation, IsPermutation-map, IsPermutation-sym}
use Rattle.pdq_base.specs.Sorting.{in_order}
use Rattle.pdq_base.proofs.InOrder.{in_order-from_sorted}
use Rattle.pdq_value.specs.declared.cells.Cell.{Cell}
use Rattle.pdq_value.specs.Cells.{row_cmp}
use Rattle.pdq_value.specs.Tables.{TableView}
use Rattle.pdq_value.proofs.Orders.{row_cmp-IsLinearOrder}
use Rattle.pdq_query.specs.Queries.{QueryView}
use Rattle.pdq_query.specs.Conditions.{Choice}
use Rattle.pdq_query.specs.Folds.{is_grouped, is_row, key_of, keys_of}
use Rattle.pdq_mean.specs.declared.key_prefixes.Prefixed.{Prefixed}
use Rattle.pdq_mean.specs.Groups.{AreNumbersOf, choices_of}
use Rattle.pdq_mean.specs.Loops.{chosen, lists_of}
use Rattle.pdq_mean.specs.Places.{IsPrefixedPlace, IsNumbered, NumbersKeys, key_at, keys_at, prefixed_place_cmp, numbers_at}
use Rattle.pdq_mean.proofs.Grouping.{same_row}
use Rattle.pdq_mean.proofs.PlaceOrders.{keys_sorted, prefixed_places_agree}

module _ {X : Type 0} (same : X → X → Bool) (tells : (a b : X) → Decides (same a b) (a ≡ b)) where
  kept_head : (x : X) (ys : List X) → slice_get (dedup_from same x ys) 0 ≡ Some x
  kept_head x [] = refl
  kept_head x (y ∷ ys) = by (same y x) (kept_head x ys)
    where
      by : (b : Bool) → slice_get (dedup_from same x ys) 0 ≡ Some x → slice_get (cond b (dedup_from same x ys) (x ∷ dedup_from same y ys)) 0 ≡ Some x
      by true deeper = deeper
      by false deeper = refl

  some_kept : (x : X) (ys : List X) → 0 < length (dedup_from same x ys)
  some_kept x [] = omega arith
  some_kept x (y ∷ ys) = by (same y x) (some_kept x ys)
    where
      by : (b : Bool) → 0 < length (dedup_from same x ys) → 0 < length (cond b (dedup_from same x ys) (x ∷ dedup_from same y ys))
      by true deeper = deeper
      by false deeper = omega arith

  -- an element that is not the one before it is one more that is kept
  one_more : (x : X) (ys : List X) (i : ℕ) (d : X) → i < length ys →
      length (dedup_from same x (take (suc i) ys)) ≡ length (dedup_from same x (take i ys)) + cond (same (get_or ys i d) (get_or (x ∷ ys) i d)) 0 1
  one_more x [] i d p = absurd (omega arith)
  one_more x (y ∷ ys) zero d p = by (same y x)
    where
      by : (b : Bool) → length (cond b (x ∷ []) (x ∷ y ∷ [])) ≡ 1 + cond b 0 1
      by true = refl
      by false = refl
  one_more x (y ∷ ys) (suc i) d p = by (same y x) refl (one_more y ys i d (omega arith))
    where
      more : ℕ
      more = cond (same (get_or ys i d) (get_or (y ∷ ys) i d)) 0 1

      by : (b : Bool) → same y x ≡ b → length (dedup_from same y (take (suc i) ys)) ≡ length (dedup_from same y (take i ys)) + more →
          length (cond b (dedup_from same x (take (suc i) ys)) (x ∷ dedup_from same y (take (suc i) ys))) ≡
          length (cond b (dedup_from same x (take i ys)) (x ∷ dedup_from same y (take i ys))) + more
      by true e deeper = subst (λ z. length (dedup_from same z (take (suc i) ys)) ≡ length (dedup_from same z (take i ys)) + more) ((tells y x).0 e) deeper
      by false e deeper = omega (arith, deeper)

  -- of what is kept up to an element the last is that element
  last_is : (x : X) (ys : List X) (i : ℕ) (d : X) → i < length ys → (n : ℕ) → length (dedup_from same x (take (suc i) ys)) ≡ suc n →
      slice_get (dedup_from same x ys) n ≡ Some (get_or ys i d)
  last_is x [] i d p n e = absurd (omega arith)
  last_is x (y ∷ ys) zero d p n e = by (same y x) refl n e
    where
      by : (b : Bool) → same y x ≡ b → (n : ℕ) → length (cond b (x ∷ []) (x ∷ y ∷ [])) ≡ suc n → slice_get (cond b (dedup_from same x ys) (x ∷ dedup_from same y ys)) n ≡ Some y
      by true f zero e = kept_head x ys ∙ ap Some (sym ((tells y x).0 f))
      by true f (suc n) e = absurd (omega (arith, e))
      by false f zero e = absurd (omega (arith, e))
      by false f (suc zero) e = kept_head y ys
      by false f (suc (suc n)) e = absurd (omega (arith, e))
  last_is x (y ∷ ys) (suc i) d p n e = by (same y x) refl n e (λ m. last_is y ys i d (omega arith) m)
    where
      Last : X → ℕ → Type 0
      Last z m = length (dedup_from same z (take (suc i) ys)) ≡ suc m → slice_get (dedup_from same z ys) m ≡ Some (get_or ys i d)

      by : (b : Bool) → same y x ≡ b → (n : ℕ) → length (cond b (dedup_from same x (take (suc i) ys)) (x ∷ dedup_from same y (take (suc i) ys))) ≡ suc n → ((m : ℕ) → Last y m) →
          slice_get (cond b (dedup_from same x ys) (x ∷ dedup_from same y ys)) n ≡ Some (get_or ys i d)
      by true f n e deeper = subst (λ z. Last z n) ((tells y x).0 f) (deeper n) e
      by false f zero e deeper = absurd (omega (arith, e, some_kept y (take (suc i) ys)))
      by false f (suc n) e deeper = deeper n (omega (arith, e))

  pub first_counts : (xs : List X) (i : ℕ) → i ≡ 0 → i < length xs → length (dedup same (take (i + 1) xs)) ≡ length (dedup same (take i xs)) + 1
  first_counts [] i e p = absurd (omega arith)
  first_counts (x ∷ xs) zero e p = refl
  first_counts (x ∷ xs) (suc i) e p = absurd (omega (arith, e))

  counted_next : (xs : List X) (j : ℕ) (d : X) → suc j < length xs →
      length (dedup same (take (suc (suc j)) xs)) ≡ length (dedup same (take (suc j) xs)) + cond (same (get_or xs (suc j) d) (get_or xs j d)) 0 1
  counted_next [] j d p = absurd (omega arith)
  counted_next (x ∷ xs) j d p = one_more x xs j d (omega arith)

  pub next_counts : (xs : List X) (i j : ℕ) (d : X) → i ≡ suc j → i < length xs →
      length (dedup same (take (i + 1) xs)) ≡ length (dedup same (take i xs)) + cond (same (get_or xs i d) (get_or xs j d)) 0 1
  next_counts xs i j d e p =
      ap (λ k. length (dedup same (take k xs))) (add-one i)
      ∙ subst (λ k. length (dedup same (take (suc k) xs)) ≡ length (dedup same (take k xs)) + cond (same (get_or xs k d) (get_or xs j d)) 0 1)
      (sym e) (counted_next xs j d (omega (arith, e)))

  found_at : (xs : List X) (i : ℕ) (d : X) → i < length xs → (n : ℕ) → length (dedup same (take (suc i) xs)) ≡ suc n → slice_get (dedup same xs) n ≡ Some (get_or xs i d)
  found_at [] i d p n e = absurd (omega arith)
  found_at (x ∷ xs) zero d p zero e = kept_head x xs
  found_at (x ∷ xs) zero d p (suc n) e = absurd (omega (arith, e))
  found_at (x ∷ xs) (suc i) d p n e = last_is x xs i d (omega arith) n e

  pub count_found : (xs : List X) (i : ℕ) (d : X) → i < length xs → (n : ℕ) → length (dedup same (take (i + 1) xs)) ≡ n + 1 → slice_get (dedup same xs) n ≡ Some (get_or xs i d)
  count_found xs i d p n e = found_at xs i d p n (ap (λ k. length (dedup same (take k xs))) (sym (add-one i)) ∙ e ∙ add-one n)

  some_so_far : (xs : List X) (i : ℕ) → i < length xs → 0 < length (dedup same (take (suc i) xs))
  some_so_far [] i p = absurd (omega arith)
  some_so_far (x ∷ xs) i p = some_kept x (take i xs)

  pub some_counted : (xs : List X) (i : ℕ) → i < length xs → 0 < length (dedup same (take (i + 1) xs))
  some_counted xs i p = subst (λ k. 0 < length (dedup same (take k xs))) (sym (add-one i)) (some_so_far xs i p)

pub one_more_place : (prefixed : List (Prefixed ℕ)) (l : Prefixed ℕ) (n : ℕ) → map (λ (m : Prefixed ℕ). m.item) prefixed ≡ range_with_len 0 n → l.item ≡ n →
    map (λ (m : Prefixed ℕ). m.item) (prefixed ++ l ∷ []) ≡ range_with_len 0 (n + 1)
one_more_place prefixed l n before is =
    map-append (λ (m : Prefixed ℕ). m.item) prefixed (l ∷ []) ∙ ap₂ (λ ms k. ms ++ k ∷ []) before is ∙ sym (one_more_number 0 n n (omega arith))
  where
    one_more_number : (a n j : ℕ) → a + n ≡ j → range_with_len a (n + 1) ≡ range_with_len a n ++ j ∷ []
    one_more_number a n j e = sym (same_numbers (range_with_len a (n + 1))) ∙ map-range_with_len_more (λ k. k) a n j e ∙ ap (λ ms. ms ++ j ∷ []) (same_numbers (range_with_len a n))
      where
        same_numbers : (ks : List ℕ) → map (λ k. k) ks ≡ ks
        same_numbers [] = refl
        same_numbers (k ∷ ks) = ap (λ ms. k ∷ ms) (same_numbers ks)

one_way : (o : Ordering) → ◌≡◌ {A = ℕ} (cond (is_eq o) 0 1) (cond (is_ne o) 1 0)
one_way Less = refl
one_way Equal = refl
one_way Greater = refl

counted_by : (ks : List (List Cell)) (i : ℕ) (x y : List Cell) (b : Bool) → 0 < i → i < length ks → get_or ks i [] ≡ x → get_or ks (i - 1) [] ≡ y →
    ◌≡◌ {A = ℕ} (cond (is_row x y) 0 1) (cond b 1 0) → length (dedup is_row (take (i + 1) ks)) ≡ length (dedup is_row (take i ks)) + cond b 1 0
counted_by ks i x y b z p here before told =
    next_counts is_row same_row ks i (i - 1) [] (omega arith) p
    ∙ ap (λ n. length (dedup is_row (take i ks)) + n) (ap₂ (λ k l. cond (is_row k l) 0 1) here before ∙ told)

module _ (tables : List TableView) (q : QueryView) (choices : List (Vec ℕ)) where
  abbrev keys : List (Prefixed ℕ) → List (List Cell)
  keys prefixed = keys_at tables q choices prefixed

  key_is : (prefixed : List (Prefixed ℕ)) (i : ℕ) (d : Prefixed ℕ) → i < length prefixed → get_or (keys prefixed) i [] ≡ key_at tables q choices (get_or prefixed i d).item
  key_is prefixed i d p = get_or-map (λ (l : Prefixed ℕ). key_at tables q choices l.item) prefixed i d [] p

  how_many : (prefixed : List (Prefixed ℕ)) → length (keys prefixed) ≡ length prefixed
  how_many prefixed = length-map prefixed (λ (l : Prefixed ℕ). key_at tables q choices l.item)

  pub first_key_counts : (prefixed : List (Prefixed ℕ)) (i : ℕ) → i ≡ 0 → i < length prefixed → length (dedup is_row (take (i + 1) (keys prefixed))) ≡ length (dedup is_row (take i (keys prefixed))) + 1
  first_key_counts prefixed i e p = first_counts is_row same_row (keys prefixed) i e (omega (arith, how_many prefixed))

  -- a key that is not the one before it is one more
  pub next_key_counts : (prefixed : List (Prefixed ℕ)) → All (IsPrefixedPlace tables q choices) prefixed → (i : ℕ) (d e : Prefixed ℕ) (b : Bool) → 0 < i → i < length prefixed →
      b ≡ is_ne (prefixed_place_cmp tables q choices (get_or prefixed i d) (get_or prefixed (i - 1) e)) →
      length (dedup is_row (take (i + 1) (keys prefixed))) ≡ length (dedup is_row (take i (keys prefixed))) + cond b 1 0
  next_key_counts prefixed prefixes i d e b z p is =
      let x = get_or prefixed i d in
      let y = get_or prefixed (i - 1) e in
      let in_front : i - 1 < length prefixed = omega arith in
      let told = one_way (row_cmp (key_at tables q choices x.item) (key_at tables q choices y.item))
      ∙ ap (λ o. cond (is_ne o) 1 0) (sym (prefixed_places_agree tables q choices x y (prefixes i d p) (prefixes (i - 1) e in_front))) ∙ ap (λ t. cond t 1 0) (sym is) in
      counted_by (keys prefixed) i _ _ b z (omega (arith, how_many prefixed)) (key_is prefixed i d p) (key_is prefixed (i - 1) e in_front) told

  pub some_key : (prefixed : List (Prefixed ℕ)) (i : ℕ) → i < length prefixed → 0 < length (dedup is_row (take (i + 1) (keys prefixed)))
  some_key prefixed i p = some_counted is_row same_row (keys prefixed) i (omega (arith, how_many prefixed))

  -- one more place has its number, and those that have theirs keep it
  pub one_more_numbered : (prefixed : List (Prefixed ℕ)) → All (IsPrefixedPlace tables q choices) prefixed → (i : ℕ) (d : Prefixed ℕ) (numbers : List ℕ) (m : ℕ) → i < length prefixed →
      length numbers ≡ length choices →
      length (dedup is_row (take (i + 1) (keys prefixed))) ≡ m + 1 → All (IsNumbered tables q choices (dedup is_row (keys prefixed)) numbers) (take i prefixed) →
      All (IsNumbered tables q choices (dedup is_row (keys prefixed)) (set numbers (get_or prefixed i d).item m)) (take (i + 1) prefixed)
  one_more_numbered prefixed prefixes i d numbers m p size e h = All-more New prefixed i d p (All-weaker Old New kept (take i prefixed) h) here
    where
      place : ℕ
      place = (get_or prefixed i d).item

      Old : Prefixed ℕ → Type 0
      Old = IsNumbered tables q choices (dedup is_row (keys prefixed)) numbers

      New : Prefixed ℕ → Type 0
      New = IsNumbered tables q choices (dedup is_row (keys prefixed)) (set numbers place m)

      written : (n : ℕ) → n ≡ place → slice_get (dedup is_row (keys prefixed)) (slice_index (set numbers place m) n) ≡ Some (key_at tables q choices n)
      written n same =
          ap (λ k. slice_get (dedup is_row (keys prefixed)) (slice_index (set numbers place m) k)) same
          ∙ ap (slice_get (dedup is_row (keys prefixed))) (get_or-set_same numbers place m 0 (omega (arith, (prefixes i d p).within, size)))
          ∙ count_found is_row same_row (keys prefixed) i [] (omega (arith, p, how_many prefixed)) m e
          ∙ ap Some (key_is prefixed i d p)
          ∙ ap (λ k. Some (key_at tables q choices k)) (sym same)

      here : New (get_or prefixed i d)
      here = written place refl

      kept : (l : Prefixed ℕ) → Old l → New l
      kept l old = by (cases_eq l.item place)
        where
          by : (l.item ≡ place) ⊎ (l.item ≢ place) → New l
          by (inl same) = written l.item same
          by (inr other) = ap (slice_get (dedup is_row (keys prefixed))) (get_or-set_other numbers place l.item m 0 other) ∙ old

  -- after the last place all have theirs
  pub all_numbered : (prefixed : List (Prefixed ℕ)) (i : ℕ) (numbers : List ℕ) (count : ℕ) → length prefixed ≤ i → length numbers ≡ length choices →
      All (IsNumbered tables q choices (dedup is_row (keys prefixed)) numbers) (take i prefixed) → count ≡ length (dedup is_row (take i (keys prefixed))) →
      NumbersKeys tables q choices prefixed numbers count
  all_numbered prefixed i numbers count p size h counted = record {
    one_each = size;
    each = subst (All (IsNumbered tables q choices (dedup is_row (keys prefixed)) numbers)) (take_all i prefixed p) h;
    all = counted ∙ ap (λ ks. length (dedup is_row ks)) (take_all i (keys prefixed) (omega (arith, p, how_many prefixed)));
  }

  choice_at : (k : ℕ) → k < length choices → get_or (choices_of tables q choices) k (chosen tables q []) ≡ chosen tables q (numbers_at choices k)
  choice_at k p = get_or-map (chosen tables q) (lists_of choices) k [] (chosen tables q []) (omega (arith, p, length-map choices (λ (v : Vec ℕ). v.items)))

  as_many : length (choices_of tables q choices) ≡ length choices
  as_many = length-map (lists_of choices) (chosen tables q) ∙ length-map choices (λ (v : Vec ℕ). v.items)

  -- what is told of each choice by its place is told of the choices
  of_each : {A : Type 0} (f : Choice → A) (k : ℕ) (d : A) → k < length choices → get_or (map f (choices_of tables q choices)) k d ≡ f (chosen tables q (numbers_at choices k))
  of_each f k d p = get_or-map f (choices_of tables q choices) k (chosen tables q []) d (omega (arith, p, as_many)) ∙ ap f (choice_at k p)

  -- the keys at all places are those of all choices
  all_keys : map (key_at tables q choices) (range_with_len 0 (length choices)) ≡ map (key_of q) (choices_of tables q choices)
  all_keys = same_lists _ _ size (λ k d p.
      get_or-map-range_with_len (key_at tables q choices) 0 (length choices) k k d (within k p) (omega arith) ∙ sym (of_each (key_of q) k d (within k p)))
    where
      size_of_keys : length (map (key_at tables q choices) (range_with_len 0 (length choices))) ≡ length choices
      size_of_keys = length-map-range_with_len (key_at tables q choices) 0 (length choices)

      size : length (map (key_at tables q choices) (range_with_len 0 (length choices))) ≡ length (map (key_of q) (choices_of tables q choices))
      size = size_of_keys ∙ sym (length-map (choices_of tables q choices) (key_of q) ∙ as_many)

      within : (k : ℕ) → k < length (map (key_at tables q choices) (range_with_len 0 (length choices))) → k < length choices
      within k p = omega (arith, p, size_of_keys)

  by_places : (prefixed : List (Prefixed ℕ)) → map (key_at tables q choices) (map (λ (l : Prefixed ℕ). l.item) prefixed) ≡ keys prefixed
  by_places [] = refl
  by_places (l ∷ prefixed) = ap (λ ks. key_at tables q choices l.item ∷ ks) (by_places prefixed)

  keys_moved : (before prefixed : List (Prefixed ℕ)) → map (λ (l : Prefixed ℕ). l.item) before ≡ range_with_len 0 (length choices) → IsPermutation before prefixed →
      IsPermutation (map (key_of q) (choices_of tables q choices)) (keys prefixed)
  keys_moved before prefixed places moved =
      subst (λ ks. IsPermutation ks (keys prefixed)) (sym (by_places before) ∙ ap (map (key_at tables q choices)) places ∙ all_keys)
      (IsPermutation-map (λ (l : Prefixed ℕ). key_at tables q choices l.item) before prefixed moved)

  module _ (before prefixed : List (Prefixed ℕ)) (places : map (λ (l : Prefixed ℕ). l.item) before ≡ range_with_len 0 (length choices)) (moved : IsPermutation before prefixed) where
    -- what holds at each place in the list holds at each place
    at_each : (P : ℕ → Type 0) → All (λ (l : Prefixed ℕ). P l.item) prefixed → (k : ℕ) → k < length choices → P k
    at_each P h k p =
        let item = λ (l : Prefixed ℕ). l.item in
        let back : IsPermutation (map item prefixed) (map item before) = IsPermutation-sym _ _ (IsPermutation-map item before prefixed moved) in
        let all : All P (range_with_len 0 (length choices)) = subst (All P) places (All-permutation P (map item prefixed) (map item before) back (All-map P item prefixed h)) in
        let here : get_or (range_with_len 0 (length choices)) k 0 ≡ k = omega (arith, get_or-range_with_len 0 (length choices) k 0 p) in
        subst P here (all k 0 (omega (arith, p, length-range_with_len 0 (length choices))))

    each_numbered : (ks : List (List Cell)) (numbers : List ℕ) → length numbers ≡ length choices → All (IsNumbered tables q choices ks numbers) prefixed →
        map (slice_get ks) numbers ≡ map (λ c. Some (key_of q c)) (choices_of tables q choices)
    each_numbered ks numbers size h = same_lists _ _ same (λ k d p.
        let here : k < length numbers = omega (arith, p, length-map numbers (slice_get ks)) in
        let within : k < length choices = omega (arith, here, size) in
        get_or-map (slice_get ks) numbers k 0 d here
        ∙ at_each (λ n. slice_get ks (slice_index numbers n) ≡ Some (key_at tables q choices n)) h k within
        ∙ sym (of_each (λ c. Some (key_of q c)) k d within))
      where
        same : length (map (slice_get ks) numbers) ≡ length (map (λ c. Some (key_of q c)) (choices_of tables q choices))
        same = length-map numbers (slice_get ks) ∙ size ∙ sym (length-map (choices_of tables q choices) (λ c. Some (key_of q c)) ∙ as_many)

    -- the numbers of the keys of places in their order are those of the keys of the choices
    pub numbers_are : is_grouped q ≡ true → All (IsPrefixedPlace tables q choices) prefixed → IsSorted (prefixed_place_cmp tables q choices) prefixed → (numbers : List ℕ) (count : ℕ) →
        length numbers ≡ length choices →
        All (IsNumbered tables q choices (dedup is_row (keys prefixed)) numbers) prefixed → count ≡ length (dedup is_row (keys prefixed)) →
        AreNumbersOf q (choices_of tables q choices) numbers count
    unfolding keys_of
    numbers_are grouped prefixes sorted numbers count size h counted =
        let cs = choices_of tables q choices in
        let in_their_order : keys prefixed ≡ in_order row_cmp (map (key_of q) cs) =
        in_order-from_sorted row_cmp-IsLinearOrder (map (key_of q) cs) (keys prefixed) (keys_moved before prefixed places moved) (keys_sorted tables q choices prefixed prefixes sorted) in
        let so : keys_of q cs ≡ dedup is_row (keys prefixed) =
        ap (λ b. cond b (dedup is_row (in_order row_cmp (map (key_of q) cs))) ([] ∷ [])) grouped ∙ ap (dedup is_row) (sym in_their_order) in
        record {
          each = ap (λ ks. map (slice_get ks) numbers) so ∙ each_numbered (dedup is_row (keys prefixed)) numbers size h;
          all = counted ∙ ap length (sym so);
        }
