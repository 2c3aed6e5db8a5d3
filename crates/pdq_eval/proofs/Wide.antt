-- Sums and averages as two words, decoded.
use Rattle.std.proofs.Common.{All, suc, ◌≡◌, ℕ, ◌+◌, ◌*◌, ◌/◌, ◌^◌, ◌<◌, ◌≤◌, List, [], ◌∷◌, ◌++◌, Bool, true, false, not, cond, refl, sym, ap, ap₂, ◌∙◌, arith, length, ℤ, pos, negsuc, nat_abs, ◌+ℤ◌, fold, map, int_lt, true≢false}
use Rattle.std.specs.Prelude.{neg_ℤ}
use Rattle.std.specs.Int.{int_div_euclid}
use Rattle.std.proofs.lemmas.Int.{ints}
use Rattle.std.proofs.Math.Nat.{div-le_self}
use Rattle.std.proofs.lemmas.List.{length-map}
use Rattle.std.proofs.lemmas.List.Elements.{All-head, All-map, All-tail}
use Rattle.pdq_base.specs.Words.{is_null}
use Rattle.pdq_value.specs.declared.cells.Cell.{Cell}
use Rattle.pdq_value.specs.declared.cells.Cell.TheVariants.{Nothing, Number}
use Rattle.pdq_value.specs.Averages.{average_of}
use Rattle.pdq_value.specs.Tables.{ShapeView}
use Rattle.pdq_dict.specs.Coding.{word_of}
use Rattle.pdq_dict.proofs.Rising.{Rises}
use Rattle.pdq_query.specs.declared.query.At.{At}
use Rattle.pdq_query.specs.declared.query.Item.{Item}
use Rattle.pdq_query.specs.declared.query.Item.TheVariants as item
use Rattle.pdq_query.specs.Queries.{QueryView}
use Rattle.pdq_query.specs.Folds.{average_cell, sum_of, total_of}
use Rattle.pdq_group.specs.Folds.{average_words, sum_words}
use Rattle.pdq_group.specs.Words.{high_word, low_word, total_of as word_total}
use Rattle.pdq_group.proofs.WideWords.{wide_number-words}
use Rattle.pdq_eval.specs.Results.{group_cells, kind_at, scale_of_kind, wide_cell}
use Rattle.pdq_eval.proofs.Coded.{IsNumberCell, number_word, scale_in-words, small_value, total_of-words}

abs-add : (a b : ℤ) → nat_abs (a +ℤ b) ≤ nat_abs a + nat_abs b
abs-add a b = omega (arith, ints)

total-bound : (a : ℤ) (vs : List ℤ) → All (λ v. nat_abs v < 10 ^ 18) vs → nat_abs (fold ◌+ℤ◌ a vs) ≤ nat_abs a + length vs * 10 ^ 18
total-bound a [] h = omega arith
total-bound a (v ∷ vs) h =
    let one : nat_abs v < 10 ^ 18 = All-head (λ v. nat_abs v < 10 ^ 18) v vs h in
    let rest : nat_abs (fold ◌+ℤ◌ (a +ℤ v) vs) ≤ nat_abs (a +ℤ v) + length vs * 10 ^ 18 = total-bound (a +ℤ v) vs (All-tail (λ v. nat_abs v < 10 ^ 18) v vs h) in
    let sum : nat_abs (a +ℤ v) ≤ nat_abs a + nat_abs v = abs-add a v in
    omega arith

small_quotient : (z : ℤ) → nat_abs z < 10 ^ 18 * 2 ^ 62 → nat_abs (int_div_euclid z (pos (2 ^ 64))) < 10 ^ 18
small_quotient (pos a) h = omega (arith, ints)
small_quotient (negsuc a) h = omega (arith, ints)

no_null : (w : ℤ) → not (is_null w) ≡ true → is_null w ≡ false
no_null w e = by (is_null w) e
  where
    by : (b : Bool) → not b ≡ true → b ≡ false
    by true e = absurd (true≢false (sym e))
    by false e = refl

-- a number that is not too large is read back from its two words
wide_cell-words : (scale : ℕ) (z : ℤ) → nat_abs z < 10 ^ 18 * 2 ^ 62 → wide_cell scale (low_word z) (high_word z) ≡ Number z scale
wide_cell-words scale z h = ap₂ (λ b n. cond b Nothing (Number n scale)) (no_null (high_word z) (small_value (high_word z) (small_quotient z h))) (wide_number-words z)

average_bound : (t : ℤ) (n : ℕ) → nat_abs (average_of t (suc n)) ≤ 200 * nat_abs t + suc n
unfolding average_of
average_bound t n = by (int_lt t (pos 0))
  where
    size : ℕ
    size = (200 * nat_abs t + suc n) / (2 * suc n)

    smaller : size ≤ 200 * nat_abs t + suc n
    smaller = div-le_self (200 * nat_abs t + suc n) (2 * suc n)

    by : (b : Bool) → nat_abs (cond b (neg_ℤ (pos size)) (pos size)) ≤ 200 * nat_abs t + suc n
    by true = omega (arith, ints, smaller)
    by false = smaller

module _ (texts : List (List ℕ)) (rises : Rises texts) (shapes : List ShapeView) (q : QueryView) (a : At) (is : List Item) (key rest : List ℤ) (s : ℕ) (scale : scale_of_kind (kind_at shapes q a) ≡ s) where
  small_total : (vs : List Cell) → All (IsNumberCell texts rises s) vs → length vs ≤ 20000000 → nat_abs (word_total (map (word_of texts) vs)) ≤ 20000000 * 10 ^ 18
  small_total vs h few =
      let small : All (λ v. nat_abs v < 10 ^ 18) (map (word_of texts) vs) = All-map (λ v. nat_abs v < 10 ^ 18) (word_of texts) vs (λ i d p. (number_word texts rises s _ (h i d p)).1) in
      let b : nat_abs (word_total (map (word_of texts) vs)) ≤ 0 + length (map (word_of texts) vs) * 10 ^ 18 = total-bound (pos 0) (map (word_of texts) vs) small in
      let n = length-map vs (word_of texts) in
      omega (arith, b, n, few)

  -- a sum is the sum of the cells that are there
  pub sum_of-words : (vs : List Cell) → All (IsNumberCell texts rises s) vs → length vs ≤ 20000000 → group_cells texts shapes q (item.Sum a ∷ is) key (sum_words (map (word_of texts) vs) ++ rest) ≡ sum_of vs ∷ group_cells texts shapes q is key rest
  sum_of-words [] h few = refl
  sum_of-words (c ∷ vs) h few =
      let t = word_total (map (word_of texts) (c ∷ vs)) in
      let b = small_total (c ∷ vs) h few in
      ap (λ x. x ∷ group_cells texts shapes q is key rest)
      (wide_cell-words (scale_of_kind (kind_at shapes q a)) t (omega (arith, b))
      ∙ ap₂ Number (total_of-words texts rises s (c ∷ vs) h) (scale ∙ sym (scale_in-words texts rises s (c ∷ vs) (omega arith) h)))

  -- and so is an average
  pub average_of-words : (vs : List Cell) → All (IsNumberCell texts rises s) vs → length vs ≤ 20000000 → group_cells texts shapes q (item.Avg a ∷ is) key (average_words (map (word_of texts) vs) ++ rest) ≡ average_cell vs ∷ group_cells texts shapes q is key rest
  average_of-words [] h few = refl
  average_of-words (c ∷ vs) h few =
      let ws = map (word_of texts) vs in
      let t = word_total (map (word_of texts) (c ∷ vs)) in
      let b = small_total (c ∷ vs) h few in
      let n = length-map vs (word_of texts) in
      let m = average_bound t (length ws) in
      ap (λ x. x ∷ group_cells texts shapes q is key rest)
      (wide_cell-words (scale_of_kind (kind_at shapes q a) + 2) (average_of t (suc (length ws))) (omega (arith, b, m, n, few))
      ∙ ap₂ (λ z l. Number (average_of z (suc l)) (scale_of_kind (kind_at shapes q a) + 2)) (total_of-words texts rises s (c ∷ vs) h) n
      ∙ ap (λ p. Number (average_of (total_of (c ∷ vs)) (suc (length vs))) (p + 2)) (scale ∙ sym (scale_in-words texts rises s (c ∷ vs) (omega arith) h)))
