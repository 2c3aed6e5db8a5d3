-- What is put of a group are its folds.
use Rattle.std.proofs.Common.{◌≡◌, ◌≢◌, ◌⊎◌, ℕ, zero, suc, ◌+◌, ◌-◌, ◌*◌, ◌^◌, ◌<◌, ◌≤◌, min, Bool, true, false, not, cond, List, [], ◌∷◌, ◌++◌, length, get_or, take, drop, map, filter, refl, sym, ap, ap₂, ◌∙◌, subst, arith, add-one, inl, inr}
use Rattle.std.specs.Prelude.{ℤ, pos, negsuc, ◌+ℤ◌, nat_abs, int_lt}
use Rattle.std.specs.List.{fold, All}
use Rattle.std.specs.Int.{w64, w128, int_wrap}
use Rattle.std.specs.Int.RustNames.{FitsSigned}
use Rattle.std.proofs.lemmas.Bool.{true≢false}
use Rattle.std.proofs.lemmas.Int.{ints, int_wrap_fits, fits_signed_from_abs}
use Rattle.std.proofs.lemmas.List.{append-nil, append_assoc, length-append, map_push, length_push, drop_more, length-map, drop_at}
use Rattle.std.proofs.lemmas.List.Elements.{All-head, All-tail, All-cons, All-nil}
use Rattle.std.proofs.lemmas.List.Sums.{fold_push}
use Rattle.pdq_value.specs.Averages.{average_of}
use Rattle.pdq_group.specs.Words.{values, low_word, high_word, wide_number, total_of}
use Rattle.pdq_base.specs.Words.{null_word, is_null}
use Rattle.pdq_group.specs.declared.shape.Fold.{Fold}
use Rattle.pdq_group.specs.declared.shape.Fold.TheVariants.{Sum, Avg, Min, Max, Count}
use Rattle.pdq_group.specs.Folds.{sum_state, sum_words, average_words, wide_words, state_words, states_from, fold_words, folded_from, put_of, put_of_sum, put_of_average, all_put, FitsFold, FitsFolds, AreFoldable}
use Rattle.pdq_base.specs.Words.{word_at}
use Rattle.pdq_group.proofs.WideWords.{wide_number-words}

-- ---- bounds

abs-add : (a b : ℤ) → nat_abs (a +ℤ b) ≤ nat_abs a + nat_abs b
abs-add a b = omega (arith, ints)

total-bound : (a : ℤ) (vs : List ℤ) → All (λ v. nat_abs v < 10 ^ 18) vs → nat_abs (fold ◌+ℤ◌ a vs) ≤ nat_abs a + length vs * 10 ^ 18
total-bound a [] h = omega arith
total-bound a (v ∷ vs) h =
    let one : nat_abs v < 10 ^ 18 = All-head (λ v. nat_abs v < 10 ^ 18) v vs h in
    let rest : nat_abs (fold ◌+ℤ◌ (a +ℤ v) vs) ≤ nat_abs (a +ℤ v) + length vs * 10 ^ 18 = total-bound (a +ℤ v) vs (All-tail (λ v. nat_abs v < 10 ^ 18) v vs h) in
    let sum : nat_abs (a +ℤ v) ≤ nat_abs a + nat_abs v = abs-add a v in
    omega arith

module _ (vs : List ℤ) (h : All (λ v. nat_abs v < 10 ^ 18) vs) (few : length vs ≤ 20000000) where
  sum-fits : int_wrap w128 (total_of vs) ≡ total_of vs
  sum-fits =
      let b : nat_abs (total_of vs) ≤ 0 + length vs * 10 ^ 18 = total-bound (pos 0) vs h in
      let c : nat_abs (total_of vs) < 2 ^ 127 = omega (arith, b, few) in
      int_wrap_fits w128 (total_of vs) (fits_signed_from_abs w128 (total_of vs) c)

count-fits : (n : ℕ) → n ≤ 20000000 → int_wrap w64 (pos n) ≡ pos n
count-fits n l = int_wrap_fits w64 (pos n) (record { sfits = omega arith })

some-count : (n : ℕ) → int_lt (pos 0) (pos (suc n)) ≡ true
some-count n = grind (arith, ints)

sum-put : (vs : List ℤ) → All (λ v. nat_abs v < 10 ^ 18) vs → length vs ≤ 20000000 → put_of_sum (low_word (int_wrap w128 (total_of vs))) (high_word (int_wrap w128 (total_of vs))) (int_wrap w64 (pos (length vs))) ≡ sum_words vs
sum-put [] h few = ap (λ c. cond (int_lt (pos 0) c) (wide_words (int_wrap w128 (pos 0))) (pos 0 ∷ null_word ∷ [])) (count-fits 0 few)
sum-put (v ∷ vs) h few =
    ap₂ (λ c s. cond (int_lt (pos 0) c) (wide_words s) (pos 0 ∷ null_word ∷ [])) (count-fits (length (v ∷ vs)) few) (sum-fits (v ∷ vs) h few)
    ∙ ap (λ b. cond b (wide_words (total_of (v ∷ vs))) (pos 0 ∷ null_word ∷ [])) (some-count (length vs))

average-put : (vs : List ℤ) → All (λ v. nat_abs v < 10 ^ 18) vs → length vs ≤ 20000000 → put_of_average (low_word (int_wrap w128 (total_of vs))) (high_word (int_wrap w128 (total_of vs))) (int_wrap w64 (pos (length vs))) ≡ average_words vs
average-put [] h few = ap (λ c. cond (int_lt (pos 0) c) (wide_words (average_of (wide_number (low_word (int_wrap w128 (pos 0))) (high_word (int_wrap w128 (pos 0)))) (nat_abs c))) (pos 0 ∷ null_word ∷ [])) (count-fits 0 few)
average-put (v ∷ vs) h few =
    let sum : wide_number (low_word (int_wrap w128 (total_of (v ∷ vs)))) (high_word (int_wrap w128 (total_of (v ∷ vs)))) ≡ total_of (v ∷ vs) = wide_number-words (int_wrap w128 (total_of (v ∷ vs))) ∙ sum-fits (v ∷ vs) h few in
    ap₂ (λ c s. cond (int_lt (pos 0) c) (wide_words (average_of s (nat_abs c))) (pos 0 ∷ null_word ∷ [])) (count-fits (length (v ∷ vs)) few) sum
    ∙ ap (λ b. cond b (wide_words (average_of (total_of (v ∷ vs)) (length (v ∷ vs)))) (pos 0 ∷ null_word ∷ [])) (some-count (length vs))

-- the values of words of which each is below the bound, or no value
values-bound : (ws : List ℤ) → All (λ w. (w ≡ null_word) ⊎ (nat_abs w < 10 ^ 18)) ws → All (λ v. nat_abs v < 10 ^ 18) (values ws)
values-bound [] h = All-nil (λ v. nat_abs v < 10 ^ 18)
values-bound (w ∷ ws) h = by (is_null w) refl (values-bound ws (All-tail P w ws h))
  where
    P : ℤ → Type 0
    P w = (w ≡ null_word) ⊎ (nat_abs w < 10 ^ 18)

    small : is_null w ≡ false → P w → nat_abs w < 10 ^ 18
    small e (inl s) = absurd (true≢false (sym (ap is_null s) ∙ e))
    small e (inr l) = l

    by : (b : Bool) → is_null w ≡ b → All (λ v. nat_abs v < 10 ^ 18) (values ws) → All (λ v. nat_abs v < 10 ^ 18) (cond (not b) (w ∷ values ws) (values ws))
    by true e r = r
    by false e r = All-cons (λ v. nat_abs v < 10 ^ 18) w (values ws) (small e (All-head P w ws h)) r

values-few : (ws : List ℤ) → length (values ws) ≤ length ws
values-few [] = omega arith
values-few (w ∷ ws) = by (not (is_null w)) (values-few ws)
  where
    by : (b : Bool) → length (values ws) ≤ length ws → length (cond b (w ∷ values ws) (values ws)) ≤ length (w ∷ ws)
    by true h = omega arith
    by false h = omega arith

-- what is put of a fold's words is the fold
put-fold : (f : Fold) (ws rest : List ℤ) (fs : List Fold) → All (FitsFold f) ws → length ws ≤ 20000000 → all_put (f ∷ fs) (state_words f ws ++ rest) ≡ fold_words f ws ++ all_put fs rest
unfolding put_of fold_words state_words
put-fold Sum ws rest fs h few = ap (λ l. l ++ all_put fs rest) (sum-put (values ws) (values-bound ws h) (let v : length (values ws) ≤ length ws = values-few ws in omega arith))
put-fold Avg ws rest fs h few = ap (λ l. l ++ all_put fs rest) (average-put (values ws) (values-bound ws h) (let v : length (values ws) ≤ length ws = values-few ws in omega arith))
put-fold Min ws rest fs h few = refl
put-fold Max ws rest fs h few = refl
put-fold Count ws rest fs h few = ap (λ n. n ∷ all_put fs rest) (count-fits (length ws) few)

column-fits : (f : Fold) (fs : List Fold) (j : ℕ) (rows : List (List ℤ)) → ((k : ℕ) (d : List ℤ) → k < length rows → FitsFolds (f ∷ fs) j (get_or rows k d)) → All (FitsFold f) (map (word_at j) rows)
column-fits f fs j [] h = All-nil (FitsFold f)
column-fits f fs j (row ∷ rows) h = All-cons (FitsFold f) (word_at j row) (map (word_at j) rows) (h 0 row (omega arith)).0 (column-fits f fs j rows (λ k d l. h (suc k) d (omega arith)))

-- what is put of a group's words are its folds
pub put-folds : (fs : List Fold) (j : ℕ) (rows : List (List ℤ)) → ((k : ℕ) (d : List ℤ) → k < length rows → FitsFolds fs j (get_or rows k d)) → length rows ≤ 20000000 → all_put fs (states_from fs j rows) ≡ folded_from fs j rows
put-folds [] j rows h few = refl
put-folds (f ∷ fs) j rows h few =
    put-fold f (map (word_at j) rows) (states_from fs (suc j) rows) fs (column-fits f fs j rows h) (omega (arith, length-map rows (word_at j)))
    ∙ ap (λ l. fold_words f (map (word_at j) rows) ++ l) (put-folds fs (suc j) rows (λ k d l. (h k d l).1) few)
