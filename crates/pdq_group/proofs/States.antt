-- The words in which a group keeps its folds, with one more row and as they are put.
use Rattle.std.proofs.Common.{◌≡◌, ◌≢◌, ℕ, zero, suc, ◌+◌, ◌-◌, ◌*◌, ◌^◌, ◌<◌, ◌≤◌, min, Bool, true, false, not, cond, List, [], ◌∷◌, ◌++◌, length, get_or, take, drop, map, filter, refl, sym, ap, ap₂, ◌∙◌, subst, arith, add-one}
use Rattle.std.specs.Prelude.{ℤ, pos, negsuc, ◌+ℤ◌, nat_abs, int_lt}
use Rattle.std.specs.List.{fold, All}
use Rattle.std.specs.Int.{w64, w128, int_wrap, int_min, int_max}
use Rattle.std.specs.Int.RustNames.{FitsSigned}
use Rattle.std.specs.Ordering.{int_eq}
use Rattle.std.proofs.lemmas.Bool.{true≢false}
use Rattle.std.proofs.lemmas.Int.{ints, int_wrap-add_left, int_wrap_fits}
use Rattle.std.proofs.lemmas.List.{append-nil, append_assoc, length-append, map_push, length_push, drop_more, length-map, drop_at, length-take-le, length-drop, drop-append-le, take_more}
use Rattle.std.proofs.lemmas.List.Elements.{All-head, All-tail, filter_passes}
use Rattle.std.proofs.lemmas.List.Sums.{fold_push}
use Rattle.pdq_value.specs.Averages.{average_of}
use Rattle.pdq_group.specs.Words.{values, low_word, high_word, wide_number, total_of, least_of, greatest_of, lesser, greater}
use Rattle.pdq_base.specs.Words.{null_word, is_null}
use Rattle.pdq_group.specs.declared.shape.Fold.{Fold}
use Rattle.pdq_group.specs.declared.shape.Fold.TheVariants.{Sum, Avg, Min, Max, Count}
use Rattle.pdq_group.specs.Folds.{sum_state, state_words, states_from, added, folded, all_folded, with_row, put_of, all_put, put_row, first_word, no_states, words_of_fold, words_of_folds, wide_words}
use Rattle.pdq_base.specs.Words.{word_at}
use Rattle.pdq_group.proofs.Lists.{filter_keeps, filter_skips}
use Rattle.pdq_group.proofs.WideWords.{wide_number-words}

-- ---- one more word in a fold

values-null : (ws : List ℤ) (w : ℤ) → is_null w ≡ true → values (ws ++ w ∷ []) ≡ values ws
values-null ws w e = filter_skips (λ w. not (is_null w)) ws w (ap not e)

values-more : (ws : List ℤ) (w : ℤ) → is_null w ≡ false → values (ws ++ w ∷ []) ≡ values ws ++ w ∷ []
values-more ws w e = filter_keeps (λ w. not (is_null w)) ws w (ap not e)

-- one more value in a sum
sum-more : (vs : List ℤ) (w : ℤ) → added (low_word (int_wrap w128 (total_of vs))) (high_word (int_wrap w128 (total_of vs))) (int_wrap w64 (pos (length vs))) w ≡ sum_state (vs ++ w ∷ [])
sum-more vs w =
    let t : ℤ = total_of vs in
    let sum : int_wrap w128 (wide_number (low_word (int_wrap w128 t)) (high_word (int_wrap w128 t)) +ℤ w) ≡ int_wrap w128 (total_of (vs ++ w ∷ [])) =
    ap (λ z. int_wrap w128 (z +ℤ w)) (wide_number-words (int_wrap w128 t)) ∙ int_wrap-add_left w128 t w ∙ ap (int_wrap w128) (sym (fold_push ◌+ℤ◌ (pos 0) vs w)) in
    let count : int_wrap w64 (int_wrap w64 (pos (length vs)) +ℤ pos 1) ≡ int_wrap w64 (pos (length (vs ++ w ∷ []))) =
    int_wrap-add_left w64 (pos (length vs)) (pos 1) ∙ ap (λ n. int_wrap w64 (pos n)) (sym (length_push vs w)) in
    ap₂ (λ z n. low_word z ∷ high_word z ∷ n ∷ []) sum count

IsValue : ℤ → Type 0
IsValue w = is_null w ≡ false

least-value : (v : ℤ) (vs : List ℤ) → is_null v ≡ false → All (λ w. not (is_null w) ≡ true) vs → is_null (fold int_min v vs) ≡ false
least-value v [] e h = e
least-value v (w ∷ vs) e h = least-value (int_min v w) vs (one (int_lt w v)) (All-tail (λ w. not (is_null w) ≡ true) w vs h)
  where
    is : (b : Bool) → not b ≡ true → b ≡ false
    is true e = absurd (true≢false (sym e))
    is false e = refl

    one : (b : Bool) → is_null (cond b w v) ≡ false
    one true = is (is_null w) (All-head (λ w. not (is_null w) ≡ true) w vs h)
    one false = e

greatest-value : (v : ℤ) (vs : List ℤ) → is_null v ≡ false → All (λ w. not (is_null w) ≡ true) vs → is_null (fold int_max v vs) ≡ false
greatest-value v [] e h = e
greatest-value v (w ∷ vs) e h = greatest-value (int_max v w) vs (one (int_lt w v)) (All-tail (λ w. not (is_null w) ≡ true) w vs h)
  where
    is : (b : Bool) → not b ≡ true → b ≡ false
    is true e = absurd (true≢false (sym e))
    is false e = refl

    one : (b : Bool) → is_null (cond b v w) ≡ false
    one true = e
    one false = is (is_null w) (All-head (λ w. not (is_null w) ≡ true) w vs h)

is-false : (b : Bool) → not b ≡ true → b ≡ false
is-false true e = absurd (true≢false (sym e))
is-false false e = refl

least-more : (vs : List ℤ) (w : ℤ) → All (λ w. not (is_null w) ≡ true) vs → is_null w ≡ false → lesser (least_of vs) w ≡ least_of (vs ++ w ∷ [])
least-more [] w h e = ap (λ b. cond b null_word w) e
least-more (v ∷ vs) w h e =
    let m : ℤ = fold int_min v vs in
    let n : is_null m ≡ false = least-value v vs (is-false (is_null v) (All-head (λ w. not (is_null w) ≡ true) v vs h)) (All-tail (λ w. not (is_null w) ≡ true) v vs h) in
    ap₂ (λ b c. cond b m (cond c w (int_min m w))) e n ∙ sym (fold_push int_min v vs w)

greatest-more : (vs : List ℤ) (w : ℤ) → All (λ w. not (is_null w) ≡ true) vs → is_null w ≡ false → greater (greatest_of vs) w ≡ greatest_of (vs ++ w ∷ [])
greatest-more [] w h e = ap (λ b. cond b null_word w) e
greatest-more (v ∷ vs) w h e =
    let m : ℤ = fold int_max v vs in
    let n : is_null m ≡ false = greatest-value v vs (is-false (is_null v) (All-head (λ w. not (is_null w) ≡ true) v vs h)) (All-tail (λ w. not (is_null w) ≡ true) v vs h) in
    ap₂ (λ b c. cond b m (cond c w (int_max m w))) e n ∙ sym (fold_push int_max v vs w)

module _ (fs : List Fold) (rest row ws : List ℤ) (w : ℤ) where
  abbrev more : List ℤ
  more = ws ++ w ∷ []

  abbrev tail : List ℤ
  tail = all_folded fs rest row

  sum-case : (b : Bool) → is_null w ≡ b → cond b (sum_state (values ws)) (added (low_word (int_wrap w128 (total_of (values ws)))) (high_word (int_wrap w128 (total_of (values ws)))) (int_wrap w64 (pos (length (values ws)))) w) ≡ sum_state (values more)
  sum-case true e = ap sum_state (sym (values-null ws w e))
  sum-case false e = sum-more (values ws) w ∙ ap sum_state (sym (values-more ws w e))

  least-case : (b : Bool) → is_null w ≡ b → lesser (least_of (values ws)) w ≡ least_of (values more)
  least-case true e = ap (λ t. cond t (least_of (values ws)) (cond (is_null (least_of (values ws))) w (int_min (least_of (values ws)) w))) e ∙ ap least_of (sym (values-null ws w e))
  least-case false e = least-more (values ws) w (filter_passes (λ w. not (is_null w)) ws) e ∙ ap least_of (sym (values-more ws w e))

  greatest-case : (b : Bool) → is_null w ≡ b → greater (greatest_of (values ws)) w ≡ greatest_of (values more)
  greatest-case true e = ap (λ t. cond t (greatest_of (values ws)) (cond (is_null (greatest_of (values ws))) w (int_max (greatest_of (values ws)) w))) e ∙ ap greatest_of (sym (values-null ws w e))
  greatest-case false e = greatest-more (values ws) w (filter_passes (λ w. not (is_null w)) ws) e ∙ ap greatest_of (sym (values-more ws w e))

  -- one more word in the first fold's words
  pub fold-more : (f : Fold) → all_folded (f ∷ fs) (state_words f ws ++ rest) (w ∷ row) ≡ state_words f more ++ tail
  unfolding state_words folded
  fold-more Sum = ap (λ l. l ++ tail) (sum-case (is_null w) refl)
  fold-more Avg = ap (λ l. l ++ tail) (sum-case (is_null w) refl)
  fold-more Min = ap (λ m. m ∷ pos 0 ∷ pos 0 ∷ tail) (least-case (is_null w) refl)
  fold-more Max = ap (λ m. m ∷ pos 0 ∷ pos 0 ∷ tail) (greatest-case (is_null w) refl)
  fold-more Count = ap (λ n. n ∷ pos 0 ∷ pos 0 ∷ tail) (int_wrap-add_left w64 (pos (length ws)) (pos 1) ∙ ap (λ n. int_wrap w64 (pos n)) (sym (length_push ws w)))

-- ---- one more row in a group

pub states-more : (fs : List Fold) (j : ℕ) (rows : List (List ℤ)) (row : List ℤ) → length row ≡ j + length fs → all_folded fs (states_from fs j rows) (drop j row) ≡ states_from fs j (rows ++ row ∷ [])
states-more [] j rows row l = refl
states-more (f ∷ fs) j rows row l =
    let cut : drop j row ≡ word_at j row ∷ drop (suc j) row = drop_more row j (pos 0) (omega arith) ∙ ap (λ k. word_at j row ∷ drop k row) (add-one j) in
    ap (all_folded (f ∷ fs) (states_from (f ∷ fs) j rows)) cut
    ∙ fold-more fs (states_from fs (suc j) rows) (drop (suc j) row) (map (word_at j) rows) (word_at j row) f
    ∙ ap₂ (λ ws l. state_words f ws ++ l) (sym (map_push (word_at j) rows row)) (states-more fs (suc j) rows row (omega arith))

-- the folds of no row are the same from each place
pub states-none : (fs : List Fold) (i j : ℕ) → states_from fs i [] ≡ states_from fs j []
states-none [] i j = refl
states-none (f ∷ fs) i j = ap (λ l. state_words f [] ++ l) (states-none fs (suc i) (suc j))

three : (f : Fold) (ws : List ℤ) → length (state_words f ws) ≡ 3
unfolding state_words
three Sum ws = refl
three Avg ws = refl
three Min ws = refl
three Max ws = refl
three Count ws = refl

pub length-states : (fs : List Fold) (j : ℕ) (rows : List (List ℤ)) → length (states_from fs j rows) ≡ 3 * length fs
length-states [] j rows = refl
length-states (f ∷ fs) j rows = length-append (state_words f (map (word_at j) rows)) (states_from fs (suc j) rows) ∙ ap₂ (λ a b. a + b) (three f (map (word_at j) rows)) (length-states fs (suc j) rows) ∙ omega arith

-- the words of a group are made fold by fold
module _ (R : List ℤ) (fs : List Fold) (j at p at' p' : ℕ) (into new group row : List ℤ) (f : Fold) (a b c w x y z : ℤ) where
  pub fold_step : j < length fs → f ≡ get_or fs j f → at' ≡ at + 3 → p' ≡ p + 1 → p < length row → w ≡ get_or row p w → drop at group ≡ a ∷ b ∷ c ∷ drop (at + 3) group
      → take (at + 3) new ≡ take at into ++ (x ∷ y ∷ z ∷ []) → x ∷ y ∷ z ∷ [] ≡ folded f a b c w
      → take at into ++ all_folded (drop j fs) (drop at group) (drop p row) ≡ R
      → take at' new ++ all_folded (drop (j + 1) fs) (drop at' group) (drop p' row) ≡ R
  fold_step l is e d m word g t s h =
      let fold : drop j fs ≡ f ∷ drop (j + 1) fs = drop_more fs j f l ∙ ap (λ k. k ∷ drop (j + 1) fs) (sym is) in
      let cut : drop p row ≡ w ∷ drop (p + 1) row = drop_more row p w m ∙ ap (λ k. k ∷ drop (p + 1) row) (sym word) in
      let rest : List ℤ = all_folded (drop (j + 1) fs) (drop (at + 3) group) (drop (p + 1) row) in
      let old : all_folded (drop j fs) (drop at group) (drop p row) ≡ folded f a b c w ++ rest =
      ap (λ k. all_folded k (drop at group) (drop p row)) fold ∙ ap₂ (λ k q. all_folded (f ∷ drop (j + 1) fs) k q) g cut in
      ap₂ (λ k q. take k new ++ all_folded (drop (j + 1) fs) (drop k group) (drop q row)) e d
      ∙ ap (λ k. k ++ rest) (t ∙ ap (λ k. take at into ++ k) s)
      ∙ append_assoc (take at into) (folded f a b c w) rest
      ∙ ap (λ k. take at into ++ k) (sym old) ∙ h

-- the row that is put is made fold by fold
module _ (R : List ℤ) (fs : List Fold) (j at at' : ℕ) (into new group : List ℤ) (f : Fold) (a b c : ℤ) where
  pub put_step : j < length fs → f ≡ get_or fs j f → at' ≡ at + 3 → drop at group ≡ a ∷ b ∷ c ∷ drop (at + 3) group
      → new ≡ into ++ put_of f a b c → into ++ all_put (drop j fs) (drop at group) ≡ R → new ++ all_put (drop (j + 1) fs) (drop at' group) ≡ R
  put_step l is e g s h =
      let fold : drop j fs ≡ f ∷ drop (j + 1) fs = drop_more fs j f l ∙ ap (λ k. k ∷ drop (j + 1) fs) (sym is) in
      let rest : List ℤ = all_put (drop (j + 1) fs) (drop (at + 3) group) in
      let old : all_put (drop j fs) (drop at group) ≡ put_of f a b c ++ rest = ap (λ k. all_put k (drop at group)) fold ∙ ap (all_put (f ∷ drop (j + 1) fs)) g in
      ap₂ (λ k q. k ++ all_put (drop (j + 1) fs) (drop q group)) s e
      ∙ append_assoc into (put_of f a b c) rest
      ∙ ap (λ k. into ++ k) (sym old) ∙ h

words_of-put : (f : Fold) (a b c : ℤ) → length (put_of f a b c) ≡ words_of_fold f
unfolding put_of
words_of-put Sum a b c = two (int_lt (pos 0) c)
  where
    two : (t : Bool) → length (cond t (a ∷ b ∷ []) (pos 0 ∷ null_word ∷ [])) ≡ 2
    two true = refl
    two false = refl
words_of-put Avg a b c = two (int_lt (pos 0) c)
  where
    two : (t : Bool) → length (cond t (wide_words (average_of (wide_number a b) (nat_abs c))) (pos 0 ∷ null_word ∷ [])) ≡ 2
    two true = refl
    two false = refl
words_of-put Min a b c = refl
words_of-put Max a b c = refl
words_of-put Count a b c = refl

length-all_put : (fs : List Fold) (st : List ℤ) → length st ≡ 3 * length fs → length (all_put fs st) ≡ words_of_folds fs
length-all_put [] st l = refl
length-all_put (f ∷ fs) [] l = absurd (omega arith)
length-all_put (f ∷ fs) (a ∷ []) l = absurd (omega arith)
length-all_put (f ∷ fs) (a ∷ b ∷ []) l = absurd (omega arith)
length-all_put (f ∷ fs) (a ∷ b ∷ c ∷ st) l = length-append (put_of f a b c) (all_put fs st) ∙ ap₂ (λ m n. m + n) (words_of-put f a b c) (length-all_put fs st (omega arith))

-- how many words the row has that is put of a group
pub length-put_row : (keys : ℕ) (fs : List Fold) (group : List ℤ) → length group ≡ keys + 3 * length fs → length (put_row keys fs group) ≡ keys + words_of_folds fs
length-put_row keys fs group l =
    length-append (take keys group) (all_put fs (drop keys group))
    ∙ ap₂ (λ m n. m + n) (length-take-le keys group (omega arith)) (length-all_put fs (drop keys group) (omega (arith, length-drop keys group, l)))

-- ---- a group of no row

first-state : (f : Fold) → state_words f [] ≡ first_word f ∷ pos 0 ∷ pos 0 ∷ []
unfolding state_words int_wrap
first-state Sum = refl
first-state Avg = refl
first-state Min = refl
first-state Max = refl
first-state Count = refl

states-push : (fs : List Fold) (f : Fold) (j : ℕ) → states_from (fs ++ f ∷ []) j [] ≡ states_from fs j [] ++ state_words f []
states-push [] f j = append-nil (state_words f [])
states-push (g ∷ fs) f j = ap (λ l. state_words g [] ++ l) (states-push fs f (suc j)) ∙ sym (append_assoc (state_words g []) (states_from fs (suc j) []) (state_words f []))

-- the words of a group of no row are made fold by fold
pub blank_step : (fs : List Fold) (i keys : ℕ) (words new : List ℤ) (f : Fold) → i < length fs → f ≡ get_or fs i f → keys ≤ length words → drop keys words ≡ no_states (take i fs)
    → new ≡ words ++ (first_word f ∷ pos 0 ∷ pos 0 ∷ []) → drop keys new ≡ no_states (take (i + 1) fs)
blank_step fs i keys words new f l is le h e =
    ap (drop keys) e ∙ drop-append-le keys words (first_word f ∷ pos 0 ∷ pos 0 ∷ []) le ∙ ap₂ (λ a b. a ++ b) h (sym (first-state f))
    ∙ sym (states-push (take i fs) f 0) ∙ ap (λ k. no_states k) (ap (λ x. take i fs ++ x ∷ []) is ∙ sym (take_more fs i f l))
