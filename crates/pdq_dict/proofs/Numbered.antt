-- Notes with their numbers, before and after they are put in order.
use Rattle.std.proofs.Common.{◌≡◌, ◌≢◌, ◌⊎◌, inl, inr, ℕ, zero, suc, ◌+◌, ◌<◌, List, [], ◌∷◌, ◌++◌, All, Bool, true, false, cond, ◌||◌, length, get_or, set, map, refl, sym, ap, ◌∙◌, subst, arith, Option, Some, None, is_some, true≢false, Contains, IsPermutation, fold, nat_lt}
use Rattle.std.specs.List.{position_or_len, slice_get}
use Rattle.std.specs.Option.{option_map}
use Rattle.std.proofs.lemmas.Bool.{cases_eq, cond-true, cond_both, lt-ltb}
use Rattle.std.proofs.lemmas.List.{get_or-map, get_or-set_other, get_or-set_same, get_or_append_left, get_or_push, length-append, length-map, map-append}
use Rattle.std.proofs.lemmas.List.Sorted.{All-permutation, Contains-permutation, IsPermutation-map, length_permutation}
use Rattle.std.proofs.lemmas.List.Quantifiers.{position-Some}
use Rattle.std.proofs.lemmas.List.Sums.{fails_before_first, position_or_len_is}
use Rattle.std.proofs.lemmas.Option.{get_or_from_slice_get, same_Some, slice_get-get_or, slice_get-map, slice_get_within}
use Rattle.pdq_dict.specs.declared.text_sets.Mark.{Mark}
use Rattle.pdq_dict.specs.Texts.{AreCodesBelow, Entry, IsBelow, IsNumbered, is_text, mark_at_entry, noted, number_at_entry, number_at_mark, number_of, numbers_of, text_at_entry, text_of_mark}
use Rattle.pdq_dict.specs.Dictionary.{AreCodesOf}
use Rattle.pdq_dict.proofs.Noting.{has}
use Rattle.pdq_dict.proofs.TextOrder.{is_text-IsEquivalence}

-- what was at a place is there with one more behind
pub slice_get_left : {X : Type 0} (xs : List X) (y : X) (i : ℕ) → i < length xs → slice_get (xs ++ y ∷ []) i ≡ slice_get xs i
slice_get_left [] y i p = absurd (omega arith)
slice_get_left (x ∷ xs) y zero p = refl
slice_get_left (x ∷ xs) y (suc i) p = slice_get_left xs y i (omega arith)

pub slice_get_last : {X : Type 0} (xs : List X) (y : X) (i : ℕ) → i ≡ length xs → slice_get (xs ++ y ∷ []) i ≡ Some y
slice_get_last [] y zero p = refl
slice_get_last [] y (suc i) p = absurd (omega arith)
slice_get_last (x ∷ xs) y zero p = absurd (omega arith)
slice_get_last (x ∷ xs) y (suc i) p = slice_get_last xs y i (omega arith)

-- one more entry with its place as its number
pub numbered_more : (es : List Entry) (e : Entry) → IsNumbered es → e.1.number ≡ length es → IsNumbered (es ++ e ∷ [])
numbered_more es e h n k p = ap (λ l. slice_get l k) (map-append number_at_entry es (e ∷ [])) ∙ by (cases_eq k (length es))
  where
    by : (k ≡ length es) ⊎ (k ≢ length es) → slice_get (numbers_of es ++ e.1.number ∷ []) k ≡ Some k
    by (inl s) = slice_get_last (numbers_of es) e.1.number k (s ∙ sym (length-map es number_at_entry)) ∙ ap Some (n ∙ sym s)
    by (inr s) = let below : k < length es = omega (arith, p, length-append es (e ∷ [])) in slice_get_left (numbers_of es) e.1.number k (omega (arith, below, length-map es number_at_entry)) ∙ h k below

pub number_here : (es : List Entry) → IsNumbered es → (i : ℕ) (d : Entry) → i < length es → (get_or es i d).1.number ≡ i
number_here es h i d p = same_Some _ _ (sym (ap (option_map number_at_entry) (slice_get-get_or es i d p)) ∙ sym (slice_get-map number_at_entry es i) ∙ h i p)

-- the marks of notes have numbers below their count
pub below_of_numbered : (es : List Entry) → IsNumbered es → All (IsBelow (length es)) (map mark_at_entry es)
below_of_numbered [] h i d p = absurd (omega arith)
below_of_numbered (e ∷ es) h i d p =
    let less : i < length (e ∷ es) = omega (arith, p, length-map (e ∷ es) mark_at_entry) in
    subst (IsBelow (length (e ∷ es))) (sym (get_or-map mark_at_entry (e ∷ es) i e d less)) (omega (arith, less, number_here (e ∷ es) h i e less))

mark_of_number : (ms : List Mark) (place number : ℕ) (d : Mark) → slice_get (map number_at_mark ms) place ≡ Some number → (place < length ms) × ((get_or ms place d).number ≡ number)
mark_of_number ms place number d h =
    let p : place < length ms = omega (arith, slice_get_within (map number_at_mark ms) place number h, length-map ms number_at_mark) in
    (p, same_Some _ _ (sym (ap (option_map number_at_mark) (slice_get-get_or ms place d p)) ∙ sym (slice_get-map number_at_mark ms place) ∙ h))

-- the number at a place is below where all are
pub number_below : (ms : List Mark) (n place number : ℕ) → All (IsBelow n) ms → slice_get (map number_at_mark ms) place ≡ Some number → number < n
number_below [] n place number all h = absurd (true≢false (sym (ap is_some h)))
number_below (m ∷ ms) n place number all h = let t = mark_of_number (m ∷ ms) place number m h in subst (λ k. k < n) t.1 (all place m t.0)

text_here : (ms : List Mark) (texts : List (List ℕ)) (place number : ℕ) → All (IsBelow (length texts)) ms → slice_get (map number_at_mark ms) place ≡ Some number →
    slice_get (map (text_of_mark texts) ms) place ≡ slice_get texts number
text_here [] texts place number all h = absurd (true≢false (sym (ap is_some h)))
text_here (m ∷ ms) texts place number all h =
    let t = mark_of_number (m ∷ ms) place number m h in
    let below : number < length texts = subst (λ n. n < length texts) t.1 (all place m t.0) in
    slice_get-map (text_of_mark texts) (m ∷ ms) place ∙ ap (option_map (text_of_mark texts)) (slice_get-get_or (m ∷ ms) place m t.0) ∙ ap (λ n. Some (get_or texts n [])) t.1
    ∙ sym (slice_get-get_or texts number [] below)

-- one more place
pub codes_more : (ms : List Mark) (places : List ℕ) (place number : ℕ) → slice_get (map number_at_mark ms) place ≡ Some number → number < length places →
    AreCodesBelow place ms places → AreCodesBelow (place + 1) ms (set places number place)
codes_more ms places place number here room before texts all j n below at = by (cases_eq n number)
  where
    by : (n ≡ number) ⊎ (n ≢ number) → slice_get (map (text_of_mark texts) ms) (get_or (set places number place) n 0) ≡ slice_get texts n
    by (inl s) =
        ap (λ m. slice_get (map (text_of_mark texts) ms) (get_or (set places number place) m 0)) s ∙ ap (slice_get (map (text_of_mark texts) ms)) (get_or-set_same places number place 0 room)
        ∙ text_here ms texts place number all here ∙ ap (slice_get texts) (sym s)
    by (inr s) =
        let other : j ≢ place = λ e. s (same_Some _ _ (sym at ∙ ap (slice_get (map number_at_mark ms)) e ∙ here)) in
        ap (slice_get (map (text_of_mark texts) ms)) (get_or-set_other places number n place 0 s) ∙ before texts all j n (omega (arith, below, other)) at

number_there : (es : List Entry) → IsNumbered es → (n : ℕ) → n < length es → Contains (numbers_of es) n
number_there es h n p = (n, omega (arith, p, length-map es number_at_entry), get_or_from_slice_get (numbers_of es) n n n (h n p))

numbers_of_marks : (es : List Entry) → map number_at_mark (map mark_at_entry es) ≡ numbers_of es
numbers_of_marks [] = refl
numbers_of_marks (e ∷ es) = ap (λ l. e.1.number ∷ l) (numbers_of_marks es)

-- the marks of notes in another order, and for each number the place of its mark there
pub codes_of_order : (es : List Entry) (marks : List Mark) (places : List ℕ) → IsNumbered es → IsPermutation (map mark_at_entry es) marks → length places ≡ length marks →
    AreCodesBelow (length marks) marks places → AreCodesOf (map text_at_entry es) (map (text_of_mark (map text_at_entry es)) marks) places
codes_of_order es marks places numbered moved count codes =
    let same : length marks ≡ length es = length_permutation (map mark_at_entry es) marks moved ∙ length-map es mark_at_entry in
    let below : All (IsBelow (length (map text_at_entry es))) marks =
    subst (λ n. All (IsBelow n) marks) (sym (length-map es text_at_entry)) (All-permutation (IsBelow (length es)) (map mark_at_entry es) marks moved (below_of_numbered es numbered)) in
    let turned : IsPermutation (numbers_of es) (map number_at_mark marks) =
    subst (λ (l : List ℕ). IsPermutation l (map number_at_mark marks)) (numbers_of_marks es) (IsPermutation-map number_at_mark (map mark_at_entry es) marks moved) in
    record {
      count = count ∙ same ∙ sym (length-map es text_at_entry);
      each = λ n p.
          let there = Contains-permutation (numbers_of es) (map number_at_mark marks) n turned (number_there es numbered n (omega (arith, p, length-map es text_at_entry))) in
          let at : slice_get (map number_at_mark marks) there.0 ≡ Some n = slice_get-get_or (map number_at_mark marks) there.0 n there.1 ∙ ap Some there.2 in
          codes (map text_at_entry es) below there.0 n (omega (arith, there.1, length-map marks number_at_mark)) at;
    }

either_false : (a b : Bool) → (a || b) ≡ false → (a ≡ false) × (b ≡ false)
either_false true b e = absurd (true≢false e)
either_false false b e = (refl, e)

fails_at : (xs : List (List ℕ)) (t : List ℕ) → has xs t ≡ false → (k : ℕ) → k < length xs → is_text t (get_or xs k []) ≡ false
fails_at [] t e k p = absurd (omega arith)
fails_at (x ∷ xs) t e zero p = (either_false (is_text t x) (has xs t) e).0
fails_at (x ∷ xs) t e (suc k) p = fails_at xs t (either_false (is_text t x) (has xs t) e).1 k (omega arith)

-- a new text has its place as its number
pub number_of-new : (xs : List (List ℕ)) (t : List ℕ) → has xs t ≡ false → number_of (xs ++ t ∷ []) t ≡ Some (length xs)
number_of-new xs t e =
    let size : length (xs ++ t ∷ []) ≡ length xs + 1 = length-append xs (t ∷ []) in
    let before : (k : ℕ) → k < length xs → is_text t (get_or (xs ++ t ∷ []) k []) ≡ false = λ k p. ap (is_text t) (get_or_append_left xs (t ∷ []) [] k p) ∙ fails_at xs t e k p in
    let here : length xs < length (xs ++ t ∷ []) → is_text t (get_or (xs ++ t ∷ []) (length xs) []) ≡ true = λ _. ap (is_text t) (get_or_push xs t [] (length xs) refl) ∙ is_text-IsEquivalence.refl t in
    let n : position_or_len (is_text t) (xs ++ t ∷ []) ≡ length xs = position_or_len_is (is_text t) (xs ++ t ∷ []) (length xs) [] (omega (arith, size)) before here in
    ap (λ m. cond (nat_lt m (length (xs ++ t ∷ []))) (Some m) None) n ∙ cond-true (nat_lt (length xs) (length (xs ++ t ∷ []))) (Some (length xs)) None (lt-ltb (length xs) (length (xs ++ t ∷ [])) (omega (arith, size)))

some_number : (b : Bool) (m n : ℕ) → ◌≡◌ {A = Option ℕ} (cond b (Some m) None) (Some n) → m ≡ n
some_number true m n e = same_Some _ _ e
some_number false m n e = absurd (cc)

-- a number stays with more texts behind
pub number_of-left : (xs ys : List (List ℕ)) (t : List ℕ) (n : ℕ) → number_of xs t ≡ Some n → number_of (xs ++ ys) t ≡ Some n
number_of-left xs ys t n e =
    let there = position-Some (is_text t) xs n [] e in
    let first : position_or_len (is_text t) xs ≡ n = some_number (nat_lt (position_or_len (is_text t) xs) (length xs)) _ n e in
    let size : length (xs ++ ys) ≡ length xs + length ys = length-append xs ys in
    let before : (k : ℕ) → k < n → is_text t (get_or (xs ++ ys) k []) ≡ false = λ k p.
    ap (is_text t) (get_or_append_left xs ys [] k (omega (arith, p, there.0))) ∙ fails_before_first (is_text t) xs k [] (omega (arith, p, first)) in
    let here : n < length (xs ++ ys) → is_text t (get_or (xs ++ ys) n []) ≡ true = λ _. ap (is_text t) (get_or_append_left xs ys [] n there.0) ∙ there.1 in
    let same : position_or_len (is_text t) (xs ++ ys) ≡ n = position_or_len_is (is_text t) (xs ++ ys) n [] (omega (arith, size, there.0)) before here in
    ap (λ m. cond (nat_lt m (length (xs ++ ys))) (Some m) None) same ∙ cond-true (nat_lt n (length (xs ++ ys))) (Some n) None (lt-ltb n (length (xs ++ ys)) (omega (arith, size, there.0)))

pub number_of-noted : (xs : List (List ℕ)) (u t : List ℕ) (n : ℕ) → number_of xs t ≡ Some n → number_of (noted xs u) t ≡ Some n
unfolding noted
number_of-noted xs u t n e = cond_both (has xs u) xs (xs ++ u ∷ []) (λ l. number_of l t ≡ Some n) (λ _. e) (λ _. number_of-left xs (u ∷ []) t n e)

-- and while more texts are noted
pub number_of-fold_noted : (xs us : List (List ℕ)) (t : List ℕ) (n : ℕ) → number_of xs t ≡ Some n → number_of (fold noted xs us) t ≡ Some n
number_of-fold_noted xs [] t n e = e
number_of-fold_noted xs (u ∷ us) t n e = number_of-fold_noted (noted xs u) us t n (number_of-noted xs u t n e)
