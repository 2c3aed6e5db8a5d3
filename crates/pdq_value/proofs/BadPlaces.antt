-- The place of a bad number is the first from which on its text cannot become a number text.
use Rattle.std.proofs.Common.{◌≡◌, ◌≢◌, ℕ, zero, suc, ◌+◌, ◌-◌, ◌<◌, ◌≤◌, Bool, true, false, List, [], ◌∷◌, ◌++◌, length, get_or, take, drop, refl, sym, ap, ◌∙◌, cond, arith, subst, append_assoc, length-append, All, ◌⊎◌, inl, inr, add-one}
use Rattle.std.specs.Prelude.{nat_lt, if◌then◌else◌, ◌==◌, ◌&&◌, not, Option, None, Some, ℤ}
use Rattle.std.specs.Char.{is_ascii_digit}
use Rattle.std.specs.List.{prefix_len}
use Rattle.std.proofs.Math.Seq.{drop-cons}
use Rattle.std.proofs.lemmas.Bool.{cases_order, cond_both, eqb-true, eqb-false}
use Rattle.std.proofs.lemmas.Bool.Decides.{nat_tests}
use Rattle.std.proofs.lemmas.List.{append-nil, drop_all, get_or-drop, length-drop, length-take-le}
use Rattle.std.proofs.lemmas.List.Elements.{All-cons, All-nil}
use Rattle.std.proofs.lemmas.List.Sums.{prefix_len_is, prefix_len_passes, prefix_len_stops, prefix_len-le-length}
use Rattle.pdq_value.specs.Numbers.{BadNumbersAreRefused, IsBadPlace, IsDigit, IsNumberText, MayBecomeNumber, bad_place, decimals_of, digits_end, good_decimals, is_negative, whole_begin, whole_end}
use Rattle.pdq_value.proofs.NumberParts.{sign}
use Rattle.pdq_value.proofs.NumberReading.{number_of_text-IsNumberText}
use Rattle.pdq_value.proofs.NumberReads.{bad_place-read, says_none, says_signed}
use Rattle.pdq_value.proofs.NumberSteps.{bad_place-decimals, bad_place-empty, bad_place-no_point, number_read-bad}
use Rattle.pdq_value.proofs.NumberWords.{IsNumberText-number_of_text, decimals_good, digits_first, sign_first}

-- ---- a text that is cut behind a place and goes on in another way

same_at : (text more : List ℕ) (n k : ℕ) → k < n → n ≤ length text → get_or (take n text ++ more) k 0 ≡ get_or text k 0
same_at [] more n k p q = absurd (omega (arith, p, q))
same_at (b ∷ text) more zero k p q = absurd (omega (arith, p))
same_at (b ∷ text) more (suc n) zero p q = refl
same_at (b ∷ text) more (suc n) (suc k) p q = same_at text more n k (omega (arith, p)) (omega (arith, q))

cut_same : (s : ℕ) (text : List ℕ) (n m : ℕ) (more : List ℕ) → n ≡ s + m → n ≤ length text → drop s (take n text ++ more) ≡ take m (drop s text) ++ more
cut_same zero text n m more e p = let same : n ≡ m = omega (arith, e) in ap (λ k. take k text ++ more) same
cut_same (suc s) [] n m more e p = absurd (omega (arith, e, p))
cut_same (suc s) (b ∷ text) zero m more e p = absurd (omega (arith, e))
cut_same (suc s) (b ∷ text) (suc n) m more e p = cut_same s text n m more (omega (arith, e)) (omega (arith, p))

take_none : (n : ℕ) → let none : List ℕ = [] in take n none ≡ none
take_none zero = refl
take_none (suc n) = refl

take_two : (m n k : ℕ) (text : List ℕ) → k ≡ m + n → take k text ≡ take m text ++ take n (drop m text)
take_two zero n k text e = let same : k ≡ n = omega (arith, e) in ap (λ j. take j text) same
take_two (suc m) n k [] e = take_none k ∙ sym (take_none n)
take_two (suc m) n zero (b ∷ text) e = absurd (omega (arith, e))
take_two (suc m) n (suc k) (b ∷ text) e = ap (λ l. b ∷ l) (take_two m n k text (omega (arith, e)))

-- ---- the digits of the whole part

digits_in : (text : List ℕ) (begin k : ℕ) → begin ≤ k → k < digits_end text begin → is_ascii_digit (get_or text k 0) ≡ true
digits_in text begin k p q =
    let at : begin + (k - begin) ≡ k = omega arith in
    ap is_ascii_digit (sym (get_or-drop begin text (k - begin) 0 ∙ ap (λ i. get_or text i 0) at)) ∙ prefix_len_passes is_ascii_digit (drop begin text) (k - begin) 0 (omega (arith, p, q))

stops_at : (text : List ℕ) (begin : ℕ) → digits_end text begin < length text → is_ascii_digit (get_or text (digits_end text begin) 0) ≡ false
stops_at text begin p =
    let n = prefix_len is_ascii_digit (drop begin text) in
    ap is_ascii_digit (sym (get_or-drop begin text n 0)) ∙ prefix_len_stops is_ascii_digit (drop begin text) 0 (omega (arith, p, length-drop begin text))

digits_end_is : (text : List ℕ) (begin end : ℕ) → begin ≤ end → end < length text → ((k : ℕ) → begin ≤ k → k < end → is_ascii_digit (get_or text k 0) ≡ true) → is_ascii_digit (get_or text end 0) ≡ false → digits_end text begin ≡ end
digits_end_is text begin end p q h stop =
    let rest = drop begin text in
    let at : begin + (end - begin) ≡ end = omega arith in
    let n : prefix_len is_ascii_digit rest ≡ end - begin =
    prefix_len_is is_ascii_digit rest (end - begin) 0 (omega (arith, p, q, length-drop begin text))
    (λ k less. ap is_ascii_digit (get_or-drop begin text k 0) ∙ h (begin + k) (omega arith) (omega (arith, less)))
    (λ _. ap is_ascii_digit (get_or-drop begin text (end - begin) 0 ∙ ap (λ i. get_or text i 0) at) ∙ stop) in
    omega (arith, n, p)

begins : (text : List ℕ) → whole_begin text ≤ length text
begins [] = omega arith
begins (b ∷ text) = cond_both (is_negative (b ∷ text)) 1 0 (λ n. n ≤ length (b ∷ text)) (λ _. omega arith) (λ _. omega arith)

ends : (text : List ℕ) → whole_end text ≤ length text
ends text = omega (arith, begins text, prefix_len-le-length is_ascii_digit (drop (whole_begin text) text), length-drop (whole_begin text) text)

-- ---- the decimals

good_le : (scale : ℕ) (ds : List ℕ) → good_decimals scale ds ≤ length ds
good_le scale [] = omega arith
good_le scale (b ∷ ds) = let later = good_le (scale - 1) ds in cond_both (if nat_lt 0 scale then is_ascii_digit b else b == 48) (1 + good_decimals (scale - 1) ds) 0 (λ n. n ≤ length (b ∷ ds)) (λ _. omega (arith, later)) (λ _. omega arith)

good_cut : (scale : ℕ) (ds more : List ℕ) (g : ℕ) → good_decimals scale ds ≡ g → g < length ds → good_decimals scale (take (suc g) ds ++ more) ≡ g
good_cut scale [] more g e p = absurd (omega (arith, p))
good_cut scale (b ∷ ds) more g e p = by (if nat_lt 0 scale then is_ascii_digit b else b == 48) (good_cut (scale - 1) ds more (good_decimals (scale - 1) ds) refl) e
  where
    by : (t : Bool) → (good_decimals (scale - 1) ds < length ds → good_decimals (scale - 1) (take (suc (good_decimals (scale - 1) ds)) ds ++ more) ≡ good_decimals (scale - 1) ds) → cond t (1 + good_decimals (scale - 1) ds) 0 ≡ g → cond t (1 + good_decimals (scale - 1) (take g ds ++ more)) 0 ≡ g
    by true deeper f =
        let n : g ≡ suc (good_decimals (scale - 1) ds) = omega (arith, f) in
        ap (λ k. 1 + good_decimals (scale - 1) (take k ds ++ more)) n ∙ ap (λ k. 1 + k) (deeper (omega (arith, n, p))) ∙ f
    by false deeper f = f

good_take : (scale : ℕ) (ds : List ℕ) (g : ℕ) → good_decimals scale ds ≡ g → good_decimals scale (take g ds) ≡ g
good_take scale [] g e = ap (good_decimals scale) (take_none g) ∙ e
good_take scale (b ∷ ds) zero e = refl
good_take scale (b ∷ ds) (suc g) e = by (if nat_lt 0 scale then is_ascii_digit b else b == 48) (good_take (scale - 1) ds g) e
  where
    by : (t : Bool) → (good_decimals (scale - 1) ds ≡ g → good_decimals (scale - 1) (take g ds) ≡ g) → cond t (1 + good_decimals (scale - 1) ds) 0 ≡ suc g → cond t (1 + good_decimals (scale - 1) (take g ds)) 0 ≡ suc g
    by true deeper f = let n : good_decimals (scale - 1) ds ≡ g = omega (arith, f) in omega (arith, deeper n)
    by false deeper f = absurd (omega (arith, f))

-- ---- where the place is

abbrev View : ℕ → List ℕ → ℕ → Type 0
View scale text place =
    ((whole_end text ≡ whole_begin text) × (place ≡ whole_end text))
    ⊎ (((whole_end text ≢ whole_begin text) × (whole_end text ≢ length text) × (get_or text (whole_end text) 0 ≢ 46) × (place ≡ whole_end text))
    ⊎ ((whole_end text ≢ whole_begin text) × (whole_end text ≢ length text) × (get_or text (whole_end text) 0 ≡ 46) × (place ≡ whole_end text + 1 + good_decimals scale (decimals_of text))))

not_true : (b : Bool) → not b ≡ true → b ≡ false
not_true false e = refl
not_true true e = absurd (let c : ⊥ = cc in c)

not_false : (b : Bool) → not b ≡ false → b ≡ true
not_false true e = refl
not_false false e = absurd (let c : ⊥ = cc in c)

same_place : (a b : ℕ) → Some a ≡ Some b → b ≡ a
same_place a b e = cc

no_place : {P : Type 0} (b : ℕ) → None ≡ Some b → P
no_place b e = absurd (let c : ⊥ = cc in c)

view : (scale : ℕ) (text : List ℕ) (place : ℕ) → bad_place scale text ≡ Some place → View scale text place
unfolding bad_place
view scale text place =
    let end = whole_end text in
    let good = good_decimals scale (decimals_of text) in
    cond_both (end == whole_begin text) _ _ (λ (o : Option ℕ). o ≡ Some place → View scale text place) (λ n e. inl (eqb-true end (whole_begin text) n, same_place end place e))
    (λ n. cond_both (end == length text) _ _ (λ (o : Option ℕ). o ≡ Some place → View scale text place) (λ _ e. no_place place e)
    (λ m. cond_both (not (get_or text end 0 == 46)) _ _ (λ (o : Option ℕ). o ≡ Some place → View scale text place)
    (λ p e. inr (inl (eqb-false end (whole_begin text) n, eqb-false end (length text) m, eqb-false (get_or text end 0) 46 (not_true (get_or text end 0 == 46) p), same_place end place e)))
    (λ p. cond_both (nat_lt 0 good && (end + 1 + good) == length text) _ _ (λ (o : Option ℕ). o ≡ Some place → View scale text place) (λ _ e. no_place place e)
    (λ _ e. inr (inr (eqb-false end (whole_begin text) n, eqb-false end (length text) m, eqb-true (get_or text end 0) 46 (not_false (get_or text end 0 == 46) p), same_place (end + 1 + good) place e))))))

-- ---- with the byte at the place the text cannot become a number text

module _ (scale : ℕ) (text more : List ℕ) (place : ℕ) (below : place < length text) where
  abbrev other : List ℕ
  other = take (place + 1) text ++ more

  other_size : place < length other
  other_size = omega (arith, length-append (take (place + 1) text) more, length-take-le (place + 1) text (omega (arith, below)))

  other_at : (k : ℕ) → k ≤ place → get_or other k 0 ≡ get_or text k 0
  other_at k p = same_at text more (place + 1) k (omega (arith, p)) (omega (arith, below))

  other_negative : is_negative other ≡ is_negative text
  other_negative =
      let first = other_at 0 (omega arith) in
      let a : nat_lt 0 (length other) ≡ true = grind (arith, nat_tests, other_size) in
      let b : nat_lt 0 (length text) ≡ true = grind (arith, nat_tests, below) in
      ap (λ t. t && (get_or other 0 0 == 45)) a ∙ ap (λ x. x == 45) first ∙ sym (ap (λ t. t && (get_or text 0 0 == 45)) b)

  other_begin : whole_begin other ≡ whole_begin text
  other_begin = ap (λ t. if t then 1 else 0) other_negative

  other_end : whole_end text ≤ place → whole_end other ≡ whole_end text
  other_end p =
      let begin = whole_begin text in
      let end = whole_end text in
      ap (digits_end other) other_begin
      ∙ digits_end_is other begin end (omega arith) (omega (arith, p, other_size)) (λ k q r. ap is_ascii_digit (other_at k (omega (arith, p, r))) ∙ digits_in text begin k q r)
      (ap is_ascii_digit (other_at end p) ∙ stops_at text begin (omega (arith, p, below)))

  other_decimals : place ≡ whole_end text + 1 + good_decimals scale (decimals_of text) → good_decimals scale (drop (whole_end text + 1) other) ≡ good_decimals scale (decimals_of text)
  other_decimals e =
      let s = whole_end text + 1 in
      let g = good_decimals scale (decimals_of text) in
      ap (good_decimals scale) (cut_same s text (place + 1) (suc g) more (omega (arith, e)) (omega (arith, below)))
      ∙ good_cut scale (decimals_of text) more g refl (omega (arith, e, below, length-drop s text))

  stays_bad : View scale text place → bad_place scale other ≡ Some place
  stays_bad (inl h) =
      let end = whole_end text in
      let p : end ≤ place = omega (arith, h.1) in
      bad_place-empty scale other (whole_begin text) end (good_decimals scale (drop (end + 1) other)) (sym other_begin) (sym (ap (digits_end other) (sym other_begin) ∙ other_end p)) refl h.0 ∙ ap Some (sym h.1)
  stays_bad (inr (inl h)) =
      let end = whole_end text in
      let p : end ≤ place = omega (arith, h.3) in
      bad_place-no_point scale other (whole_begin text) end (good_decimals scale (drop (end + 1) other)) (sym other_begin) (sym (ap (digits_end other) (sym other_begin) ∙ other_end p)) refl h.0 (λ e. omega (arith, e, p, other_size, h.3))
      (λ e. h.2 (sym (other_at end p) ∙ e)) ∙ ap Some (sym h.3)
  stays_bad (inr (inr h)) =
      let end = whole_end text in
      let good = good_decimals scale (decimals_of text) in
      let p : end ≤ place = omega (arith, h.3) in
      let size = other_size in
      let at = h.3 in
      let open_end : (nat_lt 0 good && (end + 1 + good) == length other) ≡ false = grind (arith, nat_tests) in
      bad_place-decimals scale other (whole_begin text) end good (sym other_begin) (sym (ap (digits_end other) (sym other_begin) ∙ other_end p)) (sym (other_decimals h.3)) h.0 (λ e. omega (arith, e, p, size, at))
      (other_at end p ∙ h.2) ∙ ap (λ t. cond t None (Some (end + 1 + good))) open_end ∙ ap Some (sym h.3)

-- ---- what stands before the place may become a number text

-- a text of these parts says a number
pub number_of_parts : (scale : ℕ) (negative : Bool) (whole decimals : List ℕ) → 0 < length whole → All IsDigit whole → All IsDigit decimals → All (λ (b : ℕ). b ≡ 48) (drop scale decimals)
    → (number : ℤ) × IsNumberText scale ((sign negative ++ whole) ++ (if nat_lt 0 (length decimals) then 46 ∷ decimals else [])) number
number_of_parts scale negative whole decimals some digits decimal_digits zeros = (_, record { negative = negative; whole = whole; decimals = decimals; parts = refl; some_digit = some; digits = digits; decimal_digits = decimal_digits; zeros = zeros; value = refl })

one_zero : All IsDigit (48 ∷ [])
one_zero = All-cons IsDigit 48 [] (omega arith, omega arith) (All-nil IsDigit)

none_past : (scale : ℕ) → All (λ (b : ℕ). b ≡ 48) (drop scale [])
none_past scale = subst (All (λ (b : ℕ). b ≡ 48)) (sym (drop_all scale [] (omega arith))) (All-nil (λ b. b ≡ 48))

zero_past : (scale : ℕ) → All (λ (b : ℕ). b ≡ 48) (drop scale (48 ∷ []))
zero_past zero = All-cons (λ b. b ≡ 48) 48 [] refl (All-nil (λ b. b ≡ 48))
zero_past (suc scale) = none_past scale

becomes : (scale : ℕ) (text more said : List ℕ) → text ++ more ≡ said → (number : ℤ) × IsNumberText scale said number → MayBecomeNumber scale text
becomes scale text more said e h = (more, h.0, subst (λ t. IsNumberText scale t h.0) (sym e) h.1)

module _ (scale : ℕ) (text : List ℕ) where
  abbrev whole : List ℕ
  whole = take (whole_end text - whole_begin text) (drop (whole_begin text) text)

  abbrev front : List ℕ
  front = sign (is_negative text) ++ whole

  front_is : take (whole_end text) text ≡ front
  front_is = take_two (whole_begin text) (whole_end text - whole_begin text) (whole_end text) text (omega arith) ∙ ap (λ s. s ++ whole) (sign_first text)

  digits_whole : All IsDigit whole
  digits_whole = digits_first (drop (whole_begin text) text) (whole_end text - whole_begin text) (omega arith)

  some_whole : whole_end text ≢ whole_begin text → 0 < length whole
  some_whole n =
      let rest = drop (whole_begin text) text in
      omega (arith, n, length-take-le (whole_end text - whole_begin text) rest (omega (arith, prefix_len-le-length is_ascii_digit rest)))

  -- a sign, or nothing
  sign_becomes : (place : ℕ) → whole_end text ≡ whole_begin text → place ≡ whole_end text → MayBecomeNumber scale (take place text)
  sign_becomes place e p =
      becomes scale (take place text) (48 ∷ []) _ (ap (λ n. take n text ++ 48 ∷ []) (p ∙ e) ∙ ap (λ s. s ++ 48 ∷ []) (sign_first text) ∙ sym (append-nil (sign (is_negative text) ++ 48 ∷ [])))
      (number_of_parts scale (is_negative text) (48 ∷ []) [] (omega arith) one_zero (All-nil IsDigit) (none_past scale))

  -- a whole part
  whole_becomes : (place : ℕ) → whole_end text ≢ whole_begin text → place ≡ whole_end text → MayBecomeNumber scale (take place text)
  whole_becomes place n p =
      becomes scale (take place text) [] _ (ap (λ k. take k text ++ []) p ∙ ap (λ t. t ++ []) front_is)
      (number_of_parts scale (is_negative text) whole [] (some_whole n) digits_whole (All-nil IsDigit) (none_past scale))

  point_there : whole_end text ≢ length text → get_or text (whole_end text) 0 ≡ 46 → drop (whole_end text) text ≡ 46 ∷ decimals_of text
  point_there m e =
      let p : whole_end text < length text = omega (arith, m, ends text) in
      let d : drop (whole_end text) text ≡ get_or text (whole_end text) 0 ∷ decimals_of text = rw add-one (drop-cons text (whole_end text) 0 p) in
      d ∙ ap (λ b. b ∷ decimals_of text) e

  decimals_front : whole_end text ≢ length text → get_or text (whole_end text) 0 ≡ 46 → (good place : ℕ) → place ≡ whole_end text + 1 + good → take place text ≡ front ++ 46 ∷ take good (decimals_of text)
  decimals_front m e good place p =
      take_two (whole_end text) (suc good) place text (omega (arith, p)) ∙ ap (λ f. f ++ take (suc good) (drop (whole_end text) text)) front_is ∙ ap (λ r. front ++ take (suc good) r) (point_there m e)

  -- a whole part, a point and good decimals
  decimals_become : (good place : ℕ) → good_decimals scale (decimals_of text) ≡ good → whole_end text ≢ whole_begin text → whole_end text ≢ length text → get_or text (whole_end text) 0 ≡ 46 → place ≡ whole_end text + 1 + good → MayBecomeNumber scale (take place text)
  decimals_become zero place g n m e p =
      becomes scale (take place text) (48 ∷ []) _ (ap (λ t. t ++ 48 ∷ []) (decimals_front m e 0 place p) ∙ append_assoc front (46 ∷ []) (48 ∷ []))
      (number_of_parts scale (is_negative text) whole (48 ∷ []) (some_whole n) digits_whole one_zero (zero_past scale))
  decimals_become (suc good) place g n m e p =
      let ds = take (suc good) (decimals_of text) in
      let size : length ds ≡ suc good = length-take-le (suc good) (decimals_of text) (omega (arith, g, good_le scale (decimals_of text))) in
      let d = decimals_good scale ds (good_take scale (decimals_of text) (suc good) g ∙ sym size) in
      let some : nat_lt 0 (length ds) ≡ true = grind (arith, nat_tests, size) in
      becomes scale (take place text) [] _ (append-nil (take place text) ∙ decimals_front m e (suc good) place p ∙ ap (λ t. front ++ cond t (46 ∷ ds) []) (sym some))
      (number_of_parts scale (is_negative text) whole ds (some_whole n) digits_whole d.0 d.1)

  good_before : (place : ℕ) → View scale text place → MayBecomeNumber scale (take place text)
  good_before place (inl h) = sign_becomes place h.0 h.1
  good_before place (inr (inl h)) = whole_becomes place h.0 h.3
  good_before place (inr (inr h)) = decimals_become (good_decimals scale (decimals_of text)) place refl h.0 h.1 h.2 h.3

  place_within : (place : ℕ) → View scale text place → place ≤ length text
  place_within place (inl h) = omega (arith, h.1, ends text)
  place_within place (inr (inl h)) = omega (arith, h.3, ends text)
  place_within place (inr (inr h)) = let m = h.1 in let p = h.3 in omega (arith, m, p, ends text, good_le scale (decimals_of text), length-drop (whole_end text + 1) text)

-- a bad text says no number
says_no_number : (scale : ℕ) (text : List ℕ) (place : ℕ) → bad_place scale text ≡ Some place → (number : ℤ) → IsNumberText scale text number → ⊥
says_no_number scale text place bad number h =
    let f = sym (says_none scale text place bad) ∙ number_of_text-IsNumberText scale text number h in
    cc

bad_place-IsBadPlace : (scale : ℕ) (text : List ℕ) (place : ℕ) → bad_place scale text ≡ Some place → IsBadPlace scale text place
bad_place-IsBadPlace scale text place bad =
    let v = view scale text place bad in
    record {
      within = place_within scale text place v;
      good_before = good_before scale text place v;
      bad_there = λ below h. says_no_number scale (take (place + 1) text ++ h.0) place (stays_bad scale text h.0 place below v) h.1 h.2;
      no_number = says_no_number scale text place bad;
    }

-- a part of what may become a number text may become one
part_becomes : (scale : ℕ) (text : List ℕ) (n k : ℕ) → n ≤ k → MayBecomeNumber scale (take k text) → MayBecomeNumber scale (take n text)
part_becomes scale text n k p h =
    let rest = take (k - n) (drop n text) in
    let e : take n text ++ (rest ++ h.0) ≡ take k text ++ h.0 = sym (append_assoc (take n text) rest h.0) ∙ ap (λ t. t ++ h.0) (sym (take_two n (k - n) k text (omega arith))) in
    (rest ++ h.0, h.1, subst (λ t. IsNumberText scale t h.1) (sym e) h.2)

one_place : (scale : ℕ) (text : List ℕ) (a b : ℕ) → IsBadPlace scale text a → IsBadPlace scale text b → a ≡ b
one_place scale text a b h k = by (cases_order a b)
  where
    by : (a ≡ b) ⊎ ((a < b) ⊎ (b < a)) → a ≡ b
    by (inl e) = e
    by (inr (inl p)) = absurd (h.bad_there (omega (arith, p, k.within)) (part_becomes scale text (a + 1) b (omega (arith, p)) k.good_before))
    by (inr (inr p)) = absurd (k.bad_there (omega (arith, p, h.within)) (part_becomes scale text (b + 1) a (omega (arith, p)) h.good_before))

IsBadPlace-bad_place : (scale : ℕ) (text : List ℕ) (place : ℕ) → IsBadPlace scale text place → bad_place scale text ≡ Some place
IsBadPlace-bad_place scale text place h = by (bad_place scale text) refl
  where
    by : (o : Option ℕ) → bad_place scale text ≡ o → bad_place scale text ≡ Some place
    by (Some at) e = e ∙ ap Some (one_place scale text at place (bad_place-IsBadPlace scale text at e) h)
    by None e = absurd (h.no_number _ (IsNumberText-number_of_text scale text _ (says_signed scale text e)))

pub bad_numbers_are_refused : BadNumbersAreRefused
bad_numbers_are_refused scale text place = (
  λ e. bad_place-IsBadPlace scale text place (bad_place-read scale text place e),
  λ h. number_read-bad text scale place (IsBadPlace-bad_place scale text place h),
)
