-- What one more byte changes in the reading of a number text.
use Rattle.std.proofs.Common.{◌≡◌, ◌≢◌, ℕ, ◌+◌, ◌-◌, ◌*◌, ◌^◌, ◌<◌, ◌≤◌, min, Bool, true, false, List, [], ◌∷◌, ◌++◌, length, get_or, take, drop, refl, sym, ap, ◌∙◌, cond, arith, add-one, replicate}
use Rattle.std.proofs.Math.Seq.{drop-cons}
use Rattle.std.proofs.lemmas.Bool.{eq-eqb, ne_eqb}
use Rattle.std.proofs.lemmas.Bool.Decides.{nat_tests}
use Rattle.std.proofs.lemmas.List.{drop_all, length-drop, take_all, take_more}
use Rattle.std.proofs.lemmas.Grind.{common_steps}
use Rattle.std.proofs.lemmas.List.Sums.{prefix_len-drop_yes, prefix_len-drop_no, prefix_len-drop_all}
use Rattle.std.specs.Char.{is_ascii_digit}
use Rattle.std.specs.Prelude.{nat_lt, if◌then◌else◌, ◌==◌, ◌&&◌, not, Option, None, Some, Ok, Err, pos, neg_ℤ, slice_range}
use Rattle.pdq_value.specs.declared.numbers.NumberFault.TheVariants.{BadNumber, TooLarge}
use Rattle.pdq_value.specs.Numbers.{bad_place, digits_end, good_decimals, number_after, is_negative, magnitude_of, number_read, signed_magnitude, whole_begin, whole_end}

rest_at : (bytes : List ℕ) (i : ℕ) → i < length bytes → drop i bytes ≡ get_or bytes i 0 ∷ drop (i + 1) bytes
rest_at bytes i p = rw (add-one, drop-cons bytes i 0)

pub digits_end-more : (text : List ℕ) (i : ℕ) → i < length text → is_ascii_digit (get_or text i 0) ≡ true → digits_end text i ≡ digits_end text (i + 1)
digits_end-more text i p e = omega (arith, prefix_len-drop_yes is_ascii_digit text i 0 p e)

pub digits_end-stop : (text : List ℕ) (i : ℕ) → i < length text → is_ascii_digit (get_or text i 0) ≡ false → digits_end text i ≡ i
digits_end-stop text i p e = omega (arith, prefix_len-drop_no is_ascii_digit text i 0 p e)

pub digits_end-all : (text : List ℕ) (i : ℕ) → length text ≤ i → digits_end text i ≡ i
digits_end-all text i p = omega (arith, prefix_len-drop_all is_ascii_digit text i p)

-- whether a decimal at place i is as it must be
abbrev pub is_good : ℕ → ℕ → ℕ → Bool
is_good scale i b = if nat_lt i scale then is_ascii_digit b else b == 48

good_first : (scale i : ℕ) (b : ℕ) → (if nat_lt 0 (scale - i) then is_ascii_digit b else b == 48) ≡ is_good scale i b
good_first scale i b = let e : nat_lt 0 (scale - i) ≡ nat_lt i scale = grind (arith, nat_tests) in ap (λ t. cond t (is_ascii_digit b) (b == 48)) e

good_here : (scale : ℕ) (bytes : List ℕ) (i : ℕ) → i < length bytes → good_decimals (scale - i) (drop i bytes) ≡ cond (is_good scale i (get_or bytes i 0)) (1 + good_decimals (scale - i - 1) (drop (i + 1) bytes)) 0
good_here scale bytes i p = ap (good_decimals (scale - i)) (rest_at bytes i p) ∙ ap (λ t. cond t (1 + good_decimals (scale - i - 1) (drop (i + 1) bytes)) 0) (good_first scale i (get_or bytes i 0))

pub good_decimals-more : (scale : ℕ) (bytes : List ℕ) (i : ℕ) → i < length bytes → is_good scale i (get_or bytes i 0) ≡ true → good_decimals (scale - i) (drop i bytes) ≡ 1 + good_decimals (scale - (i + 1)) (drop (i + 1) bytes)
good_decimals-more scale bytes i p e = good_here scale bytes i p ∙ ap (λ t. cond t (1 + good_decimals (scale - i - 1) (drop (i + 1) bytes)) 0) e ∙ (let d : scale - i - 1 ≡ scale - (i + 1) = omega arith in ap (λ n. 1 + good_decimals n (drop (i + 1) bytes)) d)

pub good_decimals-stop : (scale : ℕ) (bytes : List ℕ) (i : ℕ) → i < length bytes → is_good scale i (get_or bytes i 0) ≡ false → good_decimals (scale - i) (drop i bytes) ≡ 0
good_decimals-stop scale bytes i p e = good_here scale bytes i p ∙ ap (λ t. cond t (1 + good_decimals (scale - i - 1) (drop (i + 1) bytes)) 0) e

pub good_decimals-all : (scale : ℕ) (bytes : List ℕ) (i : ℕ) → length bytes ≤ i → good_decimals scale (drop i bytes) ≡ 0
good_decimals-all scale bytes i p = ap (good_decimals scale) (drop_all i bytes p)

pub number_after-append : (n : ℕ) (xs ys : List ℕ) → number_after n (xs ++ ys) ≡ number_after (number_after n xs) ys
number_after-append n [] ys = refl
number_after-append n (x ∷ xs) ys = number_after-append (10 * n + (x - 48)) xs ys

capped_step : (a d : ℕ) → min (10 * min a (10 ^ 18) + d) (10 ^ 18) ≡ min (10 * a + d) (10 ^ 18)
capped_step a d = omega arith

pub number_after-capped : (n : ℕ) (ds : List ℕ) → min (number_after (min n (10 ^ 18)) ds) (10 ^ 18) ≡ min (number_after n ds) (10 ^ 18)
number_after-capped n [] = omega arith
number_after-capped n (d ∷ ds) = sym (number_after-capped (10 * min n (10 ^ 18) + (d - 48)) ds) ∙ ap (λ m. min (number_after m ds) (10 ^ 18)) (capped_step n (d - 48)) ∙ number_after-capped (10 * n + (d - 48)) ds

-- one more digit, capped
pub number_after-more : (n : ℕ) (ds : List ℕ) (i g : ℕ) → i < length ds → g ≡ min (number_after n (take i ds)) (10 ^ 18) → min (10 * g + (get_or ds i 0 - 48)) (10 ^ 18) ≡ min (number_after n (take (i + 1) ds)) (10 ^ 18)
number_after-more n ds i g p e = ap (λ m. min (10 * m + (get_or ds i 0 - 48)) (10 ^ 18)) e ∙ capped_step (number_after n (take i ds)) (get_or ds i 0 - 48) ∙ ap (λ m. min m (10 ^ 18)) (sym (ap (number_after n) (take_more ds i 0 p) ∙ number_after-append n (take i ds) (get_or ds i 0 ∷ [])))

-- the place by the four tests that decide it
abbrev place_by : Bool → Bool → Bool → Bool → ℕ → ℕ → Option ℕ
place_by empty ends strange fits end stop = cond empty (Some end) (cond ends None (cond strange (Some end) (cond fits None (Some stop))))

module _ (scale : ℕ) (text : List ℕ) (begin end good : ℕ) (b : begin ≡ whole_begin text) (e : end ≡ digits_end text begin) (g : good ≡ good_decimals scale (drop (end + 1) text)) where
  by_tests : bad_place scale text ≡ place_by (end == begin) (end == length text) (not (get_or text end 0 == 46)) (nat_lt 0 good && (end + 1 + good) == length text) end (end + 1 + good)
  unfolding bad_place
  by_tests = rw (g, e, b) refl

  pub bad_place-empty : end ≡ begin → bad_place scale text ≡ Some end
  bad_place-empty h = by_tests ∙ ap (λ t. place_by t (end == length text) (not (get_or text end 0 == 46)) (nat_lt 0 good && (end + 1 + good) == length text) end (end + 1 + good)) (eq-eqb end begin h)

  bad_place-after : end ≢ begin → bad_place scale text ≡ place_by false (end == length text) (not (get_or text end 0 == 46)) (nat_lt 0 good && (end + 1 + good) == length text) end (end + 1 + good)
  bad_place-after n = by_tests ∙ ap (λ t. place_by t (end == length text) (not (get_or text end 0 == 46)) (nat_lt 0 good && (end + 1 + good) == length text) end (end + 1 + good)) (ne_eqb end begin n)

  pub bad_place-whole : end ≢ begin → end ≡ length text → bad_place scale text ≡ None
  bad_place-whole n h = bad_place-after n ∙ ap (λ t. place_by false t (not (get_or text end 0 == 46)) (nat_lt 0 good && (end + 1 + good) == length text) end (end + 1 + good)) (eq-eqb end (length text) h)

  bad_place-more : end ≢ begin → end ≢ length text → bad_place scale text ≡ place_by false false (not (get_or text end 0 == 46)) (nat_lt 0 good && (end + 1 + good) == length text) end (end + 1 + good)
  bad_place-more n m = bad_place-after n ∙ ap (λ t. place_by false t (not (get_or text end 0 == 46)) (nat_lt 0 good && (end + 1 + good) == length text) end (end + 1 + good)) (ne_eqb end (length text) m)

  pub bad_place-no_point : end ≢ begin → end ≢ length text → get_or text end 0 ≢ 46 → bad_place scale text ≡ Some end
  bad_place-no_point n m h = bad_place-more n m ∙ ap (λ t. place_by false false (not t) (nat_lt 0 good && (end + 1 + good) == length text) end (end + 1 + good)) (ne_eqb (get_or text end 0) 46 h)

  pub bad_place-decimals : end ≢ begin → end ≢ length text → get_or text end 0 ≡ 46 → bad_place scale text ≡ cond (nat_lt 0 good && (end + 1 + good) == length text) None (Some (end + 1 + good))
  bad_place-decimals n m h = bad_place-more n m ∙ ap (λ t. place_by false false (not t) (nat_lt 0 good && (end + 1 + good) == length text) end (end + 1 + good)) (eq-eqb (get_or text end 0) 46 h)

-- what is left of a text, as a slice of it
pub rest_slice : (text : List ℕ) (i : ℕ) → slice_range text i (length text) ≡ drop i text
rest_slice text i = take_all (length text - i) (drop i text) (omega (arith, length-drop i text))

-- the digit of a decimal that is there, and of one that is not
pub decimal_there : (decimals : List ℕ) (scale i : ℕ) → i < length decimals → get_or (decimals ++ replicate scale 48) i 0 ≡ get_or decimals i 0
decimal_there decimals scale i p = grind (arith, common_steps)

pub decimal_missing : (decimals : List ℕ) (scale i : ℕ) → i < scale → length decimals ≤ i → get_or (decimals ++ replicate scale 48) i 0 ≡ 48
decimal_missing decimals scale i p q = grind (arith, common_steps)

pub capped_magnitude : (scale : ℕ) (text : List ℕ) (begin end w r : ℕ) (decimals : List ℕ) → begin ≡ whole_begin text → end ≡ digits_end text begin → w ≡ min (number_after 0 (slice_range text begin end)) (10 ^ 18) → decimals ≡ drop (end + 1) text → r ≡ min (number_after w (take scale (decimals ++ replicate scale 48))) (10 ^ 18) → r ≡ min (magnitude_of scale text) (10 ^ 18)
unfolding magnitude_of
capped_magnitude scale text begin end w r decimals b e k d h =
    let whole = slice_range text (whole_begin text) (whole_end text) in
    let kept = take scale (drop (whole_end text + 1) text ++ replicate scale 48) in
    h ∙ rw (d, k, e, b) (number_after-capped (number_after 0 whole) kept ∙ ap (λ m. min m (10 ^ 18)) (sym (number_after-append 0 whole kept)))

module _ (text : List ℕ) (scale : ℕ) where
  pub number_read-bad : (place : ℕ) → bad_place scale text ≡ Some place → number_read text scale ≡ Err (BadNumber place)
  unfolding number_read
  number_read-bad place e = rw e refl

  pub number_read-large : bad_place scale text ≡ None → 10 ^ 18 ≤ magnitude_of scale text → number_read text scale ≡ Err TooLarge
  unfolding number_read
  number_read-large e p = let f : nat_lt (magnitude_of scale text) (10 ^ 18) ≡ false = grind (arith, nat_tests) in rw (e, f) refl

  pub number_read-fits : bad_place scale text ≡ None → magnitude_of scale text < 10 ^ 18 → number_read text scale ≡ Ok (signed_magnitude scale text)
  unfolding number_read
  number_read-fits e p = let f : nat_lt (magnitude_of scale text) (10 ^ 18) ≡ true = grind (arith, nat_tests) in rw (e, f) refl

  pub signed_magnitude-negative : is_negative text ≡ true → signed_magnitude scale text ≡ neg_ℤ (pos (magnitude_of scale text))
  unfolding signed_magnitude
  signed_magnitude-negative e = ap (λ t. cond t (neg_ℤ (pos (magnitude_of scale text))) (pos (magnitude_of scale text))) e

  pub signed_magnitude-positive : is_negative text ≡ false → signed_magnitude scale text ≡ pos (magnitude_of scale text)
  unfolding signed_magnitude
  signed_magnitude-positive e = ap (λ t. cond t (neg_ℤ (pos (magnitude_of scale text))) (pos (magnitude_of scale text))) e
