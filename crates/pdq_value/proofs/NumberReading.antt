-- A number text is read as the number that it says, and what is printed of a number is a text of it.
use Rattle.std.proofs.Common.{◌≡◌, ℕ, zero, suc, ◌+◌, ◌-◌, ◌*◌, ◌/◌, ◌%◌, ◌^◌, ◌<◌, Bool, true, false, List, [], ◌∷◌, ◌++◌, length, take, drop, refl, sym, ap, ◌∙◌, cond, arith, subst, replicate, length-append, All}
use Rattle.std.specs.Prelude.{nat_lt, if◌then◌else◌, ◌==◌, None, Some, ℤ, pos, negsuc, neg_ℤ, nat_abs, int_lt, decimal}
use Rattle.std.specs.Char.{is_ascii_digit}
use Rattle.std.specs.List.{prefix_len}
use Rattle.std.proofs.Math.Nat.{pow-succ', div-le_self, div-div-eq-div-mul}
use Rattle.std.proofs.lemmas.Bool.{cond_both, eq-eqb, ne_eqb}
use Rattle.std.proofs.lemmas.Bool.Decides.{nat_tests}
use Rattle.std.proofs.lemmas.Fmt.{decimal_by_steps_wide}
use Rattle.std.proofs.lemmas.List.{drop_all, take_at}
use Rattle.std.proofs.lemmas.List.Elements.{All-append, All-cons, All-head, All-nil, All-tail}
use Rattle.pdq_value.specs.Numbers.{IsDigit, IsNumberText, bad_place, decimals_text, good_decimals, is_negative, last_digits, magnitude_of, number_after, number_of_text, number_text, signed_magnitude}
use Rattle.pdq_value.proofs.NumberParts.{AreDigits, bad_place-parts, magnitude-parts, negative_is, sign, fraction}
use Rattle.pdq_value.proofs.NumberSteps.{number_after-append}
use Rattle.pdq_value.proofs.NumberTexts.{number_text-parts}

read_good : (scale : ℕ) (text : List ℕ) → bad_place scale text ≡ None → number_of_text scale text ≡ Some (signed_magnitude scale text)
read_good scale text e = rw e refl

signed_is : (scale : ℕ) (text : List ℕ) (negative : Bool) (size : ℕ) → is_negative text ≡ negative → magnitude_of scale text ≡ size → signed_magnitude scale text ≡ (if negative then neg_ℤ (pos size) else pos size)
unfolding signed_magnitude
signed_is scale text negative size n m = rw (n, m) refl

-- a text that is put together from its parts is read as the number of the parts
pub number_of_text-parts : (scale : ℕ) (negative : Bool) (d : ℕ) (ds decimals : List ℕ) → AreDigits (d ∷ ds) → good_decimals scale decimals ≡ length decimals
    → number_of_text scale ((sign negative ++ (d ∷ ds)) ++ fraction decimals) ≡ Some (let size = number_after 0 ((d ∷ ds) ++ take scale (decimals ++ replicate scale 48)) in if negative then neg_ℤ (pos size) else pos size)
number_of_text-parts scale negative d ds decimals h g =
    let text = (sign negative ++ (d ∷ ds)) ++ fraction decimals in
    read_good scale text (bad_place-parts scale negative d ds h decimals g) ∙ ap Some (signed_is scale text negative _ (negative_is negative d ds (fraction decimals) h) (magnitude-parts scale negative d ds h decimals))

positive : (n : ℕ) → nat_lt 0 (suc n) ≡ true
positive n = grind (arith, nat_tests)

is_digit : (b : ℕ) → IsDigit b → is_ascii_digit b ≡ true
is_digit b h = let p = h.0 in let q = h.1 in grind (arith, nat_tests)

are_digits : (bs : List ℕ) → All IsDigit bs → AreDigits bs
are_digits [] h = refl
are_digits (b ∷ bs) h = let r = are_digits bs (All-tail IsDigit b bs h) in ap (λ t. cond t (1 + prefix_len is_ascii_digit bs) 0) (is_digit b (All-head IsDigit b bs h)) ∙ omega (arith, r)

good_zeros : (bs : List ℕ) → All (λ b. b ≡ 48) bs → good_decimals 0 bs ≡ length bs
good_zeros [] h = refl
good_zeros (b ∷ bs) h = let r = good_zeros bs (All-tail (λ b. b ≡ 48) b bs h) in ap (λ t. cond t (1 + good_decimals 0 bs) 0) (eq-eqb b 48 (All-head (λ b. b ≡ 48) b bs h)) ∙ omega (arith, r)

good_all : (scale : ℕ) (bs : List ℕ) → All IsDigit bs → All (λ b. b ≡ 48) (drop scale bs) → good_decimals scale bs ≡ length bs
good_all zero bs h z = good_zeros bs z
good_all (suc scale) [] h z = refl
good_all (suc scale) (b ∷ bs) h z =
    let r = good_all scale bs (All-tail IsDigit b bs h) z in
    let n : suc scale - 1 ≡ scale = omega arith in
    ap (λ t. cond (cond t (is_ascii_digit b) (b == 48)) (1 + good_decimals (suc scale - 1) bs) 0) (positive scale) ∙ ap (λ k. cond (is_ascii_digit b) (1 + good_decimals k bs) 0) n ∙ ap (λ t. cond t (1 + good_decimals scale bs) 0) (is_digit b (All-head IsDigit b bs h)) ∙ omega (arith, r)

fraction_is : (decimals : List ℕ) → (if nat_lt 0 (length decimals) then 46 ∷ decimals else []) ≡ fraction decimals
fraction_is [] = refl
fraction_is (d ∷ ds) = ap (λ t. cond t (46 ∷ d ∷ ds) []) (positive (length ds))

read_parts : (scale : ℕ) (negative : Bool) (whole decimals : List ℕ) → 0 < length whole → All IsDigit whole → All IsDigit decimals → All (λ b. b ≡ 48) (drop scale decimals)
    → number_of_text scale ((sign negative ++ whole) ++ fraction decimals) ≡ Some (let size = number_after 0 (whole ++ take scale (decimals ++ replicate scale 48)) in if negative then neg_ℤ (pos size) else pos size)
read_parts scale negative [] decimals p h g z = absurd (omega (arith, p))
read_parts scale negative (d ∷ ds) decimals p h g z = number_of_text-parts scale negative d ds decimals (are_digits (d ∷ ds) h) (good_all scale decimals g z)

pub number_of_text-IsNumberText : (scale : ℕ) (text : List ℕ) (number : ℤ) → IsNumberText scale text number → number_of_text scale text ≡ Some number
number_of_text-IsNumberText scale text number h =
    ap (number_of_text scale) (h.parts ∙ ap (λ f. (sign h.negative ++ h.whole) ++ f) (fraction_is h.decimals)) ∙ read_parts scale h.negative h.whole h.decimals h.some_digit h.digits h.decimal_digits h.zeros ∙ ap Some (sym h.value)

one_digit : (n : ℕ) → n < 10 → All IsDigit ((48 + n) ∷ [])
one_digit n p = All-cons IsDigit (48 + n) [] (omega arith, omega arith) (All-nil IsDigit)

digit_says : (n d : ℕ) → 10 * n + (48 + d - 48) ≡ 10 * n + d
digit_says n d = omega arith

with_last : (bs : List ℕ) (d start n : ℕ) → number_after start bs ≡ n → number_after start (bs ++ (48 + d) ∷ []) ≡ 10 * n + d
with_last bs d start n e = number_after-append start bs ((48 + d) ∷ []) ∙ ap (λ m. 10 * m + (48 + d - 48)) e ∙ digit_says n d

-- digits of this number
record Says (n : ℕ) (bs : List ℕ) : Type 0 where
  digits : All IsDigit bs
  value : number_after 0 bs ≡ n
  some : 0 < length bs

decimal_says : (n : ℕ) → n < 10 ^ 64 → Says n (decimal n)
decimal_says = decimal_by_steps_wide Says
    (λ n p. record { digits = one_digit n p; value = omega arith; some = omega arith })
    (λ n ds p h. record {
      digits = All-append IsDigit ds ((48 + n % 10) ∷ []) h.digits (one_digit (n % 10) (omega arith));
      value = with_last ds (n % 10) 0 (n / 10) h.value ∙ omega arith;
      some = let s = h.some in omega (arith, length-append ds ((48 + n % 10) ∷ []));
    })

last_digits-digits : (count n : ℕ) → All IsDigit (last_digits count n)
unfolding last_digits
last_digits-digits zero n = All-nil IsDigit
last_digits-digits (suc count) n = All-append IsDigit (last_digits count (n / 10)) ((48 + n % 10) ∷ []) (last_digits-digits count (n / 10)) (one_digit (n % 10) (omega arith))

length-last_digits : (count n : ℕ) → length (last_digits count n) ≡ count
unfolding last_digits
length-last_digits zero n = refl
length-last_digits (suc count) n = omega (arith, length-append (last_digits count (n / 10)) ((48 + n % 10) ∷ []), length-last_digits count (n / 10))

number_after-last_digits : (count n : ℕ) → number_after (n / 10 ^ count) (last_digits count n) ≡ n
unfolding last_digits
number_after-last_digits zero n = omega arith
number_after-last_digits (suc count) n =
    let e : n / 10 ^ suc count ≡ n / 10 / 10 ^ count = ap (λ m. n / m) (pow-succ' 10 count) ∙ sym (div-div-eq-div-mul n 10 (10 ^ count)) in
    with_last (last_digits count (n / 10)) (n % 10) (n / 10 ^ suc count) (n / 10) (ap (λ m. number_after m (last_digits count (n / 10))) e ∙ number_after-last_digits count (n / 10)) ∙ omega arith

decimals_text-fraction : (scale n : ℕ) → decimals_text n scale ≡ fraction (last_digits scale n)
decimals_text-fraction scale n = by_size (last_digits scale n) scale (length-last_digits scale n) where
  by_size : (ds : List ℕ) (k : ℕ) → length ds ≡ k → (if k == 0 then [] else 46 ∷ ds) ≡ fraction ds
  by_size [] k e = ap (λ t. cond t [] (46 ∷ [])) (eq-eqb k 0 (sym e))
  by_size (d ∷ ds) k e = ap (λ t. cond t [] (46 ∷ d ∷ ds)) (ne_eqb k 0 (λ f. absurd (omega (arith, e, f))))

none_past : (scale n : ℕ) → All (λ b. b ≡ 48) (drop scale (last_digits scale n))
none_past scale n = subst (All (λ b. b ≡ 48)) (sym (drop_all scale (last_digits scale n) (omega (arith, length-last_digits scale n)))) (All-nil (λ b. b ≡ 48))

sized : (number : ℤ) → (if int_lt number (pos 0) then neg_ℤ (pos (nat_abs number)) else pos (nat_abs number)) ≡ number
sized (pos n) = let e : nat_lt n 0 ≡ false = grind (arith, nat_tests) in ap (λ t. cond t (neg_ℤ (pos n)) (pos n)) e
sized (negsuc n) = refl

all_digits : (scale n : ℕ) → n < 2 ^ 128 → number_after 0 (decimal (n / 10 ^ scale) ++ take scale (last_digits scale n ++ replicate scale 48)) ≡ n
all_digits scale n p =
    let h = decimal_says (n / 10 ^ scale) (omega (arith, div-le_self n (10 ^ scale))) in
    ap (λ ds. number_after 0 (decimal (n / 10 ^ scale) ++ ds)) (take_at (last_digits scale n) (replicate scale 48) scale (length-last_digits scale n))
    ∙ number_after-append 0 (decimal (n / 10 ^ scale)) (last_digits scale n) ∙ ap (λ m. number_after m (last_digits scale n)) h.value ∙ number_after-last_digits scale n

-- what is printed of a number is read as the number
pub number_of_text-number_text : (number : ℤ) (scale : ℕ) → nat_abs number < 2 ^ 128 → number_of_text scale (number_text number scale) ≡ Some number
number_of_text-number_text number scale p =
    let n = nat_abs number in
    let h = decimal_says (n / 10 ^ scale) (omega (arith, div-le_self n (10 ^ scale))) in
    let negative = int_lt number (pos 0) in
    ap (number_of_text scale) (number_text-parts number scale ∙ ap (λ f. (sign negative ++ decimal (n / 10 ^ scale)) ++ f) (decimals_text-fraction scale n))
    ∙ read_parts scale negative (decimal (n / 10 ^ scale)) (last_digits scale n) h.some h.digits (last_digits-digits scale n) (none_past scale n)
    ∙ ap (λ m. Some (if negative then neg_ℤ (pos m) else pos m)) (all_digits scale n p) ∙ ap Some (sized number)

low_digits : (bs : List ℕ) → All IsDigit bs → All (λ b. b < 92) bs
low_digits bs h = λ k d p. let q = h k d p in omega (arith, q.1)

low_one : (b : ℕ) (bs : List ℕ) → b < 92 → All (λ x. x < 92) bs → All (λ x. x < 92) (b ∷ bs)
low_one b bs p h = All-cons (λ x. x < 92) b bs p h

low_sign : (negative : Bool) → All (λ b. b < 92) (sign negative)
low_sign true = low_one 45 [] (omega arith) (All-nil (λ b. b < 92))
low_sign false = All-nil (λ b. b < 92)

-- no byte of it is a backslash or a bar
pub number_text-low : (number : ℤ) (scale : ℕ) → nat_abs number < 2 ^ 128 → All (λ b. b < 92) (number_text number scale)
number_text-low number scale p =
    let n = nat_abs number in
    let low : ℕ → Type 0 = λ b. b < 92 in
    let h = decimal_says (n / 10 ^ scale) (omega (arith, div-le_self n (10 ^ scale))) in
    let s = low_sign (int_lt number (pos 0)) in
    let d = cond_both (scale == 0) [] (46 ∷ last_digits scale n) (All low) (λ _. All-nil low) (λ _. low_one 46 (last_digits scale n) (omega arith) (low_digits (last_digits scale n) (last_digits-digits scale n))) in
    subst (All low) (sym (number_text-parts number scale)) (All-append low _ (decimals_text n scale) (All-append low _ (decimal (n / 10 ^ scale)) s (low_digits (decimal (n / 10 ^ scale)) h.digits)) d)
