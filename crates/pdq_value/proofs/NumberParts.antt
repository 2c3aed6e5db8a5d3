-- What is read of a number text that is put together from its parts.
use Rattle.std.proofs.Common.{◌≡◌, ℕ, suc, ◌+◌, ◌-◌, ◌<◌, Bool, true, false, List, [], ◌∷◌, ◌++◌, length, get_or, take, drop, refl, sym, ap, ◌∙◌, cond, arith, replicate, append_assoc, length-append}
use Rattle.std.specs.Prelude.{nat_lt, if◌then◌else◌, ◌==◌, ◌&&◌, None, Some, slice_range}
use Rattle.std.specs.Char.{is_ascii_digit}
use Rattle.std.specs.List.{prefix_len}
use Rattle.std.proofs.lemmas.Bool.{eq-eqb}
use Rattle.std.proofs.lemmas.Bool.Decides.{nat_tests}
use Rattle.std.proofs.lemmas.List.{drop_all, drop_at, take_at}
use Rattle.std.proofs.lemmas.List.Folds.{prefix_len-append}
use Rattle.pdq_value.specs.Numbers.{bad_place, decimals_of, digits_end, good_decimals, is_negative, magnitude_of, number_after, whole_begin, whole_end}
use Rattle.pdq_value.proofs.NumberSteps.{bad_place-whole, bad_place-decimals}

abbrev pub AreDigits : List ℕ → Type 0
AreDigits bytes = prefix_len is_ascii_digit bytes ≡ length bytes

abbrev pub sign : Bool → List ℕ
sign negative = if negative then 45 ∷ [] else []

abbrev pub fraction : List ℕ → List ℕ
fraction [] = []
fraction (d ∷ ds) = 46 ∷ d ∷ ds

first_digit : (d : ℕ) (ds : List ℕ) → AreDigits (d ∷ ds) → is_ascii_digit d ≡ true
first_digit d ds h = first (is_ascii_digit d) h where
  first : (b : Bool) → cond b (1 + prefix_len is_ascii_digit ds) 0 ≡ suc (length ds) → b ≡ true
  first true e = refl
  first false e = absurd (omega (arith, e))

not_minus : (d : ℕ) → is_ascii_digit d ≡ true → (d == 45) ≡ false
not_minus d h = grind (arith, nat_tests)

pub negative_is : (negative : Bool) (d : ℕ) (ds more : List ℕ) → AreDigits (d ∷ ds) → is_negative (sign negative ++ (d ∷ ds) ++ more) ≡ negative
negative_is true d ds more h = grind (arith, nat_tests)
negative_is false d ds more h = let e = not_minus d (first_digit d ds h) in grind (arith, nat_tests)

fraction_starts : (ds : List ℕ) → prefix_len is_ascii_digit (fraction ds) ≡ 0
fraction_starts [] = refl
fraction_starts (d ∷ ds) = refl

digits_before : (whole ds : List ℕ) → AreDigits whole → prefix_len is_ascii_digit (whole ++ fraction ds) ≡ length whole
digits_before whole ds h =
    let n = fraction_starts ds in
    prefix_len-append is_ascii_digit whole (fraction ds) ∙ ap (λ t. cond t (length whole + prefix_len is_ascii_digit (fraction ds)) (prefix_len is_ascii_digit whole)) (eq-eqb _ _ h) ∙ omega (arith, n)

sign_size : (negative : Bool) → (if negative then 1 else 0) ≡ length (sign negative)
sign_size true = refl
sign_size false = refl

after_point : (front decimals : List ℕ) → drop (length front + 1) (front ++ fraction decimals) ≡ decimals
after_point front [] = drop_all (length front + 1) (front ++ []) (omega (arith, length-append front []))
after_point front (d ∷ ds) = ap (drop (length front + 1)) (sym (append_assoc front (46 ∷ []) (d ∷ ds))) ∙ drop_at (front ++ 46 ∷ []) (d ∷ ds) (length front + 1) (length-append front (46 ∷ []))

point_at : (front decimals : List ℕ) → 0 < length decimals → get_or (front ++ fraction decimals) (length front) 0 ≡ 46
point_at front [] p = absurd (omega (arith, p))
point_at [] (d ∷ ds) p = refl
point_at (x ∷ xs) (d ∷ ds) p = point_at xs (d ∷ ds) p

fraction_size : (decimals : List ℕ) → 0 < length decimals → length (fraction decimals) ≡ 1 + length decimals
fraction_size [] p = absurd (omega (arith, p))
fraction_size (d ∷ ds) p = omega arith

module _ (scale : ℕ) (negative : Bool) (d : ℕ) (ds : List ℕ) (h : AreDigits (d ∷ ds)) where
  abbrev front : List ℕ
  front = sign negative ++ (d ∷ ds)

  front_size : length front ≡ length (sign negative) + length (d ∷ ds)
  front_size = length-append (sign negative) (d ∷ ds)

  module _ (decimals : List ℕ) where
    abbrev text : List ℕ
    text = front ++ fraction decimals

    begin_is : length (sign negative) ≡ whole_begin text
    begin_is = sym (ap (λ t. if t then 1 else 0) (negative_is negative d ds (fraction decimals) h) ∙ sign_size negative)

    rest_is : drop (length (sign negative)) text ≡ (d ∷ ds) ++ fraction decimals
    rest_is = ap (drop (length (sign negative))) (append_assoc (sign negative) (d ∷ ds) (fraction decimals)) ∙ drop_at (sign negative) ((d ∷ ds) ++ fraction decimals) _ refl

    end_is : length front ≡ digits_end text (length (sign negative))
    end_is = front_size ∙ ap (λ n. length (sign negative) + n) (sym (ap (prefix_len is_ascii_digit) rest_is ∙ digits_before (d ∷ ds) decimals h))

    whole_end_is : whole_end text ≡ length front
    whole_end_is = ap (digits_end text) (sym begin_is) ∙ sym end_is

    decimals_is : decimals_of text ≡ decimals
    decimals_is = ap (λ n. drop (n + 1) text) whole_end_is ∙ after_point front decimals

    whole_is : slice_range text (whole_begin text) (whole_end text) ≡ d ∷ ds
    whole_is =
        ap (λ b. slice_range text b (whole_end text)) (sym begin_is) ∙ ap (slice_range text (length (sign negative))) whole_end_is ∙ ap (take (length front - length (sign negative))) rest_is
        ∙ take_at (d ∷ ds) (fraction decimals) (length front - length (sign negative)) (omega (arith, front_size))

    pub magnitude-parts : magnitude_of scale text ≡ number_after 0 ((d ∷ ds) ++ take scale (decimals ++ replicate scale 48))
    unfolding magnitude_of
    magnitude-parts = ap (λ w. number_after 0 (w ++ take scale (decimals_of text ++ replicate scale 48))) whole_is ∙ ap (λ x. number_after 0 ((d ∷ ds) ++ take scale (x ++ replicate scale 48))) decimals_is

  pub bad_place-parts : (decimals : List ℕ) → good_decimals scale decimals ≡ length decimals → bad_place scale (front ++ fraction decimals) ≡ None
  bad_place-parts [] g = bad_place-whole scale (text []) (length (sign negative)) (length front) _ (begin_is []) (end_is []) refl (omega (arith, front_size)) (omega (arith, length-append front []))
  bad_place-parts (x ∷ xs) g =
      let decimals = x ∷ xs in
      let some : 0 < length decimals = omega arith in
      let size = length-append front (fraction decimals) in
      let fits : (nat_lt 0 (length decimals) && (length front + 1 + length decimals) == length (text decimals)) ≡ true = grind (arith, nat_tests) in
      bad_place-decimals scale (text decimals) (length (sign negative)) (length front) (length decimals) (begin_is decimals) (end_is decimals) (sym (ap (good_decimals scale) (after_point front decimals) ∙ g)) (omega (arith, front_size)) (omega (arith, size)) (point_at front decimals some) ∙ ap (λ t. cond t None (Some (length front + 1 + length decimals))) fits
