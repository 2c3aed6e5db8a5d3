-- The bytes of a number token are ASCII, so they are UTF-8.
use Rattle.std.proofs.Common.{◌≡◌, ◌<◌, ℕ, zero, suc, ◌+◌, Bool, true, false, List, [], ◌∷◌, length, ◌-◌, take, drop, take_all, refl, sym, subst, ap, ◌∙◌, arith}
use Rattle.std.specs.Prelude.{◌==◌, ◌&&◌, not, if◌then◌else◌, slice_index}
use Rattle.std.specs.Char.{is_ascii_digit}
use Rattle.std.specs.Str.{IsAscii, is_utf8}
use Rattle.std.proofs.lemmas.Str.{IsUtf8-from_ascii, is_utf8-from_IsUtf8}
use Rattle.std.proofs.lemmas.Bool.Decides.{nat_tests}
use Rattle.pdq_sql.specs.Tokens.{run_of, fraction_len, number_len}

none_ascii : IsAscii []
none_ascii i = omega arith

more_ascii : (b : ℕ) (bs : List ℕ) → b < 128 → IsAscii bs → IsAscii (b ∷ bs)
more_ascii b bs low rest zero = low
more_ascii b bs low rest (suc i) = rest i

digit_low : (b : ℕ) → is_ascii_digit b ≡ true → b < 128
digit_low b h = grind (arith, nat_tests, h)

digits_if : (b : ℕ) (bs : List ℕ) (d : Bool) → is_ascii_digit b ≡ d → IsAscii (take (run_of is_ascii_digit bs) bs) → IsAscii (take (if d then suc (run_of is_ascii_digit bs) else 0) (b ∷ bs))
digits_if b bs true e rest = more_ascii b (take (run_of is_ascii_digit bs) bs) (digit_low b e) rest
digits_if b bs false e rest = none_ascii

digits_ascii : (bs : List ℕ) → IsAscii (take (run_of is_ascii_digit bs) bs)
digits_ascii [] = none_ascii
digits_ascii (b ∷ bs) = digits_if b bs (is_ascii_digit b) refl (digits_ascii bs)

fraction_if : (b : ℕ) (bs : List ℕ) (t : Bool) → (b == 46 && not (run_of is_ascii_digit bs == 0)) ≡ t → IsAscii (take (if t then 1 + run_of is_ascii_digit bs else 0) (b ∷ bs))
fraction_if b bs true e =
    let m = run_of is_ascii_digit bs in
    let counted : 1 + m ≡ suc m = omega arith in
    rw counted (more_ascii b (take m bs) (grind (arith, nat_tests, e)) (digits_ascii bs))
fraction_if b bs false e = none_ascii

fraction_ascii : (bs : List ℕ) → IsAscii (take (fraction_len bs) bs)
fraction_ascii [] = none_ascii
fraction_ascii (b ∷ bs) = fraction_if b bs (b == 46 && not (run_of is_ascii_digit bs == 0)) refl

-- how many bytes a number takes whose first byte is a digit or not
abbrev len_if : Bool → ℕ → List ℕ → ℕ
len_if d b bs = (if d then suc (run_of is_ascii_digit bs) else 0) + fraction_len (drop (if d then suc (run_of is_ascii_digit bs) else 0) (b ∷ bs))

number_if : (b : ℕ) (bs : List ℕ) (d : Bool) → is_ascii_digit b ≡ d → IsAscii (take (number_len bs) bs) → IsAscii (take (len_if d b bs) (b ∷ bs))
number_if b bs true e rest =
    let r = run_of is_ascii_digit bs in
    let counted : suc r + fraction_len (drop r bs) ≡ suc (r + fraction_len (drop r bs)) = omega arith in
    rw counted (more_ascii b (take (r + fraction_len (drop r bs)) bs) (digit_low b e) rest)
number_if b bs false e rest =
    let counted : 0 + fraction_len (b ∷ bs) ≡ fraction_len (b ∷ bs) = omega arith in
    rw counted (fraction_ascii (b ∷ bs))

number_ascii : (bs : List ℕ) → IsAscii (take (number_len bs) bs)
number_ascii [] = none_ascii
number_ascii (b ∷ bs) = number_if b bs (is_ascii_digit b) refl (number_ascii bs)

pub number_utf8 : (bs : List ℕ) → is_utf8 (take (number_len bs) bs) ≡ true
number_utf8 bs = is_utf8-from_IsUtf8 (take (number_len bs) bs) (IsUtf8-from_ascii (take (number_len bs) bs) (number_ascii bs))

-- and with a minus in front
signed_utf8 : (b : ℕ) (bs : List ℕ) → (b == 45) ≡ true → is_utf8 (take (number_len bs + 1) (b ∷ bs)) ≡ true
signed_utf8 b bs e =
    let counted : number_len bs + 1 ≡ suc (number_len bs) = omega arith in
    rw counted (is_utf8-from_IsUtf8 (b ∷ take (number_len bs) bs) (IsUtf8-from_ascii (b ∷ take (number_len bs) bs) (more_ascii b (take (number_len bs) bs) (grind (arith, nat_tests, e)) (number_ascii bs))))

-- as the code takes the bytes behind the minus
pub minus_utf8 : (bytes : List ℕ) (n : ℕ) → (slice_index bytes 0 == 45) ≡ true → n ≡ number_len (take (length bytes - 1) (drop 1 bytes)) → is_utf8 (take (n + 1) bytes) ≡ true
minus_utf8 [] n e counted = absurd (grind (arith, nat_tests, e))
minus_utf8 (b ∷ bs) n e counted =
    let whole : take (suc (length bs) - 1) bs ≡ bs = take_all (suc (length bs) - 1) bs (omega arith) in
    subst (λ m. is_utf8 (take (m + 1) (b ∷ bs)) ≡ true) (sym (counted ∙ ap number_len whole)) (signed_utf8 b bs e)
