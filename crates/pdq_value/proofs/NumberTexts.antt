-- What is printed of a number.
use Rattle.std.proofs.Common.{◌≡◌, ◌≢◌, ℕ, zero, suc, ◌+◌, ◌-◌, ◌/◌, ◌%◌, ◌^◌, ◌<◌, [], ◌∷◌, ◌++◌, refl, sym, ap, arith}
use Rattle.std.proofs.Math.Nat.{pow-succ'}
use Rattle.std.specs.Prelude.{ℤ, decimal, nat_abs}
use Rattle.pdq_value.specs.Numbers.{decimals_text, last_digits, number_text, sign_text}

pub last_digits-none : (n : ℕ) → last_digits 0 n ≡ []
unfolding last_digits
last_digits-none n = refl

pub last_digits-more : (count n : ℕ) → count ≢ 0 → last_digits count n ≡ last_digits (count - 1) (n / 10) ++ (48 + n % 10) ∷ []
unfolding last_digits
last_digits-more zero n h = absurd (h refl)
last_digits-more (suc count) n h = let e : suc count - 1 ≡ count = omega arith in ap (λ k. last_digits k (n / 10) ++ (48 + n % 10) ∷ []) (sym e)

pub number_text-parts : (number : ℤ) (scale : ℕ) → number_text number scale ≡ (sign_text number ++ decimal (nat_abs number / 10 ^ scale)) ++ decimals_text (nat_abs number) scale
unfolding number_text
number_text-parts number scale = refl

pub ten_pow-positive : (k : ℕ) → 0 < 10 ^ k
ten_pow-positive zero = omega arith
ten_pow-positive (suc k) = omega (arith, pow-succ' 10 k, ten_pow-positive k)

-- the text in the parts that are printed one after another
pub number_text-printed : (number shown : ℤ) (scale magnitude unit : ℕ) → shown ≡ number → magnitude ≡ nat_abs shown → unit ≡ 10 ^ scale → (sign_text shown ++ decimal (magnitude / unit)) ++ decimals_text magnitude scale ≡ number_text number scale
number_text-printed number shown scale magnitude unit s m u = rw (m, u, s) (sym (number_text-parts number scale))
