-- Numbers that are read are below 10^18 in magnitude.
use Rattle.std.proofs.Common.{ℕ, zero, suc, ◌≡◌, ◌<◌, ◌≤◌, Bool, true, false, cond, List, refl, sym, subst, arith, Option, None, Some, Result, Ok, Err, inl, inr}
use Rattle.std.specs.Prelude.{⊤, ◌^◌, ◌⊎◌, ℤ, pos, neg_ℤ, nat_abs}
use Rattle.std.proofs.lemmas.Bool.{cases_lt}
use Rattle.pdq_value.specs.declared.numbers.NumberFault.{NumberFault}
use Rattle.pdq_value.specs.Numbers.{bad_place, is_negative, magnitude_of, number_read, signed_magnitude}
use Rattle.pdq_value.proofs.NumberSteps.{number_read-bad, number_read-fits, number_read-large}

-- a number that is read is so small
abbrev IsSmall : Result ℤ NumberFault → Type 0
IsSmall (Ok z) = nat_abs z < 10 ^ 18
IsSmall (Err e) = ⊤

pub nat_abs-neg : (n : ℕ) → nat_abs (neg_ℤ (pos n)) ≡ n
nat_abs-neg zero = refl
nat_abs-neg (suc n) = refl

signed : (negative : Bool) (n : ℕ) → n < 10 ^ 18 → nat_abs (cond negative (neg_ℤ (pos n)) (pos n)) < 10 ^ 18
signed true n small = omega (arith, small, nat_abs-neg n)
signed false n small = small

by_size : (text : List ℕ) (scale : ℕ) → bad_place scale text ≡ None → (magnitude_of scale text < 10 ^ 18) ⊎ (10 ^ 18 ≤ magnitude_of scale text) → IsSmall (number_read text scale)
unfolding signed_magnitude
by_size text scale good (inl small) = subst IsSmall (sym (number_read-fits text scale good small)) (signed (is_negative text) (magnitude_of scale text) small)
by_size text scale good (inr large) = subst IsSmall (sym (number_read-large text scale good large)) tt

by_place : (text : List ℕ) (scale : ℕ) (place : Option ℕ) → bad_place scale text ≡ place → IsSmall (number_read text scale)
by_place text scale (Some place) bad = subst IsSmall (sym (number_read-bad text scale place bad)) tt
by_place text scale None good = by_size text scale good (cases_lt (magnitude_of scale text) (10 ^ 18))

pub number_read-small : (text : List ℕ) (scale : ℕ) (z : ℤ) → number_read text scale ≡ Ok z → nat_abs z < 10 ^ 18
number_read-small text scale z reads = subst IsSmall reads (by_place text scale (bad_place scale text) refl)
