use Rattle.std.proofs.Common.{◌≡◌, ◌^◌, min, take}
use Rattle.pdq_value.specs.Numbers.{number_after}
use Rattle.pdq_value.proofs.numbers.with_digits.Given as goal

abbrev pub invariant-loop-digit : goal.invariant-loop-digit
invariant-loop-digit l = l.grown ≡ min (number_after l.number (take l.digit-index l.digits)) (10 ^ 18)
