use Rattle.std.proofs.Common.{◌≡◌}
use Rattle.pdq_value.specs.Numbers.{digits_end}
use Rattle.pdq_value.proofs.numbers.end_of_digits.Given as goal

abbrev pub invariant-loop-i : goal.invariant-loop-i
invariant-loop-i l = digits_end l.text l.start ≡ digits_end l.text l.i
