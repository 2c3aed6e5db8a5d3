use Rattle.std.proofs.Common.{◌≡◌, ◌+◌, ◌-◌, drop}
use Rattle.pdq_value.specs.Numbers.{good_decimals}
use Rattle.pdq_value.proofs.numbers.good_decimal_count.Given as goal

abbrev pub invariant-loop-i : goal.invariant-loop-i
invariant-loop-i l = good_decimals l.scale l.decimals ≡ l.i + good_decimals (l.scale - l.i) (drop l.i l.decimals)
