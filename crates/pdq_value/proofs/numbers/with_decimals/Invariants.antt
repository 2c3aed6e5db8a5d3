use Rattle.std.proofs.Common.{◌≡◌, ◌^◌, ◌++◌, min, take, replicate}
use Rattle.pdq_value.specs.Numbers.{number_after}
use Rattle.pdq_value.proofs.numbers.with_decimals.Given as goal

abbrev pub invariant-loop-i : goal.invariant-loop-i
invariant-loop-i l = l.grown ≡ min (number_after l.number (take l.i (l.decimals ++ replicate l.scale 48))) (10 ^ 18)
