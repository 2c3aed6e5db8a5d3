use Rattle.std.proofs.Common.{◌≡◌, ◌+◌, take}
use Rattle.std.specs.List.{sum_by}
use Rattle.pdq_gather.proofs.limit.hold_too_many.Given as goal

abbrev pub invariant-loop-out : goal.invariant-loop-out
invariant-loop-out g l = l.room + sum_by g.O.Counted.count (take l.out-index l.outs) ≡ 20000000
