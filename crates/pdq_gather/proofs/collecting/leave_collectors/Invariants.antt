use Rattle.std.proofs.Common.{◌≡◌, ◌++◌, map}
use Rattle.pdq_gather.proofs.collecting.leave_collectors.Given as goal

abbrev pub invariant-leaving : goal.invariant-leaving
invariant-leaving l = l.kept.items ≡ l.fn.kept.items ++ map (λ desk. desk.owner.out) l.yielded
