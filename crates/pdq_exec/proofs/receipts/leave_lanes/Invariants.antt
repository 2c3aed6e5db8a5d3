use Rattle.std.proofs.Common.{◌≡◌, ◌++◌, map}
use Rattle.pdq_exec.proofs.receipts.leave_lanes.Given as goal

abbrev pub invariant-leaving : goal.invariant-leaving
invariant-leaving g l = map (λ r. r.rows) l.scanned.items ≡ map (λ r. r.rows) l.fn.scanned.items ++ map (λ lane. lane.scanned) l.yielded
