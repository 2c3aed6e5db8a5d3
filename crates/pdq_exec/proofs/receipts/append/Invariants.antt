use Rattle.std.proofs.Common.{◌≡◌, ◌++◌, map}
use Rattle.pdq_exec.proofs.receipts.append.Given as goal

abbrev pub invariant-appending : goal.invariant-appending
invariant-appending l = map (λ r. r.rows) l.scanned.items ≡ map (λ r. r.rows) l.fn.scanned.items ++ map (λ r. r.rows) l.yielded
