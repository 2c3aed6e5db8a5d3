use Rattle.std.proofs.Common.{◌≡◌}
use Rattle.pdq_edge.proofs.scoped_threads.join_ended.Given as goal

-- the threads are as they were
abbrev pub invariant-numbers : goal.invariant-numbers
invariant-numbers g l = l.threads.items ≡ l.initial.threads.items
