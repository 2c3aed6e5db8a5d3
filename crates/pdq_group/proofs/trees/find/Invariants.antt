use Rattle.std.proofs.Common.{length}
use Rattle.pdq_group.proofs.Reaching.{ahead, Walked}
use Rattle.pdq_group.proofs.trees.find.Given as goal

abbrev pub invariant-loop-at : goal.invariant-loop-at
invariant-loop-at l = Walked (length l.key) l.region l.key l.at l.bits

abbrev pub decreases-loop-at : goal.decreases-loop-at
decreases-loop-at l = ahead (length l.region.rows) l.at
