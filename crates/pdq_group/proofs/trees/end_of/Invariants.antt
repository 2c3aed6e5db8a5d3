use Rattle.std.proofs.Common.{◌<◌, ◌-◌, length}
use Rattle.pdq_group.proofs.Reaching.{Passed}
use Rattle.pdq_group.proofs.trees.end_of.Given as goal

abbrev pub invariant-down : goal.invariant-down
invariant-down l = record {
  stands : l.at < length l.region.rows;
  passed : Passed l.region.children l.fn.first l.fn.bits l.at l.left;
}

abbrev pub decreases-down : goal.decreases-down
decreases-down l = length l.region.rows - l.at
