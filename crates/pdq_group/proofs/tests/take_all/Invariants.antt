use Rattle.std.proofs.Common.{◌≡◌, ◌+◌, ◌≤◌, length}
use Rattle.pdq_group.proofs.tests.take_all.Given as goal

abbrev pub invariant-loop-row : goal.invariant-loop-row
invariant-loop-row g l = record {
  frames : l.grouper.table.frames ≡ l.initial.grouper.table.frames;
  keys : l.grouper.table.keys ≡ l.initial.grouper.table.keys;
  folds : l.grouper.table.folds ≡ l.initial.grouper.table.folds;
  rows : l.grouper.rows ≡ l.initial.grouper.rows + l.row-index;
}
