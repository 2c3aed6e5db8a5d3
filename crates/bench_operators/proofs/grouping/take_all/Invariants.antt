use Rattle.std.proofs.Common.{◌≡◌}
use Rattle.bench_operators.proofs.grouping.take_all.Given as goal

abbrev pub invariant-loop-i : goal.invariant-loop-i
invariant-loop-i l = record {
  frames : l.grouper.table.frames ≡ l.initial.grouper.table.frames;
  keys : l.grouper.table.keys ≡ l.initial.grouper.table.keys;
  folds : l.grouper.table.folds ≡ l.initial.grouper.table.folds;
  rows : l.grouper.rows ≡ l.i;
}
