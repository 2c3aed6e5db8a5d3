use Rattle.std.proofs.Common.{◌≡◌, ◌+◌, ◌-◌, ◌≤◌, take, length, map}
use Rattle.pdq_spill.specs.Rows.{with_more}
use Rattle.pdq_group.specs.Folds.{put_row}
use Rattle.pdq_group.specs.Trees.{words_in}
use Rattle.pdq_group.proofs.table.put_groups.Given as goal

abbrev pub invariant-loop-slot : goal.invariant-loop-slot
invariant-loop-slot g l = record {
  within : l.number ≤ length l.region.rows;
  width : g.O.RowOut.width l.out ≡ g.O.RowOut.width l.initial.out;
  rows : g.O.RowOut.rows l.out ≡ with_more (g.O.RowOut.rows l.initial.out) (map (put_row l.keys l.folds) (take l.number (words_in l.region)));
  fault : g.O.RowOut.fault l.out ≡ g.O.RowOut.fault l.initial.out;
  keeps : g.O.RowOut.keeps l.initial.out l.out;
}

abbrev pub decreases-loop-slot : goal.decreases-loop-slot
decreases-loop-slot g l = length l.region.rows - l.number
