use Rattle.std.proofs.Common.{◌≡◌, map, take}
use Rattle.pdq_mean.specs.Loops.{lists_of}
use Rattle.pdq_mean.specs.Grouping.{row_of_group}
use Rattle.pdq_mean.proofs.groups.rows_of_groups.Given as goal

abbrev pub invariant-loop-group : goal.invariant-loop-group
invariant-loop-group l = lists_of l.rows.items ≡ map row_of_group (take l.group-index l.groups)
