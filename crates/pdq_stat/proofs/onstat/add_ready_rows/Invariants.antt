use Rattle.std.proofs.Common.{◌≡◌, ◌++◌, flat_map, take}
use Rattle.pdq_stat.specs.StatusText.{ready_row}
use Rattle.pdq_stat.proofs.onstat.add_ready_rows.Given as goal

abbrev pub invariant-loop-row : goal.invariant-loop-row
invariant-loop-row l = l.to.items ≡ l.initial.to.items ++ flat_map ready_row (take l.row-index l.rows)
