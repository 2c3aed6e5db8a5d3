use Rattle.std.proofs.Common.{◌≡◌, ◌++◌, flat_map, take}
use Rattle.pdq_stat.specs.StatusText.{active_row}
use Rattle.pdq_stat.proofs.onstat.add_active_rows.Given as goal

abbrev pub invariant-loop-row : goal.invariant-loop-row
invariant-loop-row l = l.to.items ≡ l.initial.to.items ++ flat_map (active_row l.quantum) (take l.row-index l.rows)
