use Rattle.std.proofs.Common.{◌≡◌, map, take}
use Rattle.pdq_table.specs.Storing.{rows_of}
use Rattle.pdq_answer.proofs.planning.sizes_of.Given as goal

abbrev pub invariant-loop-table : goal.invariant-loop-table
invariant-loop-table l = l.sizes.items ≡ map (rows_of l.stored) (take l.table-index l.tables)
