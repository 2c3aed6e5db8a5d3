use Rattle.std.proofs.Common.{take}
use Rattle.pdq_value.specs.Tables.{IsRowOf}
use Rattle.pdq_table.proofs.storing_tests.row.Given as goal

abbrev pub invariant-loop-column : goal.invariant-loop-column
invariant-loop-column l = IsRowOf (take l.column-index l.columns) l.values.items
