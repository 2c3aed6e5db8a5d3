use Rattle.std.proofs.Common.{◌≡◌, map, take}
use Rattle.pdq_value.specs.Tables.{table_of}
use Rattle.pdq_table.specs.Layout.{table_stored}
use Rattle.pdq_table.proofs.storing.decode_tables.Given as goal

abbrev pub invariant-loop-table : goal.invariant-loop-table
invariant-loop-table l = map table_of l.copies.items ≡ map (table_stored l.dict) (take l.table-index l.tables)
