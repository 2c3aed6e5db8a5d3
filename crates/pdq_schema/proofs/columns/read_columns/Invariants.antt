use Rattle.std.proofs.Common.{◌≡◌, [], length, drop}
use Rattle.pdq_schema.specs.SchemaFile.{columns_after}
use Rattle.pdq_schema.specs.SchemaTree.{views_of}
use Rattle.pdq_schema.proofs.columns.read_columns.Given as goal

abbrev pub invariant-loop-table : goal.invariant-loop-table
invariant-loop-table l = record {
  place : length l.columns.items ≡ l.table-index;
  so_far : columns_after l.table_no [] (views_of l.tables) ≡ columns_after l.table_no l.columns.items (views_of (drop l.table-index l.tables));
}
