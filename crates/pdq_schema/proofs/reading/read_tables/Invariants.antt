use Rattle.std.proofs.Common.{◌≡◌, drop, length}
use Rattle.pdq_schema.specs.Schemas.{schema_with}
use Rattle.pdq_schema.specs.SchemaFile.{no_tables, tables_after}
use Rattle.pdq_schema.specs.SchemaTree.{views_of}
use Rattle.pdq_schema.proofs.reading.read_tables.Given as goal

abbrev pub invariant-loop-table : goal.invariant-loop-table
invariant-loop-table l = record {
  place : length l.shapes.items ≡ l.table-index;
  so_far : tables_after no_tables (views_of l.tables) ≡ tables_after (schema_with l.shapes.items l.files.items l.cuts.items) (views_of (drop l.table-index l.tables));
}
