use Rattle.std.proofs.Common.{◌≡◌, drop}
use Rattle.pdq_schema.specs.SchemaFile.{ranges_of}
use Rattle.pdq_schema.specs.SchemaTree.{views_of}
use Rattle.pdq_schema.proofs.TreeLaws.{after}
use Rattle.pdq_schema.proofs.ranges.read_ranges.Given as goal

abbrev pub invariant-loop-table : goal.invariant-loop-table
invariant-loop-table l = ranges_of l.kind (views_of l.tables) ≡ after l.ranges.items (ranges_of l.kind (views_of (drop l.table-index l.tables)))
