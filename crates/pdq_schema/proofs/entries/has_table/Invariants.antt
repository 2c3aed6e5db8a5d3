use Rattle.std.proofs.Common.{◌≡◌, drop, map}
use Rattle.pdq_value.specs.Tables.{shape_of}
use Rattle.pdq_schema.specs.SchemaFile.{has_table}
use Rattle.pdq_schema.proofs.entries.has_table.Given as goal

abbrev pub invariant-loop-shape : goal.invariant-loop-shape
invariant-loop-shape l = has_table (map shape_of l.shapes) l.name ≡ has_table (map shape_of (drop l.shape-index l.shapes)) l.name
