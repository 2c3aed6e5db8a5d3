use Rattle.std.proofs.Common.{◌≡◌, map, take}
use Rattle.pdq_value.specs.Tables.{shape_of}
use Rattle.pdq_schema.proofs.copying.copy_shapes.Given as goal

abbrev pub invariant-loop-shape : goal.invariant-loop-shape
invariant-loop-shape l = map shape_of l.copies.items ≡ map shape_of (take l.shape-index l.shapes)
