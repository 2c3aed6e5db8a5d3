use Rattle.std.proofs.Common.{◌≡◌, fold, flat_map}
use Rattle.pdq_dict.specs.Dictionary.{texts_of_row}
use Rattle.pdq_dict.specs.Texts.{noted}
use Rattle.pdq_schema.specs.Schemas.{cut_of}
use Rattle.pdq_table.specs.Layout.{IsNotedTable}
use Rattle.pdq_table.proofs.storing.take_table.Given as goal

abbrev pub invariant-loop-row : goal.invariant-loop-row
invariant-loop-row l = record {
  shape : l.stored.shape ≡ l.fn.table.shape;
  table : IsNotedTable l.notes (cut_of l.cut) l.stored l.yielded;
  texts : l.notes ≡ fold noted l.initial.notes (flat_map texts_of_row l.yielded);
}
