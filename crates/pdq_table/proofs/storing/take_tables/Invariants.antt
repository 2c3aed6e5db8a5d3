use Rattle.std.proofs.Common.{◌≡◌, [], fold, map}
use Rattle.pdq_dict.specs.Dictionary.{texts_of}
use Rattle.pdq_dict.specs.Texts.{noted}
use Rattle.pdq_value.specs.Tables.{table_of}
use Rattle.pdq_table.specs.Layout.{AreNotedTables}
use Rattle.pdq_table.proofs.storing.take_tables.Given as goal

abbrev pub invariant-loop-table : goal.invariant-loop-table
invariant-loop-table l = record {
  each : AreNotedTables l.notes l.schema.cuts l.stored.items (map table_of l.yielded);
  texts : l.notes ≡ fold noted [] (texts_of (map table_of l.yielded));
}
