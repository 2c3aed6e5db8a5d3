use Rattle.std.proofs.Common.{◌≡◌, ◌+◌, drop, None}
use Rattle.csv.specs.Records.{fields_of}
use Rattle.pdq_value.specs.PlainTable.{not_utf8_at}
use Rattle.pdq_table.specs.Loading.{values_of}
use Rattle.pdq_table.proofs.NotedReads.{FieldsSoFar}
use Rattle.pdq_table.proofs.noting.note_record.Given as goal

abbrev pub invariant-loop-place : goal.invariant-loop-place
invariant-loop-place l = record {
  utf8 : not_utf8_at (l.place + 1) (drop l.place (fields_of l.row)) ≡ None;
  so_far : FieldsSoFar (values_of l.fn.columns (record { table = l.table; row = l.row_no }) 1 (fields_of l.row))
      (values_of (drop l.place l.fn.columns) (record { table = l.table; row = l.row_no }) (l.place + 1) (drop l.place (fields_of l.row))) l.initial.notes l.notes l.words.items;
}
