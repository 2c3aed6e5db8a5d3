use Rattle.std.proofs.Common.{◌≡◌, ◌+◌, ◌*◌, ◌≤◌, length}
use Rattle.pdq_schema.specs.Schemas.{cut_of}
use Rattle.pdq_table.specs.Loading.{rows_from}
use Rattle.pdq_table.specs.Records.{IsReading, records_left}
use Rattle.pdq_table.proofs.TableReads.{RowsSoFar}
use Rattle.pdq_table.proofs.tables.read_rows.Given as goal

abbrev pub invariant-loop-row_no : goal.invariant-loop-row_no
invariant-loop-row_no l = record {
  reading : IsReading l.reader;
  shape : l.stored.shape ≡ l.initial.stored.shape;
  counted : length l.stored.spots.items + 1 ≡ l.row_no;
  few : length l.stored.spots.items ≤ 2000000;
  cells : l.cell_count ≡ l.cells + length l.stored.spots.items * length l.columns;
  room : l.cell_count ≤ 32000000;
  so_far : RowsSoFar (rows_from l.fn.columns l.table 1 l.cells (records_left l.fn.reader)) l.fn.columns (cut_of l.cut) l.table l.row_no l.cell_count (records_left l.reader) l.initial.notes l.notes l.stored;
}
