use Rattle.std.proofs.Common.{◌≡◌, ◌≤◌, length, map}
use Rattle.pdq_base.specs.Lines.{lines_of}
use Rattle.pdq_value.specs.PlainTable.{line_text, rows_from}
use Rattle.pdq_value.proofs.RowReads.{after_rows}
use Rattle.pdq_value.proofs.plain.read_rows.Given as goal

abbrev pub invariant-loop-row_no : goal.invariant-loop-row_no
invariant-loop-row_no l = record {
  short : length l.unread ≤ 16777216;
  so_far : rows_from l.fn.columns 1 (map line_text (lines_of l.fn.bytes)) ≡ after_rows l.rows.items (rows_from l.fn.columns l.row_no (map line_text (lines_of l.unread)));
}
