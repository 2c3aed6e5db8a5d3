use Rattle.std.proofs.Common.{◌≡◌, ◌+◌, ◌≤◌, length, drop, option_map, IfSome, None}
use Rattle.pdq_value.specs.PlainTable.{cells_of, not_utf8_at, values_of}
use Rattle.pdq_value.specs.RowLines.{raw_cells}
use Rattle.pdq_value.proofs.RowReads.{after_values}
use Rattle.pdq_value.proofs.plain.read_values.Given as goal

abbrev pub invariant-loop-column : goal.invariant-loop-column
invariant-loop-column l = record {
  place : l.column_no ≡ l.column-index;
  short : IfSome l.unread (λ text. length text.now ≤ 16777216);
  utf8 : not_utf8_at (l.column-index + 1) (cells_of (option_map (λ r. r.now) l.unread)) ≡ None;
  so_far : values_of l.fn.columns l.fn.row_no 1 (raw_cells l.fn.line) ≡ after_values l.values.items (values_of (drop l.column-index l.fn.columns) l.fn.row_no (l.column-index + 1) (cells_of (option_map (λ r. r.now) l.unread)));
}
