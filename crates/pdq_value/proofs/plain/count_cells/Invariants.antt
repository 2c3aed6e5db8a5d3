use Rattle.std.proofs.Common.{◌≡◌, ◌+◌, ◌≤◌, length}
use Rattle.pdq_value.specs.PlainTable.{not_utf8_at}
use Rattle.pdq_value.specs.RowLines.{raw_cells}
use Rattle.pdq_value.proofs.plain.count_cells.Given as goal

abbrev pub invariant-loop-column : goal.invariant-loop-column
invariant-loop-column l = record {
  room : length l.unread + l.column ≤ 16777217;
  utf8 : not_utf8_at 1 (raw_cells l.fn.line) ≡ not_utf8_at l.column (raw_cells l.unread);
  cells : length (raw_cells l.fn.line) + 1 ≡ length (raw_cells l.unread) + l.column;
}
