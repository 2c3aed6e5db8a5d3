use Rattle.std.proofs.Common.{sym}
use Rattle.pdq_value.proofs.RowReads.{not_utf8}
use Rattle.pdq_value.proofs.plain.count_cells.Goals as goal

pub returns-then-not-is_utf8-clause-stopped : goal.returns-then-not-is_utf8-clause-stopped
returns-then-not-is_utf8-clause-stopped c = not_utf8 _ _ _ _ _ c.loop-column.invariant.utf8 c.first_cell.ensures.cut (sym c.if-not-is_utf8.ensures.value)
