use Rattle.pdq_value.proofs.RowLineSteps.{CutsAt}
use Rattle.pdq_value.proofs.row_lines.first_cell_end.Given as goal

abbrev pub invariant-loop-i : goal.invariant-loop-i
invariant-loop-i l = CutsAt l.line l.i l.taken
