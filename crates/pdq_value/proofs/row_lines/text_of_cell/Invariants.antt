use Rattle.pdq_value.proofs.RowLineSteps.{SaysAt}
use Rattle.pdq_value.proofs.row_lines.text_of_cell.Given as goal

abbrev pub invariant-loop-byte : goal.invariant-loop-byte
invariant-loop-byte l = SaysAt l.cell l.byte-index l.taken l.text.items
