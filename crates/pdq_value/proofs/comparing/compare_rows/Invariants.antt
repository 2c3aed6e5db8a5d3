use Rattle.std.proofs.Common.{◌≡◌, drop}
use Rattle.pdq_value.specs.Cells.{row_cmp}
use Rattle.pdq_value.proofs.comparing.compare_rows.Given as goal

abbrev pub invariant-loop-i : goal.invariant-loop-i
invariant-loop-i l = row_cmp l.a l.b ≡ row_cmp (drop l.i l.a) (drop l.i l.b)
