use Rattle.std.proofs.Common.{subst, sym, arith}
use Rattle.pdq_value.proofs.RowLineSteps.{CutsAt, CutsAt-taken, CutsAt-plain, CutsAt-bar, CutsAt-end}
use Rattle.pdq_value.proofs.row_lines.first_cell_end.Goals as goal
use Rattle.pdq_value.proofs.row_lines.first_cell_end.Goals.{then-taken, else-taken+else-byte-eq124}

pub returns-then-byte-eq124-clause-more : goal.returns-then-byte-eq124-clause-more
returns-then-byte-eq124-clause-more c = λ p. CutsAt-bar c.args.line.now c.loop-i.i (subst (CutsAt c.args.line.now c.loop-i.i) c.if-taken.false c.loop-i.invariant) p c.if-byte-eq124.true

pub loop-i-preserved : goal.loop-i-preserved
loop-i-preserved c =
    elim c.if-taken.branch [
      | then-taken w ↦ subst (CutsAt c.args.line.now _) (sym w.taken-is) (CutsAt-taken c.args.line.now c.loop-i.i (subst (CutsAt c.args.line.now c.loop-i.i) w.if-taken.true c.loop-i.invariant) (omega arith))
      | else-taken+else-byte-eq124 w ↦ subst (CutsAt c.args.line.now _) (sym w.taken-is) (CutsAt-plain c.args.line.now c.loop-i.i (subst (CutsAt c.args.line.now c.loop-i.i) w.if-taken.false c.loop-i.invariant) (omega arith) w.if-byte-eq124.false)
    ]

pub returns-clause-last : goal.returns-clause-last
returns-clause-last c = λ _. CutsAt-end c.args.line.now c.loop-i.i c.loop-i.taken c.loop-i.invariant (omega arith)
