use Rattle.std.proofs.Common.{length}
use Rattle.pdq_gate.proofs.Settling.{AreAdmitting}
use Rattle.pdq_gate.proofs.board.Board.admit_heads.Given as goal

abbrev pub invariant-heads : goal.invariant-heads
invariant-heads l = AreAdmitting l.initial.self l.self

abbrev pub decreases-heads : goal.decreases-heads
decreases-heads l = length l.self.waiting
