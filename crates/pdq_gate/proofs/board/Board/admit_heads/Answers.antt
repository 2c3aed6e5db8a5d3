use Rattle.pdq_gate.proofs.Settling.{admitting_more}
use Rattle.pdq_gate.proofs.board.Board.admit_heads.Goals as goal

pub heads-preserved : goal.heads-preserved
heads-preserved c = admitting_more _ c.heads.self c.admit.new.self _ _ c.heads.invariant c.admit.ensures.sound c.in-Some.ensures.there c.in-Some.ensures.head c.admit.ensures.admitted c.admit.ensures.told
