use Rattle.pdq_gate.specs.Board.{state_of}
use Rattle.pdq_gate.proofs.Quiet.{settled_opened, enters_session}
use Rattle.pdq_gate.proofs.board.Board.enter_session.Goals as goal

pub returns-clause-settled : goal.returns-clause-settled
returns-clause-settled c = settled_opened (state_of c.args.self.now) _ _ _ c.requires.settled

pub returns-clause-state : goal.returns-clause-state
returns-clause-state c = enters_session (state_of c.args.self.now) _ c.args.admin c.requires.settled c.push_reserved.ensures.items
