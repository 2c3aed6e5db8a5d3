use Rattle.pdq_model.proofs.Histories.{rest_from_settled}
use Rattle.pdq_gate.specs.Board.{state_of}
use Rattle.pdq_gate.proofs.Conserving.{conserves}
use Rattle.pdq_gate.proofs.manager.Manager.certify.Goals as goal

pub returns-clause-conserved : goal.returns-clause-conserved
returns-clause-conserved c = rw (← c.self.view_is) (conserves c.self.inside.opening c.self.inside.board c.self.inside.journal.items c.self.invariant.sound)

pub returns-clause-rests : goal.returns-clause-rests
returns-clause-rests c = rw (← c.self.view_is) (rest_from_settled (state_of c.self.inside.board) c.self.invariant.settled)
