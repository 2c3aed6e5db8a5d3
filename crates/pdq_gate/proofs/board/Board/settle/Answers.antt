use Rattle.std.proofs.Common.{◌∙◌, ap}
use Rattle.pdq_model.specs.Settling.{admit_all, settle}
use Rattle.pdq_model.proofs.Heads.{settled_settle}
use Rattle.pdq_gate.specs.Board.{state_of}
use Rattle.pdq_gate.proofs.Settling.{keeps_settled, rest_settled}
use Rattle.pdq_gate.proofs.board.Board.settle.Goals as goal

pub returns-clause-settled : goal.returns-clause-settled
unfolding settle
returns-clause-settled c = c.admit_heads.ensures.admitted ∙ ap admit_all c.take_pending.ensures.taken

pub returns-clause-stops : goal.returns-clause-stops
returns-clause-stops c = rw (returns-clause-settled c) (settled_settle (state_of c.args.self.now) c.requires.sound.model)

pub returns-clause-rest : goal.returns-clause-rest
returns-clause-rest c = rw (returns-clause-settled c) (rest_settled (state_of c.args.self.now))

pub returns-clause-active : goal.returns-clause-active
returns-clause-active c = rw (returns-clause-settled c) (keeps_settled (state_of c.args.self.now))
