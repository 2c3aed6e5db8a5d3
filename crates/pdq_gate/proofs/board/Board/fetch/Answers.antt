use Rattle.std.proofs.Common.{arith}
use Rattle.std.proofs.lemmas.Grind.{common_steps}
use Rattle.pdq_gate.specs.Board.{state_of}
use Rattle.pdq_gate.proofs.Quiet.{settled_fetched}
use Rattle.pdq_gate.proofs.board.Board.fetch.Goals as goal

pub returns-clause-state : goal.returns-clause-state
returns-clause-state c = grind (arith, common_steps)

pub returns-clause-settled : goal.returns-clause-settled
returns-clause-settled c = rw (returns-clause-state c) (settled_fetched (state_of c.args.self.now) c.args.place c.requires.settled)
