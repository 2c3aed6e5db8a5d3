use Rattle.std.proofs.Common.{◌∙◌}
use Rattle.pdq_gate.specs.Board.{state_of}
use Rattle.pdq_gate.proofs.Shown.{shown_in_order}
use Rattle.pdq_gate.proofs.board.Board.show_waiting.Goals as goal

pub returns-clause-rows : goal.returns-clause-rows
returns-clause-rows c = c.show.ensures.rows ∙ shown_in_order (state_of c.args.self.now) c.head_gate.result c.gate_behind.result c.show.ensures.rising c.head_gate.ensures.gate c.gate_behind.ensures.value
