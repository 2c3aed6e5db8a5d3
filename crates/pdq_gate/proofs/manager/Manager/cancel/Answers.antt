use Rattle.std.proofs.Common.{◌∙◌}
use Rattle.pdq_model.specs.declared.events.Event.TheVariants.{Cancel}
use Rattle.pdq_gate.specs.Board.{state_of}
use Rattle.pdq_gate.proofs.Conserving.{conserves}
use Rattle.pdq_gate.proofs.JournalLaws.{history_next}
use Rattle.pdq_gate.proofs.manager.Manager.cancel.Goals as goal

pub invariant_of-self : goal.invariant_of-self
invariant_of-self c = record {
  sound = c.cancel-outcome.ensures.sound;
  settled = c.cancel-outcome.ensures.settled;
  history_kept = history_next c.self.inside.opening (state_of c.self.inside.board) (state_of c.cancel-outcome.new.self) c.self.inside.journal.items c.enter.new.journal.items c.args.by (Cancel c.args.id) c.cancel_answer-answer.result c.self.invariant.history_kept (rw (← c.self.view_is) at c.requires.known) (c.cancel_answer-answer.ensures.value ∙ c.cancel-outcome.ensures.answer) c.cancel-outcome.ensures.state c.enter.ensures.history;
  journal_room = c.enter.ensures.capacity;
}

pub returns-clause-conserved : goal.returns-clause-conserved
returns-clause-conserved c = conserves c.self.inside.opening c.cancel-outcome.new.self c.enter.new.journal.items c.cancel-outcome.ensures.sound

pub returns-clause-legal : goal.returns-clause-legal
returns-clause-legal c = (invariant_of-self c).history_kept.legal

pub returns-clause-replayed : goal.returns-clause-replayed
returns-clause-replayed c = (invariant_of-self c).history_kept.replayed
