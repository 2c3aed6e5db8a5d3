use Rattle.pdq_model.specs.declared.events.Event.TheVariants.{OpenSession}
use Rattle.pdq_model.specs.State.{next_session}
use Rattle.pdq_gate.specs.Board.{state_of}
use Rattle.std.proofs.Common.{refl, ◌∙◌, ap}
use Rattle.pdq_gate.specs.Journal.{history_after}
use Rattle.pdq_gate.proofs.Conserving.{conserves}
use Rattle.pdq_gate.proofs.JournalLaws.{history_next}
use Rattle.pdq_gate.proofs.manager.Manager.open_session.Goals as goal

pub invariant_of-self : goal.invariant_of-self
invariant_of-self c = record {
  sound = c.open_session-answer.ensures.sound;
  settled = c.open_session-answer.ensures.settled;
  history_kept = history_next c.self.inside.opening (state_of c.self.inside.board) (state_of c.open_session-answer.new.self) c.self.inside.journal.items c.enter.new.journal.items (next_session (state_of c.self.inside.board)) (OpenSession c.args.admin) c.open_session-answer.result c.self.invariant.history_kept refl c.open_session-answer.ensures.answer c.open_session-answer.ensures.state (c.enter.ensures.history ∙ ap (λ who. history_after c.self.inside.journal.items who (OpenSession c.args.admin) c.open_session-answer.result) c.next_session-session.ensures.value);
  journal_room = c.enter.ensures.capacity;
}

pub returns-clause-conserved : goal.returns-clause-conserved
returns-clause-conserved c = conserves c.self.inside.opening c.open_session-answer.new.self c.enter.new.journal.items c.open_session-answer.ensures.sound

pub returns-clause-legal : goal.returns-clause-legal
returns-clause-legal c = (invariant_of-self c).history_kept.legal

pub returns-clause-replayed : goal.returns-clause-replayed
returns-clause-replayed c = (invariant_of-self c).history_kept.replayed
