use Rattle.std.proofs.Common.{refl}
use Rattle.pdq_model.specs.declared.events.Event.TheVariants.{CloseSession}
use Rattle.pdq_model.specs.declared.events.Reply.TheVariants as reply
use Rattle.pdq_model.specs.declared.events.Answer.TheVariants.{Entered}
use Rattle.pdq_gate.specs.Board.{state_of}
use Rattle.pdq_gate.proofs.Conserving.{conserves}
use Rattle.pdq_gate.proofs.JournalLaws.{history_next}
use Rattle.pdq_gate.proofs.manager.Manager.close_session.Goals as goal

pub invariant_of-self : goal.invariant_of-self
invariant_of-self c = record {
  sound = c.close_session.ensures.sound;
  settled = c.close_session.ensures.settled;
  history_kept = history_next c.self.inside.opening (state_of c.self.inside.board) (state_of c.close_session.new.self) c.self.inside.journal.items c.enter.new.journal.items c.args.session (CloseSession) (Entered reply.Closed) c.self.invariant.history_kept (rw (← c.self.view_is) at c.requires.may) refl c.close_session.ensures.state c.enter.ensures.history;
  journal_room = c.enter.ensures.capacity;
}

pub returns-clause-conserved : goal.returns-clause-conserved
returns-clause-conserved c = conserves c.self.inside.opening c.close_session.new.self c.enter.new.journal.items c.close_session.ensures.sound

pub returns-clause-legal : goal.returns-clause-legal
returns-clause-legal c = (invariant_of-self c).history_kept.legal

pub returns-clause-replayed : goal.returns-clause-replayed
returns-clause-replayed c = (invariant_of-self c).history_kept.replayed
