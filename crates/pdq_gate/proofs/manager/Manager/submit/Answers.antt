use Rattle.pdq_model.specs.declared.events.Event.TheVariants.{Submit}
use Rattle.pdq_gate.specs.Board.{state_of}
use Rattle.pdq_gate.proofs.Admitting.{admissions_after}
use Rattle.pdq_gate.proofs.Conserving.{conserves}
use Rattle.pdq_gate.proofs.JournalLaws.{history_next}
use Rattle.pdq_gate.proofs.Settling.{configuration_submitted}
use Rattle.pdq_gate.proofs.manager.Manager.submit.Goals as goal

pub invariant_of-self : goal.invariant_of-self
invariant_of-self c = record {
  sound = c.submit-answer.ensures.sound;
  settled = c.submit-answer.ensures.settled;
  history_kept = history_next c.self.inside.opening (state_of c.self.inside.board) (state_of c.submit-answer.new.self) c.self.inside.journal.items c.enter.new.journal.items c.args.session (Submit c.args.priority c.args.frags) c.submit-answer.result c.self.invariant.history_kept (rw (← c.self.view_is) at c.requires.may) c.submit-answer.ensures.answer c.submit-answer.ensures.state c.enter.ensures.history;
  journal_room = c.enter.ensures.capacity;
}

pub returns-clause-conserved : goal.returns-clause-conserved
returns-clause-conserved c = conserves c.self.inside.opening c.submit-answer.new.self c.enter.new.journal.items c.submit-answer.ensures.sound

pub returns-clause-legal : goal.returns-clause-legal
returns-clause-legal c = (invariant_of-self c).history_kept.legal

pub returns-clause-replayed : goal.returns-clause-replayed
returns-clause-replayed c = (invariant_of-self c).history_kept.replayed

pub returns-clause-admissions : goal.returns-clause-admissions
returns-clause-admissions c = rw (c.submit-answer.ensures.state, ← c.self.view_is) (admissions_after (state_of c.self.inside.board) c.args.session (Submit c.args.priority c.args.frags) c.self.invariant.settled)

pub returns-clause-configuration : goal.returns-clause-configuration
returns-clause-configuration c = rw (c.submit-answer.ensures.state, ← c.self.view_is) (configuration_submitted (state_of c.self.inside.board) c.args.session c.args.priority c.args.frags c.self.invariant.settled)
