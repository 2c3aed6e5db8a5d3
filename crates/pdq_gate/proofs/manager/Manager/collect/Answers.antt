use Rattle.std.proofs.Common.{◌∙◌, ap}
use Rattle.pdq_model.specs.declared.events.Event.TheVariants.{Collect}
use Rattle.pdq_gate.specs.Board.{state_of}
use Rattle.pdq_gate.specs.Journal.{history_after}
use Rattle.pdq_gate.proofs.Conserving.{conserves}
use Rattle.pdq_gate.proofs.Workable.{workable, working_shares}
use Rattle.pdq_gate.proofs.JournalLaws.{history_next, own_numbers}
use Rattle.pdq_gate.proofs.manager.Manager.collect.Goals as goal

pub collect-collected-requires-clause-own : goal.collect-collected-requires-clause-own
collect-collected-requires-clause-own c = own_numbers c.self.inside.opening (state_of c.self.inside.board) c.self.inside.journal.items c.self.invariant.history_kept

pub invariant_of-self : goal.invariant_of-self
invariant_of-self c = record {
  sound = c.collect-collected.ensures.sound;
  settled = c.collect-collected.ensures.settled;
  history_kept = history_next c.self.inside.opening (state_of c.self.inside.board) (state_of c.collect-collected.new.self) c.self.inside.journal.items c.enter.new.journal.items c.session_of-session.result (Collect c.args.id) c.answer.result c.self.invariant.history_kept (rw c.session_of-session.ensures.value (rw (← c.self.view_is) at c.requires.may)) (c.answer.ensures.value ∙ c.collect-collected.ensures.answer.told) c.collect-collected.ensures.state c.enter.ensures.history;
  journal_room = c.enter.ensures.capacity;
}

pub returns-clause-conserved : goal.returns-clause-conserved
returns-clause-conserved c = conserves c.self.inside.opening c.collect-collected.new.self c.enter.new.journal.items c.collect-collected.ensures.sound

pub returns-clause-legal : goal.returns-clause-legal
returns-clause-legal c = (invariant_of-self c).history_kept.legal

pub returns-clause-replayed : goal.returns-clause-replayed
returns-clause-replayed c = (invariant_of-self c).history_kept.replayed

pub collect-collected-requires-clause-may : goal.collect-collected-requires-clause-may
collect-collected-requires-clause-may c = rw c.session_of-session.ensures.value (rw (← c.self.view_is) at c.requires.may)

pub returns-clause-answer : goal.returns-clause-answer
returns-clause-answer c = rw (← c.self.view_is, ← c.session_of-session.ensures.value) c.collect-collected.ensures.answer

pub returns-clause-state : goal.returns-clause-state
returns-clause-state c = rw (← c.self.view_is, ← c.session_of-session.ensures.value) c.collect-collected.ensures.state

pub returns-clause-admitted : goal.returns-clause-admitted
returns-clause-admitted c = rw (← c.self.view_is, ← c.session_of-session.ensures.value) c.collect-collected.ensures.told

pub returns-clause-history : goal.returns-clause-history
returns-clause-history c =
    rw (← c.self.view_is, ← c.session_of-session.ensures.value)
    (c.enter.ensures.history ∙ ap (λ a. history_after c.self.inside.journal.items c.session_of-session.result (Collect c.args.id) a) (c.answer.ensures.value ∙ c.collect-collected.ensures.answer.told))

pub returns-clause-shares : goal.returns-clause-shares
returns-clause-shares c =
    workable (state_of c.self.inside.board) (state_of c.collect-collected.new.self) c.session_of-session.result c.args.id c.collect-collected.new.self.entries c.collect-collected.result
    (working_shares c.self.inside.opening (state_of c.self.inside.board) c.self.inside.journal.items c.self.invariant.history_kept c.self.invariant.sound.model)
    c.collect-collected.ensures.answer c.collect-collected.ensures.granted
