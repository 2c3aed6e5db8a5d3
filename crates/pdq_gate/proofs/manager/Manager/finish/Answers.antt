use Rattle.std.proofs.Common.{refl, ◌≡◌, ◌∙◌, ap, subst}
use Rattle.pdq_model.specs.declared.events.Event.TheVariants.{Finish}
use Rattle.pdq_model.specs.declared.events.Reply.TheVariants as reply
use Rattle.pdq_model.specs.declared.events.Answer.TheVariants.{Entered}
use Rattle.pdq_model.specs.State.{State}
use Rattle.pdq_model.specs.Settling.{take_pending, Admissions}
use Rattle.pdq_model.specs.Step.{next}
use Rattle.pdq_gate.specs.ManagerView.{ManagerView}
use Rattle.pdq_gate.specs.Board.{state_of}
use Rattle.pdq_gate.specs.Journal.{history_after}
use Rattle.pdq_gate.specs.Queries.{holder_of, unsettled}
use Rattle.pdq_gate.proofs.Admitting.{admissions_after}
use Rattle.pdq_gate.proofs.Conserving.{conserves}
use Rattle.pdq_gate.proofs.Granting.{finish_occurs}
use Rattle.pdq_gate.proofs.JournalLaws.{history_next}
use Rattle.pdq_gate.proofs.manager.Manager.finish.Goals as goal

pub invariant_of-self : goal.invariant_of-self
invariant_of-self c = record {
  sound = c.finish.ensures.sound;
  settled = c.finish.ensures.settled;
  history_kept = history_next c.self.inside.opening (state_of c.self.inside.board) (state_of c.finish.new.self) c.self.inside.journal.items c.enter.new.journal.items (holder_of (state_of c.self.inside.board) c.args.id) (Finish c.args.id c.args.how) (Entered reply.Finished) c.self.invariant.history_kept (finish_occurs (state_of c.self.inside.board) c.args.id c.args.region.frames (rw (← c.self.view_is) at c.requires.may)) refl c.finish.ensures.state (c.enter.ensures.history ∙ ap (λ who. history_after c.self.inside.journal.items who (Finish c.args.id c.args.how) (Entered reply.Finished)) c.holder_of-session.ensures.value);
  journal_room = c.enter.ensures.capacity;
}

pub returns-clause-conserved : goal.returns-clause-conserved
returns-clause-conserved c = conserves c.self.inside.opening c.finish.new.self c.enter.new.journal.items c.finish.ensures.sound

pub returns-clause-legal : goal.returns-clause-legal
returns-clause-legal c = (invariant_of-self c).history_kept.legal

pub returns-clause-replayed : goal.returns-clause-replayed
returns-clause-replayed c = (invariant_of-self c).history_kept.replayed

pub returns-clause-admissions : goal.returns-clause-admissions
returns-clause-admissions c =
    let same : state_of c.self.inside.board ≡ c.args.self.now.state = ap (λ (v : ManagerView). v.state) c.self.view_is in
    rw c.finish.ensures.state
    (subst (λ (s : State). Admissions (take_pending (unsettled s (holder_of s c.args.id) (Finish c.args.id c.args.how))) (next (state_of c.self.inside.board) (holder_of (state_of c.self.inside.board) c.args.id) (Finish c.args.id c.args.how))) same
    (admissions_after (state_of c.self.inside.board) (holder_of (state_of c.self.inside.board) c.args.id) (Finish c.args.id c.args.how) c.self.invariant.settled))
