use Rattle.std.proofs.Common.{◌∙◌, ap}
use Rattle.pdq_model.specs.declared.events.Event.TheVariants.{Onmode}
use Rattle.pdq_gate.specs.Board.{state_of}
use Rattle.pdq_gate.specs.Changes.{setting_of, pool_size}
use Rattle.pdq_gate.specs.Journal.{history_after}
use Rattle.pdq_gate.proofs.Conserving.{conserves}
use Rattle.pdq_gate.proofs.JournalLaws.{history_changed}
use Rattle.pdq_gate.proofs.manager.Manager.onmode.Goals as goal

pub invariant_of-self : goal.invariant_of-self
invariant_of-self c = record {
  sound = c.onmode-outcome.ensures.sound;
  settled = c.onmode-outcome.ensures.settled;
  history_kept = history_changed c.self.inside.opening (state_of c.self.inside.board) (state_of c.onmode-outcome.new.self) c.self.inside.journal.items c.enter.new.journal.items c.args.by (setting_of c.args.change) (pool_size c.args.change) c.change_answer-answer.result c.self.invariant.history_kept (rw (← c.self.view_is) at c.requires.known) (c.change_answer-answer.ensures.value ∙ c.onmode-outcome.ensures.answer) c.onmode-outcome.ensures.state (c.enter.ensures.history ∙ ap (λ x. history_after c.self.inside.journal.items c.args.by (Onmode x) c.change_answer-answer.result) c.setting_of-setting.ensures.value);
  journal_room = c.enter.ensures.capacity;
}

pub returns-clause-conserved : goal.returns-clause-conserved
returns-clause-conserved c = conserves c.self.inside.opening c.onmode-outcome.new.self c.enter.new.journal.items c.onmode-outcome.ensures.sound

pub returns-clause-legal : goal.returns-clause-legal
returns-clause-legal c = (invariant_of-self c).history_kept.legal

pub returns-clause-replayed : goal.returns-clause-replayed
returns-clause-replayed c = (invariant_of-self c).history_kept.replayed
