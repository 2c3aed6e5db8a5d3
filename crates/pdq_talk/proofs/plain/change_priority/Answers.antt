use Rattle.std.proofs.Common.{sym, subst, refl}
use Rattle.pdq_model.specs.declared.events.Setting.TheVariants as setting
use Rattle.pdq_office.specs.Passes.{lock_in}
use Rattle.pdq_talk.specs.declared.replied.Replied.{Replied}
use Rattle.pdq_talk.specs.Lines as asked
use Rattle.pdq_talk.specs.Hand.{Comes}
use Rattle.pdq_talk.proofs.Plainly.{some_party}
use Rattle.pdq_talk.proofs.Changing.{changing}
use Rattle.pdq_talk.proofs.plain.change_priority.Goals as goal

pub returns : goal.returns
returns g c = record {
  comes =
      let party = some_party c.args.standing.now.party c.requires.some in
      subst (λ (r : Replied). Comes (lock_in c.args.office.now) c.args.pass.now c.onmode-outcome.new.pass c.args.standing.now (asked.Change (setting.MaxPriority c.args.value)) r) (sym c.changed_reply.ensures.value)
      (changing (lock_in c.args.office.now) c.args.pass.now c.onmode-outcome.new.pass c.args.standing.now c.requires.hand party.0 party.1 (setting.MaxPriority c.args.value) (record { quanta = 0; frames = 0 }) refl c.onmode-outcome.result
      c.onmode-outcome.ensures.lock c.onmode-outcome.ensures.turn c.onmode-outcome.ensures.unfinished);
}
