use Rattle.std.proofs.Common.{◌∙◌, ℕ, sym, subst, ap}
use Rattle.pdq_model.specs.declared.events.Setting.TheVariants as setting
use Rattle.pdq_office.specs.Passes.{lock_in}
use Rattle.pdq_talk.specs.declared.replied.Replied.{Replied}
use Rattle.pdq_talk.specs.Lines as asked
use Rattle.pdq_talk.specs.Hand.{Comes}
use Rattle.pdq_talk.specs.Replies.{pooled_reply}
use Rattle.pdq_talk.proofs.Plainly.{some_party, no_room}
use Rattle.pdq_talk.proofs.Pooled.{pooled}
use Rattle.pdq_talk.proofs.pools.change_memory.Goals as goal

pub returns-in-Ok : goal.returns-in-Ok
returns-in-Ok g c = record {
  comes =
      let party = some_party c.args.standing.now.party c.requires.some in
      subst (λ (r : Replied). Comes (lock_in c.args.office.now) c.args.pass.now c.onmode-outcome.new.pass c.args.standing.now (asked.Change (setting.TotalMemory c.args.value)) r)
      (sym (c.pooled_reply.ensures.value ∙ ap (λ (k : ℕ). pooled_reply (setting.TotalMemory c.args.value) k c.onmode-outcome.result) c.step.ensures.value))
      (pooled (lock_in c.args.office.now) c.args.pass.now c.look_as-admin.new.pass c.onmode-outcome.new.pass c.args.standing.now c.requires.hand party.0 party.1 (setting.TotalMemory c.args.value)
      (record { quanta = c.in-Ok.pool.home; frames = c.in-Ok.pool.frames_per_quantum }) c.look_as-admin.result c.look_as-admin.new.into c.look_as-admin.ensures.turn c.look_as-admin.ensures.follows c.look_as-admin.ensures.own c.in-Ok.ensures.size
      c.onmode-outcome.result c.onmode-outcome.ensures.lock c.onmode-outcome.ensures.turn c.onmode-outcome.ensures.unfinished);
}

pub returns-in-Err : goal.returns-in-Err
returns-in-Err g c = record { comes = no_room (lock_in c.args.office.now) c.args.pass.now c.look_as-admin.new.pass c.args.standing.now c.requires.hand (asked.Change (setting.TotalMemory c.args.value)) c.look_as-admin.ensures.follows }
