use Rattle.std.proofs.Common.{sym, subst}
use Rattle.pdq_office.specs.Passes.{lock_in}
use Rattle.pdq_talk.specs.declared.replied.Replied.{Replied}
use Rattle.pdq_talk.specs.Lines as asked
use Rattle.pdq_talk.specs.Lines.{percent}
use Rattle.pdq_talk.specs.Hand.{Comes}
use Rattle.pdq_talk.proofs.Plainly.{some_party, prioritised}
use Rattle.pdq_talk.proofs.plain.set_priority.Goals as goal

pub returns : goal.returns
returns c = record {
  comes =
      let party = some_party c.args.standing.now.party c.requires.some in
      subst (λ (r : Replied). Comes (lock_in c.args.office.now) c.args.pass.now c.args.pass.now c.args.standing.now (asked.Priority (percent c.args.level)) r) (sym c.priority_reply.ensures.value)
      (prioritised (lock_in c.args.office.now) c.args.pass.now c.args.standing.now c.requires.hand party.0 c.args.level party.1);
}
