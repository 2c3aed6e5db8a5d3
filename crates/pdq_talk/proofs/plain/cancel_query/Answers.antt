use Rattle.std.proofs.Common.{sym, subst}
use Rattle.pdq_office.specs.Passes.{lock_in}
use Rattle.pdq_talk.specs.declared.replied.Replied.{Replied}
use Rattle.pdq_talk.specs.Lines as asked
use Rattle.pdq_talk.specs.Hand.{Comes}
use Rattle.pdq_talk.proofs.Plainly.{some_party, cancelling}
use Rattle.pdq_talk.proofs.plain.cancel_query.Goals as goal

pub returns : goal.returns
returns g c =
    record {
      comes =
          let party = some_party c.args.standing.now.party c.requires.some in
          subst (λ (r : Replied). Comes (lock_in c.args.office.now) c.args.pass.now c.cancel-outcome.new.pass c.args.standing.now (asked.CancelQuery c.args.id) r) (sym c.cancelled_reply.ensures.value)
          (cancelling (lock_in c.args.office.now) c.args.pass.now c.cancel-outcome.new.pass c.args.standing.now c.requires.hand party.0 c.args.id c.cancel-outcome.result party.1
          c.cancel-outcome.ensures.lock c.cancel-outcome.ensures.turn c.cancel-outcome.ensures.unfinished);
    }
