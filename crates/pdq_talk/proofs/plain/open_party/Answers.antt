use Rattle.std.proofs.Common.{sym, subst}
use Rattle.pdq_office.specs.Passes.{lock_in}
use Rattle.pdq_talk.specs.declared.replied.Replied.{Replied}
use Rattle.pdq_talk.specs.Lines as asked
use Rattle.pdq_talk.specs.Hand.{Comes}
use Rattle.pdq_talk.proofs.Plainly.{opening}
use Rattle.pdq_talk.proofs.plain.open_party.Goals as goal

pub returns : goal.returns
returns g c =
    record {
      comes =
          subst (λ (r : Replied). Comes (lock_in c.args.office.now) c.args.pass.now c.open_session-outcome.new.pass c.args.standing.now (asked.Open c.args.admin) r) (sym c.opened_reply.ensures.value)
          (opening (lock_in c.args.office.now) c.args.pass.now c.open_session-outcome.new.pass c.args.standing.now c.requires.hand c.args.admin c.open_session-outcome.result c.requires.none
          c.open_session-outcome.ensures.lock c.open_session-outcome.ensures.turn c.open_session-outcome.ensures.session);
    }
