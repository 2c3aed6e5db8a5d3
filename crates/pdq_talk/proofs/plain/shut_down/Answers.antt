use Rattle.std.proofs.Common.{◌∙◌, ap}
use Rattle.pdq_office.specs.Passes.{lock_in}
use Rattle.pdq_talk.specs.Hand.{session_in}
use Rattle.pdq_talk.proofs.Plainly.{shutting}
use Rattle.pdq_talk.proofs.plain.shut_down.Goals as goal

pub returns : goal.returns
returns g c =
    record {
      comes =
          shutting (lock_in c.args.office.now) c.args.pass.now c.close_session-step.new.pass c.args.standing.now c.requires.hand c.args.party c.close_session-step.result c.requires.some c.requires.admin
          c.close_session-step.ensures.lock c.close_session-step.ensures.turn c.close_session-step.ensures.session;
    }

pub close_session-step-requires-clause-finished : goal.close_session-step-requires-clause-finished
close_session-step-requires-clause-finished g c = c.requires.hand.finished (c.args.party.number, c.requires.hand.session ∙ ap session_in c.requires.some)
