use Rattle.pdq_office.specs.Passes.{lock_in}
use Rattle.pdq_talk.proofs.Plainly.{user_party, not_allowed}
use Rattle.pdq_talk.proofs.plain.not_allowed.Goals as goal

pub returns : goal.returns
returns g c =
    record {
      comes =
          let party = user_party c.args.standing.now.party c.requires.user in
          not_allowed (lock_in c.args.office.now) c.args.pass.now c.step-step.new.pass c.args.standing.now c.requires.hand party.0 c.step-step.result party.1 party.2 c.step-step.ensures.turn c.step-step.ensures.follows;
    }
