use Rattle.pdq_office.specs.Passes.{lock_in}
use Rattle.pdq_talk.proofs.Plainly.{some_party, not_now}
use Rattle.pdq_talk.proofs.plain.not_now.Goals as goal

pub returns : goal.returns
returns g c =
    record {
      comes =
          let party = some_party c.args.standing.now.party c.requires.some in
          not_now (lock_in c.args.office.now) c.args.pass.now c.step-step.new.pass c.args.standing.now c.requires.hand party.0 c.args.admin c.step-step.result party.1 c.step-step.ensures.turn c.step-step.ensures.follows;
    }
