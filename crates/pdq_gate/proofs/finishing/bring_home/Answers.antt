use Rattle.std.proofs.Common.{◌∙◌, ap}
use Rattle.pdq_frame.specs.Pools.{given_back}
use Rattle.pdq_gate.specs.Conservation.{quanta_standing}
use Rattle.pdq_gate.proofs.Standing.{whole_quanta, count_quanta, standing_frames}
use Rattle.pdq_gate.proofs.finishing.bring_home.Goals as goal

pub give_back-requires-clause-whole : goal.give_back-requires-clause-whole
give_back-requires-clause-whole c =
    let due = rw c.in-Some.is at c.requires.due in
    whole_quanta _ (quanta_standing c.args.row) _ c.requires.some (standing_frames _ c.in-Some.region c.args.row due)

pub returns-in-Some : goal.returns-in-Some
returns-in-Some c =
    let due = rw c.in-Some.is at c.requires.due in record {
      value = c.give_back.ensures.value ∙ ap (given_back c.args.pool.now) (count_quanta _ (quanta_standing c.args.row) _ c.requires.some (standing_frames _ c.in-Some.region c.args.row due));
    }
