use Rattle.std.proofs.Common.{◌<◌, length, rules}
use Rattle.pdq_plan.specs.Plans.{columns_of}
use Rattle.pdq_result.proofs.Picked.{next_pick}
use Rattle.pdq_result.proofs.grouping.push_key_picks.Goals as goal

pub loop-at-preserved : goal.loop-at-preserved
loop-at-preserved c =
    let below : c.loop-at.at-index < length c.args.groups.now = search rules in
    next_pick (columns_of c.args.plan.now) c.args.groups.now c.loop-at.at-index _ c.args.picks.now.items c.loop-at.picks.items c.push.new.picks.items c.column_pick.result below c.in_ok-push.ensures.value c.column_pick.ensures.value c.loop-at.invariant
