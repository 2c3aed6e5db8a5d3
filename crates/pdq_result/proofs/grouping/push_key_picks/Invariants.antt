use Rattle.std.proofs.Common.{◌≡◌, ◌++◌, map, take}
use Rattle.pdq_plan.specs.Plans.{columns_of}
use Rattle.pdq_result.specs.Picking.{column_pick}
use Rattle.pdq_result.proofs.grouping.push_key_picks.Given as goal

abbrev pub invariant-loop-at : goal.invariant-loop-at
invariant-loop-at l = l.picks.items ≡ l.initial.picks.items ++ map (column_pick (columns_of l.plan)) (take l.at-index l.groups)
