use Rattle.std.proofs.Common.{◌≡◌, ◌++◌, flat_map, take}
use Rattle.pdq_plan.specs.Plans.{columns_of}
use Rattle.pdq_result.specs.Picking.{item_picks}
use Rattle.pdq_result.proofs.grouping.push_item_picks.Given as goal

abbrev pub invariant-loop-item : goal.invariant-loop-item
invariant-loop-item l = l.picks.items ≡ l.initial.picks.items ++ flat_map (item_picks (columns_of l.plan)) (take l.item-index l.items)
