use Rattle.std.proofs.Common.{◌≡◌, map, take}
use Rattle.pdq_value.specs.Tables.{shape_of}
use Rattle.pdq_plan.specs.Plans.{columns_of}
use Rattle.pdq_result.specs.Sources.{plain_source}
use Rattle.pdq_result.proofs.sources.plain_sources.Given as goal

abbrev pub invariant-loop-item : goal.invariant-loop-item
invariant-loop-item l = l.sources.items ≡ map (plain_source (map shape_of l.shapes) l.plan.query (columns_of l.plan)) (take l.item-index l.items)
