use Rattle.std.proofs.Common.{◌≡◌, ◌≤◌, ◌+◌, ◌*◌, ◌++◌, length, map, drop}
use Rattle.pdq_value.specs.Tables.{shape_of}
use Rattle.pdq_query.specs.Queries.{query_of}
use Rattle.pdq_result.specs.Sources.{group_sources}
use Rattle.pdq_result.proofs.sources.group_sources.Given as goal

abbrev pub invariant-loop-item : goal.invariant-loop-item
invariant-loop-item l = (l.place ≤ 16 + 2 * l.item-index) ×
    (l.sources.items ++ group_sources (map shape_of l.shapes) (query_of l.query) (drop l.item-index l.query.items.items) l.place ≡ group_sources (map shape_of l.shapes) (query_of l.query) l.query.items.items (length l.query.groups.items))
