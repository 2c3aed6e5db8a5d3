use Rattle.std.proofs.Common.{◌≡◌, [], map, take}
use Rattle.pdq_query.specs.Queries.{query_of}
use Rattle.pdq_query.specs.Folds.{item_of_group}
use Rattle.pdq_mean.proofs.tallies.row_of_no_choice.Given as goal

abbrev pub invariant-loop-item : goal.invariant-loop-item
invariant-loop-item l = l.row.items ≡ map (item_of_group (query_of l.query) [] []) (take l.item-index l.query.items.items)
