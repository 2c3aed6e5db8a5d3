use Rattle.std.proofs.Common.{◌≡◌, map, take}
use Rattle.pdq_eval.specs.Results.{item_of_nothing}
use Rattle.pdq_result.proofs.answers.row_of_nothing.Given as goal

abbrev pub invariant-loop-item : goal.invariant-loop-item
invariant-loop-item l = l.row.items ≡ map item_of_nothing (take l.item-index l.query.items.items)
