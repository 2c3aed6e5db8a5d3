use Rattle.std.proofs.Common.{◌≡◌, take}
use Rattle.pdq_eval.specs.Results.{folds_of}
use Rattle.pdq_result.proofs.grouping.group_shape.Given as goal

abbrev pub invariant-loop-item : goal.invariant-loop-item
invariant-loop-item l = l.folds.items ≡ folds_of (take l.item-index l.query.items.items)
