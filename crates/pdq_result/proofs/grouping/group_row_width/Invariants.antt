use Rattle.std.proofs.Common.{◌≡◌, ◌≤◌, ◌+◌, ◌*◌, drop}
use Rattle.pdq_group.specs.Folds.{words_of_folds}
use Rattle.pdq_result.proofs.grouping.group_row_width.Given as goal

abbrev pub invariant-loop-fold : goal.invariant-loop-fold
invariant-loop-fold l = (l.width ≤ 16 + 2 * l.fold-index) × (l.width + words_of_folds (drop l.fold-index l.shape.folds.items) ≡ l.shape.keys + words_of_folds l.shape.folds.items)
