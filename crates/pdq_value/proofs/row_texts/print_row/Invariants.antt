use Rattle.std.proofs.Common.{◌≡◌, ◌++◌, ◌∷◌, take, flat_map}
use Rattle.pdq_value.specs.RowLines.{bar}
use Rattle.pdq_value.specs.RowText.{cell_text}
use Rattle.pdq_value.proofs.row_texts.print_row.Given as goal

abbrev pub invariant-loop-cell : goal.invariant-loop-cell
invariant-loop-cell l = l.to.items ≡ l.initial.to.items ++ flat_map (λ c. bar ∷ cell_text c) (take l.cell-index l.rest)
