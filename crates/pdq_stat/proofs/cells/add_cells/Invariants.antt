use Rattle.std.proofs.Common.{◌≡◌, ◌++◌, flat_map, take}
use Rattle.std.specs.Prelude.{decimal}
use Rattle.pdq_stat.specs.StatusText.{cell}
use Rattle.pdq_stat.proofs.cells.add_cells.Given as goal

abbrev pub invariant-loop-number : goal.invariant-loop-number
invariant-loop-number l = l.to.items ≡ l.initial.to.items ++ flat_map (λ n. cell (decimal n)) (take l.number-index l.numbers)
