use Rattle.std.proofs.Common.{◌≡◌, map, take}
use Rattle.pdq_mean.specs.Tallies.{cell_of_tally}
use Rattle.pdq_mean.proofs.tallies.row_of_tallies.Given as goal

abbrev pub invariant-loop-tally : goal.invariant-loop-tally
invariant-loop-tally l = l.row.items ≡ map (cell_of_tally l.rows) (take l.tally-index l.tallies)
