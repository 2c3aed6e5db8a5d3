use Rattle.std.proofs.Common.{◌≡◌, ◌++◌, map, take}
use Rattle.pdq_mean.specs.Loops.{lists_of}
use Rattle.pdq_result.specs.Sources.{cells_from}
use Rattle.pdq_result.proofs.decoding.push_rows.Given as goal

abbrev pub invariant-loop-i : goal.invariant-loop-i
invariant-loop-i l = lists_of l.rows.items ≡ lists_of l.initial.rows.items ++ map (cells_from l.dict l.sources) (take l.i l.kept.rows)
