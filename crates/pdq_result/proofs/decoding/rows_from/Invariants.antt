use Rattle.std.proofs.Common.{◌≡◌, map, take}
use Rattle.pdq_mean.specs.Loops.{lists_of}
use Rattle.pdq_result.specs.Answers.{rows_kept}
use Rattle.pdq_result.specs.Sources.{cells_from}
use Rattle.pdq_result.proofs.decoding.rows_from.Given as goal

abbrev pub invariant-loop-one : goal.invariant-loop-one
invariant-loop-one l = lists_of l.rows.items ≡ map (cells_from l.dict l.sources) (rows_kept (take l.one-index l.kept))
