use Rattle.std.proofs.Common.{◌≡◌, ◌++◌, drop}
use Rattle.pdq_result.specs.Sources.{cells_from}
use Rattle.pdq_result.proofs.decoding.cells_from.Given as goal

abbrev pub invariant-loop-source : goal.invariant-loop-source
invariant-loop-source l = l.cells.items ++ cells_from l.dict (drop l.source-index l.sources) l.row ≡ cells_from l.dict l.sources l.row
