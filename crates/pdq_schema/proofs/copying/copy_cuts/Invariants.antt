use Rattle.std.proofs.Common.{◌≡◌, map, take}
use Rattle.pdq_schema.specs.Schemas.{cut_of}
use Rattle.pdq_schema.proofs.copying.copy_cuts.Given as goal

abbrev pub invariant-loop-cut : goal.invariant-loop-cut
invariant-loop-cut l = map cut_of l.copies.items ≡ map cut_of (take l.cut-index l.cuts)
