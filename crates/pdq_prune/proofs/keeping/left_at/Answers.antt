use Rattle.std.proofs.Common.{arith}
use Rattle.pdq_schema.specs.Schemas.{cut_of}
use Rattle.pdq_prune.proofs.Leaving.{few_if, left_of-few}
use Rattle.pdq_prune.proofs.keeping.left_at.Goals as goal

pub returns-clause-few : goal.returns-clause-few
returns-clause-few c = few_if c.left_of.result _ c.left_of.ensures (omega (arith, left_of-few (cut_of c.cut-cut.result.now) c.args.place c.deref.result.now, c.cut-cut.ensures.fragments))
