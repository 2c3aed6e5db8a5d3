use Rattle.std.proofs.Common.{not}
use Rattle.std.specs.List.{list_any}
use Rattle.pdq_schema.specs.Schemas.{cut_of}
use Rattle.pdq_prune.specs.Elimination.{filter_excludes}
use Rattle.pdq_prune.proofs.Leaving.{kept_step}
use Rattle.pdq_prune.proofs.keeping.left_of.Goals as goal

pub loop-fragment-preserved : goal.loop-fragment-preserved
loop-fragment-preserved c =
    kept_step (λ t. not (list_any (filter_excludes (cut_of c.args.cut.now) c.args.place t) c.args.filters.now)) c.loop-fragment.fragment c.loop-fragment.left.items _ c.loop-fragment.invariant c.in_ok-keep.ensures
