use Rattle.std.proofs.Common.{sym, ◌∙◌}
use Rattle.pdq_frame.specs.Regions.{child_on, no_children}
use Rattle.std.proofs.Common.{ap, get_or, subst, ℕ, ◌<◌, length}
use Rattle.std.specs.Prelude.{Option, IfSome}
use Rattle.pdq_group.proofs.Reaching.{passed_on}
use Rattle.pdq_group.proofs.trees.end_of.Goals as goal

pub down-preserved : goal.down-preserved
down-preserved c =
    let later = subst (λ (o : Option ℕ). IfSome o (λ (t : ℕ). (c.down.at < t) × (t < length c.args.region.now.rows))) c.in-Some.is c.branch-next.ensures.later in
    record {
      stands = later.1;
      passed = passed_on c.args.region.now.children c.args.first c.args.bits c.down.at c.down.left c.in-Some.child c.rest-left.result c.down.invariant.passed
          (sym c.in-Some.is ∙ (c.branch-next.ensures.child ∙ ap (child_on (get_or c.args.region.now.children c.down.at no_children)) c.side-right.ensures.value)) c.rest-left.ensures.value;
    }
