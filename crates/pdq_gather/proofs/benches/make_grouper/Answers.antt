use Rattle.std.proofs.Common.{◌≡◌, rules, arith, subst, List}
use Rattle.std.specs.Prelude.{IfOk}
use Rattle.std.proofs.lemmas.Grind.{common_steps}
use Rattle.pdq_group.specs.declared.shape.Fold.{Fold}
use Rattle.pdq_gather.specs.Benches.{IsNew}
use Rattle.pdq_gather.proofs.Made.{made-back, made-new, made-ok}
use Rattle.pdq_gather.proofs.benches.make_grouper.Goals as goal

pub returns-clause-new : goal.returns-clause-new
returns-clause-new g c =
    let e : c.in-Ok.folds.items ≡ c.args.shape.now.folds.items = first_of (search rules, grind (arith, common_steps)) in
    subst (λ (fs : List Fold). IfOk c.new.result (λ j. IsNew c.args.shape.now.keys fs j)) e (made-ok c.new.result _ _ _ _ (λ j h k. made-new _ _ _ _ j h k) c.new.ensures.result c.new.ensures.took)

pub returns-clause-back : goal.returns-clause-back
returns-clause-back g c = made-ok c.new.result _ _ _ _ (λ j h k. made-back _ _ _ _ j h) c.new.ensures.result c.new.ensures.took
