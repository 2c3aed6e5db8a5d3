use Rattle.std.proofs.Common.{ℕ, ◌∙◌, ap, List, [], ◌∷◌, ◌++◌}
use Rattle.pdq_gather.proofs.Lists.{push-range}
use Rattle.pdq_gather.proofs.plans.places.Goals as goal

pub counting-preserved : goal.counting-preserved
counting-preserved c = c.in-Ok.ensures.items ∙ (ap (λ (l : List ℕ). l ++ c.counting.place ∷ []) c.counting.invariant ∙ push-range c.counting.place)
