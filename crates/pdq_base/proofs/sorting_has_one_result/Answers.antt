use Rattle.pdq_base.proofs.InOrder.{in_order-from_sorted}
use Rattle.pdq_base.proofs.sorting_has_one_result.Goals as goal

pub returns : goal.returns
returns c s = record { law = λ cmp linear xs ys. in_order-from_sorted linear xs ys }
