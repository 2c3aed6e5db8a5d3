-- The order of an answer is total, and ties only rows that are the same.
use Rattle.std.proofs.Common.{List, [], ◌∷◌, Bool, true, false, ℕ, cond}
use Rattle.std.specs.Cmp.{IsTotalOrder}
use Rattle.std.specs.Cmp.Derive.{point_total}
use Rattle.std.specs.Ordering.{on, flip_args}
use Rattle.std.proofs.lemmas.Cmp.{then_total, on_total, back_total}
use Rattle.pdq_base.specs.Sorting.{IsLinearOrder}
use Rattle.pdq_value.specs.Cells.{cell_at, cell_cmp}
use Rattle.pdq_value.proofs.Orders.{both_tie, cell_cmp-IsLinearOrder, row_cmp-IsLinearOrder}
use Rattle.pdq_query.specs.declared.query.Key.{Key}
use Rattle.pdq_query.specs.Answer.{answer_cmp, keys_cmp}

key_total : (i : ℕ) (down : Bool) → IsTotalOrder (cond down (flip_args (on (cell_at i) cell_cmp)) (on (cell_at i) cell_cmp))
key_total i true = back_total (on_total (cell_at i) cell_cmp-IsLinearOrder.total)
key_total i false = on_total (cell_at i) cell_cmp-IsLinearOrder.total

keys_total : (ks : List Key) → IsTotalOrder (keys_cmp ks)
unfolding keys_cmp
keys_total [] = point_total
keys_total (k ∷ ks) = then_total (key_total k.item k.down) (keys_total ks)

pub answer_cmp-IsLinearOrder : (ks : List Key) → IsLinearOrder (answer_cmp ks)
answer_cmp-IsLinearOrder ks = record { total = then_total (keys_total ks) row_cmp-IsLinearOrder.total; same = λ a b e. row_cmp-IsLinearOrder.same a b (both_tie (keys_cmp ks a b) _ e).1 }
