-- The order by which rows are sorted is total.
use Rattle.std.proofs.Common.{List}
use Rattle.std.specs.Cmp.{IsTotalOrder}
use Rattle.std.specs.Global.{Vec}
use Rattle.std.proofs.lemmas.Cmp.{on_total}
use Rattle.pdq_value.specs.declared.cells.Cell.{Cell}
use Rattle.pdq_query.specs.declared.query.Key.{Key}
use Rattle.pdq_query.proofs.Orders.{answer_cmp-IsLinearOrder}
use Rattle.pdq_mean.specs.Rows.{vector_cmp}

pub vector_cmp-IsTotalOrder : (keys : List Key) → IsTotalOrder (vector_cmp keys)
unfolding vector_cmp
vector_cmp-IsTotalOrder keys = on_total (λ (v : Vec Cell). v.items) (answer_cmp-IsLinearOrder keys).total
