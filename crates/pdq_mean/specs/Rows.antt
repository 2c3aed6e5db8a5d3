-- Vectors of cells in the order of an answer.
use Rattle.std.specs.Prelude.{List}
use Rattle.std.specs.Global.{Vec}
use Rattle.std.specs.Ordering.{on}
use Rattle.std.specs.declared.cmp.Ordering.{Ordering}
use Rattle.pdq_value.specs.declared.cells.Cell.{Cell}
use Rattle.pdq_query.specs.declared.query.Key.{Key}
use Rattle.pdq_query.specs.Answer.{answer_cmp}

unfoldable pub vector_cmp : List Key → Vec Cell → Vec Cell → Ordering
vector_cmp keys = on (λ (v : Vec Cell). v.items) (answer_cmp keys)
