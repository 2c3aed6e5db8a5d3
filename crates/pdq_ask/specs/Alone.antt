-- The answer of a query that is asked alone.
use Rattle.std.specs.Prelude.{⊤, ℕ, List, length, map, slice_index_or}
use Rattle.pdq_value.specs.Tables.{TableView, no_table}
use Rattle.pdq_query.specs.Queries.{QueryView}
use Rattle.pdq_plan.specs.PlanOrder.{plan_order}
use Rattle.pdq_eval.specs.Overflow.{blocks_needed}
use Rattle.pdq_answer.specs.declared.evaluating.Evaluated.{Evaluated}
use Rattle.pdq_answer.specs.declared.evaluating.Evaluated.TheVariants.{Rows, TooManyRows, StoreFailed, Stopped}

-- the frames that it is given
abbrev pub frames_alone : ℕ
frames_alone = 32

-- the blocks that its answer needs within them, its tables taken in the order of its plan
abbrev pub blocks_alone : List TableView → QueryView → ℕ
blocks_alone tables q = blocks_needed tables q (plan_order q (map (λ t. length (slice_index_or tables t no_table).rows) q.tables)) frames_alone

-- it was not stopped
abbrev pub IsNotStopped : Evaluated → Type 0
IsNotStopped (Rows rows) = ⊤
IsNotStopped TooManyRows = ⊤
IsNotStopped StoreFailed = ⊤
IsNotStopped (Stopped step) = ⊥
