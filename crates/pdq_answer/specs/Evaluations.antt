-- What the evaluation of a query comes to.
use Rattle.std.specs.Prelude.{⊤, ◌≡◌, ℕ, ◌+◌, ◌≤◌, List, [], All, Option, Some, None, IsOkAnd, Result, Err, map}
use Rattle.std.specs.Global.{Vec}
use Rattle.pdq_value.specs.declared.cells.Cell.{Cell}
use Rattle.pdq_value.specs.Cells.{scale_of}
use Rattle.pdq_value.specs.Tables.{TableView}
use Rattle.pdq_query.specs.Queries.{QueryView}
use Rattle.pdq_table.specs.Storing.{StoredView, rows_of}
use Rattle.pdq_plan.specs.PlanOrder.{plan_order}
use Rattle.pdq_spill.specs.declared.faults.ExecFault.{ExecFault}
use Rattle.pdq_spill.specs.declared.faults.ExecFault.TheVariants as fault
use Rattle.pdq_reply.specs.Answers.{rows_text, too_many_rows}
use Rattle.pdq_reply.specs.Replies.{store_failed}
use Rattle.pdq_eval.specs.Overflow.{blocks_needed, joins_needed}
use Rattle.pdq_exec.specs.Runs.{rows_are}
use Rattle.pdq_exec.specs.declared.answer.Ran.{Ran}
use Rattle.pdq_answer.specs.declared.evaluating.Evaluated.{Evaluated}
use Rattle.pdq_answer.specs.declared.evaluating.Evaluated.TheVariants.{Rows, TooManyRows, StoreFailed, Stopped}

-- rows, or that there are too many, are those of this answer; a failed store and a stop say nothing of it
abbrev pub IsAnswer : Option (List (List Cell)) → Evaluated → Type 0
IsAnswer answer (Rows rows) = answer ≡ Some (rows_are rows)
IsAnswer answer TooManyRows = answer ≡ None
IsAnswer answer StoreFailed = ⊤
IsAnswer answer (Stopped step) = ⊤

-- the numbers of its rows can be printed
abbrev pub IsPrintable : Evaluated → Type 0
IsPrintable (Rows rows) = All (All (λ c. scale_of c ≤ 8)) (rows_are rows)
IsPrintable TooManyRows = ⊤
IsPrintable StoreFailed = ⊤
IsPrintable (Stopped step) = ⊤

-- the order in which the plan of a query takes stored tables
abbrev pub order_over : StoredView → QueryView → List ℕ
order_over s q = plan_order q (map (rows_of s) q.tables)

-- rows came with so many blocks at least, which were put between these counts
abbrev pub PutAtLeast : ℕ → ℕ → ℕ → Evaluated → Type 0
PutAtLeast before after blocks (Rows rows) = before + blocks ≤ after
PutAtLeast before after blocks TooManyRows = ⊤
PutAtLeast before after blocks StoreFailed = ⊤
PutAtLeast before after blocks (Stopped step) = ⊤

-- what a run came to, told as an evaluation
abbrev pub IsRunAs : Result Ran ExecFault → Evaluated → Type 0
IsRunAs ran (Rows rows) = IsOkAnd ran (λ r. r.rows ≡ rows)
IsRunAs ran TooManyRows = ran ≡ Err fault.RowLimit
IsRunAs ran StoreFailed = ran ≡ Err fault.SpillFault
IsRunAs ran (Stopped step) = ran ≡ Err (fault.Stopped step)

-- its lines; one that was stopped has none
abbrev pub evaluated_text : Evaluated → List ℕ
evaluated_text (Rows rows) = rows_text (rows_are rows)
evaluated_text TooManyRows = too_many_rows
evaluated_text StoreFailed = store_failed
evaluated_text (Stopped step) = []
