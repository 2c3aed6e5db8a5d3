-- What a granted query comes to, and what is known of it.
use Rattle.std.specs.Prelude.{ℕ, ◌≡◌, Option, Some, None, List, [], Result, Ok, Err, ⊤}
use Rattle.pdq_model.specs.declared.events.Entry.{Entry}
use Rattle.pdq_model.specs.declared.events.How.{How}
use Rattle.pdq_model.specs.declared.events.How.TheVariants.{Stopped}
use Rattle.pdq_model.specs.Given.{WasCancelledAt}
use Rattle.pdq_base.specs.declared.Memory.{Memory}
use Rattle.pdq_answer.specs.declared.evaluating.Evaluated.{Evaluated as Evaluation}
use Rattle.pdq_answer.specs.declared.evaluating.Evaluated.TheVariants as run
use Rattle.pdq_answer.specs.Evaluations as evaluation
use Rattle.pdq_talk.specs.Lines.{Expected, IsAnswer, ending_of, evaluated_text}
use Rattle.pdq_talk.specs.declared.replied.Evaluated.{Evaluated}
use Rattle.pdq_talk.specs.declared.replied.Evaluated.TheVariants as anend
use Rattle.pdq_talk.specs.declared.replied.Ran.{Ran}
use Rattle.pdq_talk.specs.declared.replied.Ran.TheVariants as aran
use Rattle.pdq_serve.specs.declared.outcomes.Outcome.{Outcome}
use Rattle.pdq_serve.specs.declared.outcomes.Outcome.TheVariants as outcome

-- how a granted query is ended
abbrev pub how_of : Outcome → How
how_of (outcome.Ended e) = ending_of e
how_of (outcome.Stopped by) = Stopped

abbrev pub ran_of : Outcome → ℕ → Ran
ran_of (outcome.Ended e) step = aran.Ended e step
ran_of (outcome.Stopped by) step = aran.WasStopped step by

-- the lines before the end of a granted query
abbrev pub outcome_text : Outcome → List ℕ
outcome_text (outcome.Ended e) = evaluated_text e
outcome_text (outcome.Stopped by) = []

-- an outcome that a query of this answer may have, which was granted with this flag
abbrev pub IsOutcome : List Entry → ℕ → Expected → Option ℕ → Outcome → Type 0
IsOutcome history id answer None (outcome.Ended e) = IsAnswer answer e
IsOutcome history id answer (Some by) (outcome.Ended e) = ⊥
IsOutcome history id answer None (outcome.Stopped by) = WasCancelledAt history by id
IsOutcome history id answer (Some flagged) (outcome.Stopped by) = (by ≡ flagged) × WasCancelledAt history by id

-- these rows are this text, unless memory was wanting for it
abbrev pub TellsRows : List ℕ → Evaluated → Type 0
TellsRows text (anend.Rows rows) = rows.items ≡ text
TellsRows text anend.NoMemory = ⊤
TellsRows text other = ⊥

abbrev pub TellsEnd : List ℕ → Outcome → Type 0
TellsEnd text (outcome.Ended e) = TellsRows text e
TellsEnd text (outcome.Stopped by) = ⊥

-- an evaluation, as an outcome
abbrev pub IsEndOf : Evaluation → Outcome → Type 0
IsEndOf (run.Rows rows) o = TellsEnd (evaluation.evaluated_text (run.Rows rows)) o
IsEndOf run.TooManyRows o = o ≡ outcome.Ended anend.TooManyRows
IsEndOf run.StoreFailed o = o ≡ outcome.Ended anend.StoreFailed
IsEndOf (run.Stopped step) o = o ≡ outcome.Stopped step

-- what a run came to, as an outcome
abbrev pub IsOutcomeOf : Result Evaluation Memory → Outcome → Type 0
IsOutcomeOf (Ok e) o = IsEndOf e o
IsOutcomeOf (Err m) o = o ≡ outcome.Ended anend.NoMemory

-- an outcome that a query of this answer may have
abbrev pub IsAnswered : Expected → Outcome → Type 0
IsAnswered answer (outcome.Ended e) = IsAnswer answer e
IsAnswered answer (outcome.Stopped by) = ⊤

-- a store failed
abbrev pub HasFailed : Outcome → Type 0
HasFailed (outcome.Ended anend.StoreFailed) = ⊤
HasFailed other = ⊥
