-- What a query came to, as an output.
use Rattle.std.specs.Prelude.{ℕ}
use Rattle.pdq_answer.specs.declared.evaluating.Evaluated.{Evaluated}
use Rattle.pdq_answer.specs.declared.evaluating.Evaluated.TheVariants.{Rows, TooManyRows, StoreFailed, Stopped}
use Rattle.pdq_answer.specs.Evaluations.{evaluated_text}
use Rattle.pdqd.specs.Output.{Output}

abbrev pub status_told : Evaluated → ℕ
status_told (Rows rows) = 0
status_told TooManyRows = 65
status_told StoreFailed = 70
status_told (Stopped step) = 0

abbrev pub evaluated_output : Evaluated → Output
evaluated_output e = record { text = evaluated_text e; status = status_told e }
