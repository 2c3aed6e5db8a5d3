-- A run that is never told to stop is not stopped.
use Rattle.std.proofs.Common.{◌≡◌, ℕ, refl, arith}
use Rattle.std.specs.Prelude.{Result, Ok, Err, IfOk}
use Rattle.pdq_base.specs.declared.Memory.{Memory}
use Rattle.pdq_edge.specs.Causes.{Rose}
use Rattle.pdq_answer.specs.declared.evaluating.Evaluated.{Evaluated}
use Rattle.pdq_answer.specs.declared.evaluating.Evaluated.TheVariants.{Rows, TooManyRows, StoreFailed, Stopped}
use Rattle.pdq_ask.specs.Alone.{IsNotStopped}

never_rose : Rose 0 0 → ⊥
never_rose rose = omega (arith, rose)

pub not_stopped : (r : Result Evaluated Memory) (last : ℕ) → ((step : ℕ) → r ≡ Ok (Stopped step) → Rose 0 0 × (step ≡ last)) → IfOk r IsNotStopped
not_stopped (Ok (Rows rows)) last stops = tt
not_stopped (Ok TooManyRows) last stops = tt
not_stopped (Ok StoreFailed) last stops = tt
not_stopped (Ok (Stopped step)) last stops = never_rose (stops step refl).0
not_stopped (Err e) last stops = tt
