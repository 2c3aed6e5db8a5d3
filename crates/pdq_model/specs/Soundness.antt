-- What is true of every state that a legal history leads to.
use Rattle.std.specs.Prelude.{◌≡◌, ◌+◌, ◌≤◌, Some, All, length}
use Rattle.pdq_model.specs.declared.rows.Waiting.{Waiting}
use Rattle.pdq_model.specs.declared.rows.Pending.{Pending}
use Rattle.pdq_model.specs.Configuration.{IsValid}
use Rattle.pdq_model.specs.State.{State, reserved_entries, entries_owed}
use Rattle.pdq_model.specs.Gates.{reserved_quanta, scans_in_use}
use Rattle.pdq_model.specs.Settling.{with_pending}

-- a waiting query has an effective priority in percent, and was overtaken at most 32 times
pub record IsWaitingRow (w : Waiting) : Type 0 where
  pub priority : w.priority ≤ 100
  pub overtaken : w.overtaken ≤ 32

pub record IsSound (s : State) : Type 0 where
  pub valid : IsValid s.config
  -- what a pending change asks for is valid
  pub pending : (p : Pending) → s.pending ≡ Some p → IsValid (with_pending s.config p)
  -- reserved quanta never pass the total, nor scan threads their limit
  pub quanta : reserved_quanta s ≤ s.config.max_queries
  pub scans : scans_in_use s ≤ s.config.max_scans
  pub few_active : length s.active ≤ s.config.max_queries
  pub few_waiting : length s.waiting ≤ 1024
  pub few_sessions : length s.sessions ≤ 64
  pub waiting : All IsWaitingRow s.waiting
  -- every query was submitted
  pub queries : length s.waiting + length s.active + length s.withdrawn ≤ s.submitted
  -- the journal has room for all that is still to come
  pub journal : s.entries + entries_owed s ≤ reserved_entries s
  pub reserved : reserved_entries s ≤ 400000
