-- The state of the manager.
use Rattle.std.specs.Prelude.{ℕ, ◌+◌, ◌*◌, List, [], Option, None, Some, Bool, true, false, length, sum_by}
use Rattle.pdq_model.specs.declared.rows.Waiting.{Waiting}
use Rattle.pdq_model.specs.declared.rows.Active.{Active}
use Rattle.pdq_model.specs.declared.rows.Withdrawn.{Withdrawn}
use Rattle.pdq_model.specs.declared.rows.Session.{Session}
use Rattle.pdq_model.specs.declared.rows.Pending.{Pending}
use Rattle.pdq_model.specs.Configuration.{Configuration}

pub record State : Type 0 where
  pub config : Configuration
  -- a change that waits until no query is active
  pub pending : Option Pending
  -- in order of submission
  pub waiting : List Waiting
  -- in order of admission
  pub active : List Active
  -- cancelled while they waited, and not yet collected
  pub withdrawn : List Withdrawn
  -- those that are open
  pub sessions : List Session
  -- how many sessions were ever opened, queries submitted, and changes accepted
  pub opened : ℕ
  pub submitted : ℕ
  pub changes : ℕ
  -- how many entries the journal has
  pub entries : ℕ

-- a manager of this configuration, without an entry
abbrev pub opening_state : Configuration → State
opening_state c = record { config = c; pending = None; waiting = []; active = []; withdrawn = []; sessions = []; opened = 0; submitted = 0; changes = 0; entries = 0 }

-- the numbers of the next session and of the next query
abbrev pub next_session : State → ℕ
next_session s = s.opened + 1

abbrev pub next_query : State → ℕ
next_query s = s.submitted + 1

-- the entries that the accepted events may lead to, reserved beforehand
abbrev pub reserved_entries : State → ℕ
reserved_entries s = 2 * s.opened + 4 * s.submitted + s.changes

-- the entries that an active query can still lead to: to be cancelled, to be collected, to be finished
abbrev pub entries_if_open : Bool → ℕ
entries_if_open true = 0
entries_if_open false = 1

abbrev pub entries_if_unflagged : Option ℕ → ℕ
entries_if_unflagged None = 1
entries_if_unflagged (Some step) = 0

abbrev pub entries_of : Active → ℕ
entries_of a = entries_if_unflagged a.flagged + entries_if_open a.collected + 1

-- the entries that are still to come of those reserved: a session is closed; a waiting query is cancelled, collected and finished; a withdrawn one is collected
abbrev pub entries_owed : State → ℕ
entries_owed s = length s.sessions + 3 * length s.waiting + sum_by entries_of s.active + length s.withdrawn
