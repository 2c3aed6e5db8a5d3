-- What a status shows of a state.
use Rattle.std.specs.Prelude.{ℕ, List, Option, map}
use Rattle.pdq_model.specs.declared.rows.Waiting.{Waiting}
use Rattle.pdq_model.specs.declared.rows.Active.{Active}
use Rattle.pdq_model.specs.declared.rows.Pending.{Pending}
use Rattle.pdq_model.specs.declared.rows.ActiveRow.{ActiveRow}
use Rattle.pdq_model.specs.declared.rows.WaitingRow.{WaitingRow}
use Rattle.pdq_model.specs.Configuration.{Configuration}
use Rattle.pdq_model.specs.State.{State}
use Rattle.pdq_model.specs.Order.{waiting_order}
use Rattle.pdq_model.specs.Gates.{gate_of}

pub record StatusView : Type 0 where
  pub step : ℕ
  pub config : Configuration
  pub pending : Option Pending
  -- in order of admission
  pub active : List ActiveRow
  -- in the written order
  pub waiting : List WaitingRow

abbrev pub active_shown : Active → ActiveRow
active_shown a = record { session = a.session; id = a.id; priority = a.priority; quanta = a.quanta; scans = a.scans }

abbrev pub waiting_shown : State → Waiting → WaitingRow
waiting_shown s w = record { session = w.session; id = w.id; priority = w.priority; overtaken = w.overtaken; gate = gate_of s w.session w.id }

abbrev pub status_of : State → StatusView
status_of s = record { step = s.entries; config = s.config; pending = s.pending; active = map active_shown s.active; waiting = map (waiting_shown s) (waiting_order s.waiting) }
