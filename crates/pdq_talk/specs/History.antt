-- What is said of the one history: what stands at a place, and what state it led to after so many entries. Both stay so where the history grows.
use Rattle.std.specs.Prelude.{ℕ, ◌≡◌, ◌≢◌, ◌<◌, ◌≤◌, ◌-◌, List, take, slice_get, Some}
use Rattle.pdq_model.specs.declared.events.Entry.{Entry}
use Rattle.pdq_model.specs.declared.events.Event.{Event}
use Rattle.pdq_model.specs.declared.events.Event.TheVariants.{Onmode}
use Rattle.pdq_model.specs.declared.events.Reply.{Reply}
use Rattle.pdq_model.specs.declared.events.Setting.{Setting}
use Rattle.pdq_model.specs.Configuration.{Configuration}
use Rattle.pdq_model.specs.State.{State}
use Rattle.pdq_model.specs.History.{replay}

-- the entry stands at this place, counted from 1
pub record StandsAt (history : List Entry) (place : ℕ) (entry : Entry) : Type 0 where
  pub from_one : 1 ≤ place
  pub at : slice_get history (place - 1) ≡ Some entry

-- the state after the first `step` entries
abbrev pub state_at : Configuration → List Entry → ℕ → State
state_at c history step = replay c (take step history)

-- an entry of this session with this event and reply
abbrev pub entry_of : ℕ → Event → Reply → Entry
entry_of who event reply = record { session = who; event = event; reply = reply }

-- after `last` and up to `step` another session than this one made a change
pub record IsChangedByAnother (history : List Entry) (who last step : ℕ) : Type 0 where
  pub place : ℕ
  pub other : ℕ
  pub setting : Setting
  pub reply : Reply
  pub later : last < place
  pub within : place ≤ step
  pub stands : StandsAt history place (entry_of other (Onmode setting) reply)
  pub is_other : other ≢ who
