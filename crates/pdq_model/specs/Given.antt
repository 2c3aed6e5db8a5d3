-- What a legal history gives: numbers, and the marks that cancellations leave.
use Rattle.std.specs.Prelude.{ℕ, ◌≡◌, ◌+◌, ◌-◌, ◌≤◌, List, [], ◌∷◌, ◌++◌, true, Some, ⊤, All, length, slice_get}
use Rattle.pdq_model.specs.declared.rows.Waiting.{Waiting}
use Rattle.pdq_model.specs.declared.rows.Active.{Active}
use Rattle.pdq_model.specs.declared.rows.Withdrawn.{Withdrawn}
use Rattle.pdq_model.specs.declared.events.Event.TheVariants.{Cancel}
use Rattle.pdq_model.specs.declared.events.Reply.{Reply}
use Rattle.pdq_model.specs.declared.events.Reply.TheVariants as reply
use Rattle.pdq_model.specs.declared.events.Entry.{Entry}
use Rattle.pdq_model.specs.Configuration.{Configuration, frames_per_quantum}
use Rattle.pdq_model.specs.State.{State}
use Rattle.pdq_model.specs.Step.{is_open}
use Rattle.pdq_model.specs.History.{IsLegal, has_query, replay}
use Rattle.pdq_model.specs.Laws.{HoldsAlways}

-- the numbers that a reply gives to a query and to a session
abbrev pub query_given : Reply → List ℕ
query_given (reply.Placed id priority gate) = id ∷ []
query_given other = []

abbrev pub session_given : Reply → List ℕ
session_given (reply.Opened session) = session ∷ []
session_given other = []

-- the numbers that a history gives, in order
abbrev pub queries_given : List Entry → List ℕ
queries_given [] = []
queries_given (e ∷ history) = query_given e.reply ++ queries_given history

abbrev pub sessions_given : List Entry → List ℕ
sessions_given [] = []
sessions_given (e ∷ history) = session_given e.reply ++ sessions_given history

-- the numbers begin with this one, and each is one more than the number before it
abbrev pub CountFrom : ℕ → List ℕ → Type 0
CountFrom k [] = ⊤
CountFrom k (x ∷ xs) = (x ≡ k) × CountFrom (k + 1) xs

-- a history gives the numbers 1, 2, 3 and so on to its queries, each once, and likewise to its sessions
pub record GivesEachOnce (c : Configuration) (history : List Entry) : Type 0 where
  pub queries : CountFrom 1 (queries_given history)
  pub submitted : (replay c history).submitted ≡ length (queries_given history)
  pub sessions : CountFrom 1 (sessions_given history)
  pub opened : (replay c history).opened ≡ length (sessions_given history)

abbrev pub NumbersAreGivenOnce : Type 0
NumbersAreGivenOnce = (c : Configuration) (history : List Entry) → IsLegal c history → GivesEachOnce c history

-- the session of each query that waits, is active or was withdrawn is open
abbrev pub HasOpenOwners : State → Type 0
HasOpenOwners s = (who : ℕ) → has_query s who ≡ true → is_open s who ≡ true

abbrev pub OwnersAreOpen : Type 0
OwnersAreOpen = HoldsAlways HasOpenOwners

-- the entry at this step, counted from 1, cancels the query of this number
abbrev pub WasCancelledAt : List Entry → ℕ → ℕ → Type 0
WasCancelledAt history step id = (1 ≤ step) × ((e : Entry) × (slice_get history (step - 1) ≡ Some e) × (e.event ≡ Cancel id))

-- the step of each flag, and of each withdrawal, is that of an entry that cancels this very query
pub record MarksCancellations (s : State) (history : List Entry) : Type 0 where
  pub flagged : (place step : ℕ) (a : Active) → slice_get s.active place ≡ Some a → a.flagged ≡ Some step → WasCancelledAt history step a.id
  pub withdrawn : (place : ℕ) (w : Withdrawn) → slice_get s.withdrawn place ≡ Some w → WasCancelledAt history w.by w.id

abbrev pub MarksAreCancellations : Type 0
MarksAreCancellations = (c : Configuration) (history : List Entry) → IsLegal c history → MarksCancellations (replay c history) history

-- a waiting query has 1 to 16 fragments
abbrev pub HasFrags : Waiting → Type 0
HasFrags w = (1 ≤ w.frags) × (w.frags ≤ 16)

-- an active query has a quantum at least, and 1 to 16 scan threads
pub record HasShares (a : Active) : Type 0 where
  pub quanta : 1 ≤ a.quanta
  pub some_scan : 1 ≤ a.scans
  pub scans : a.scans ≤ 16

-- what running a query takes: each active query has its shares, and a quantum has 32 frames at least
pub record HasWorkingShares (s : State) : Type 0 where
  pub shares : All HasShares s.active
  pub frames : 32 ≤ frames_per_quantum s.config

abbrev pub SharesSuffice : Type 0
SharesSuffice = HoldsAlways HasWorkingShares
