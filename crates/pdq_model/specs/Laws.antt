-- The laws of the manager, over every legal history from a valid configuration.
use Rattle.std.specs.Prelude.{ℕ, ◌≡◌, ◌≢◌, ◌+◌, ◌≤◌, ◌==◌, ◌&&◌, List, [], ◌∷◌, map, Some, None, All, IsTrue, ⊤, length, slice_get, count_by, AllPairs}
use Rattle.std.specs.List.Sorted.{IsPermutation}
use Rattle.pdq_model.specs.declared.rows.Waiting.{Waiting}
use Rattle.pdq_model.specs.declared.rows.Active.{Active}
use Rattle.pdq_model.specs.declared.events.Event.{Event}
use Rattle.pdq_model.specs.declared.events.Event.TheVariants.{OpenSession, CloseSession, Submit, Collect, Finish, Cancel, Onmode}
use Rattle.pdq_model.specs.declared.events.Entry.{Entry}
use Rattle.pdq_model.specs.declared.events.Why.TheVariants.{JournalFull}
use Rattle.pdq_model.specs.declared.events.Answer.TheVariants.{Refuses}
use Rattle.pdq_model.specs.Configuration.{Configuration, IsValid}
use Rattle.pdq_model.specs.State.{State, reserved_entries, entries_owed}
use Rattle.pdq_model.specs.Order.{head_place, waiting_order, IsBefore}
use Rattle.pdq_model.specs.Gates.{refusing_gate, reserved_quanta, scans_in_use}
use Rattle.pdq_model.specs.Settling.{Admissions, take_pending, admitted_row, admit_of}
use Rattle.pdq_model.specs.Settling.Admissions.{no_more, first_then}
use Rattle.pdq_model.specs.Step.{changed, decide, next, is_entered, admitted_after}
use Rattle.pdq_model.specs.History.{IsLegal, MayOccur, replay}

-- this is true of every state that a legal history from a valid configuration leads to
abbrev pub HoldsAlways : (State → Type 0) → Type 0
HoldsAlways P = (c : Configuration) (history : List Entry) → IsValid c → IsLegal c history → P (replay c history)

-- no more is given than there is: quanta, scan threads, and places among the active queries
pub record IsWithinLimits (s : State) : Type 0 where
  pub quanta : reserved_quanta s ≤ s.config.max_queries
  pub scans : scans_in_use s ≤ s.config.max_scans
  pub active : length s.active ≤ s.config.max_queries

abbrev pub LimitsAreKept : Type 0
LimitsAreKept = HoldsAlways IsWithinLimits

-- nothing more is to be done: a gate refuses the head, and where nothing is active nothing waits and no change is pending
pub record IsAtRest (s : State) : Type 0 where
  pub head : (place : ℕ) (w : Waiting) → head_place s.waiting ≡ Some place → slice_get s.waiting place ≡ Some w → refusing_gate s w ≢ 0
  pub waiting : s.active ≡ [] → s.waiting ≡ []
  pub pending : s.active ≡ [] → s.pending ≡ None

abbrev pub EntriesSettle : Type 0
EntriesSettle = HoldsAlways IsAtRest

-- how many of the queries that wait, are active or were withdrawn have this number, and how many open sessions
abbrev pub queries_numbered : State → ℕ → ℕ
queries_numbered s id = count_by (λ w. w.id == id) s.waiting + count_by (λ a. a.id == id) s.active + count_by (λ w. w.id == id) s.withdrawn

abbrev pub sessions_numbered : State → ℕ → ℕ
sessions_numbered s number = count_by (λ x. x.number == number) s.sessions

-- no two queries have one number, nor have two sessions; numbers count from 1, and none is given before its turn
pub record HasOwnNumbers (s : State) : Type 0 where
  pub queries : (id : ℕ) → queries_numbered s id ≤ 1
  pub submitted : (id : ℕ) → queries_numbered s id ≢ 0 → (1 ≤ id) × (id ≤ s.submitted)
  pub sessions : (number : ℕ) → sessions_numbered s number ≤ 1
  pub opened : (number : ℕ) → sessions_numbered s number ≢ 0 → (1 ≤ number) × (number ≤ s.opened)

abbrev pub NumbersAreUnique : Type 0
NumbersAreUnique = HoldsAlways HasOwnNumbers

-- where a query waits there is a head, and it is before every other
pub record HasOneHead (s : State) : Type 0 where
  pub head : s.waiting ≢ [] → (place : ℕ) × (w : Waiting) × (head_place s.waiting ≡ Some place) × (slice_get s.waiting place ≡ Some w)
  pub first : (place other : ℕ) (w v : Waiting) → head_place s.waiting ≡ Some place → slice_get s.waiting place ≡ Some w → slice_get s.waiting other ≡ Some v → other ≢ place → IsBefore w v

abbrev pub HeadsAreFirst : Type 0
HeadsAreFirst = HoldsAlways HasOneHead

-- these are the waiting queries, each before all that follow
pub record IsInWrittenOrder (ws rows : List Waiting) : Type 0 where
  pub same : IsPermutation ws rows
  pub order : AllPairs IsBefore rows

-- the waiting queries have one written order, and it begins with the head
pub record HasWrittenOrder (s : State) : Type 0 where
  pub written : IsInWrittenOrder s.waiting (waiting_order s.waiting)
  pub only : (rows : List Waiting) → IsInWrittenOrder s.waiting rows → rows ≡ waiting_order s.waiting
  pub first : (place : ℕ) (w : Waiting) → head_place s.waiting ≡ Some place → slice_get s.waiting place ≡ Some w → slice_get (waiting_order s.waiting) 0 ≡ Some w

abbrev pub OrderIsWritten : Type 0
OrderIsWritten = HoldsAlways HasWrittenOrder

-- the state after the event's own change, counted as an entry, before the manager settles
abbrev pub counted : State → ℕ → Event → State
counted s who event = record (changed s who event) { entries = s.entries + 1 }

-- the rows that admissions make active, in order
abbrev pub rows_admitted : (s t : State) → Admissions s t → List Active
rows_admitted s t (no_more r) = []
rows_admitted s t (first_then r m u one rest) = admitted_row r.config one.query ∷ rows_admitted m u rest

-- after its own change, and a pending one where it can be taken, an entry admits heads alone, each past all gates, and these are what it is said to have admitted
pub record AdmitsHeads (s : State) (who : ℕ) (event : Event) : Type 0 where
  pub heads : Admissions (take_pending (counted s who event)) (next s who event)
  pub told : admitted_after s who event [] ≡ map admit_of (rows_admitted (take_pending (counted s who event)) (next s who event) heads)

-- each query that is admitted in turn is then before every other that waits
abbrev pub GoBeforeOthers : (s t : State) → Admissions s t → Type 0
GoBeforeOthers s t (no_more r) = ⊤
GoBeforeOthers s t (first_then r m u one rest) = ((other : ℕ) (v : Waiting) → slice_get r.waiting other ≡ Some v → other ≢ one.place → IsBefore one.query v) × GoBeforeOthers m u rest

-- what an entry admits heads the written order when it is admitted
abbrev pub AdmittedGoFirst : Type 0
AdmittedGoFirst = HoldsAlways (λ s. (who : ℕ) (event : Event) (heads : Admissions (take_pending (counted s who event)) (next s who event)) → GoBeforeOthers (take_pending (counted s who event)) (next s who event) heads)

abbrev pub OnlyHeadsAreAdmitted : Type 0
OnlyHeadsAreAdmitted = HoldsAlways (λ s. (who : ℕ) (event : Event) → IsTrue (is_entered (decide s who event)) → AdmitsHeads s who event)

-- no waiting query is overtaken more than 32 times
abbrev pub IsOvertakenLittle : State → Type 0
IsOvertakenLittle s = All (λ w. w.overtaken ≤ 32) s.waiting

abbrev pub OvertakingIsBounded : Type 0
OvertakingIsBounded = HoldsAlways IsOvertakenLittle

-- an event whose entry was reserved by an earlier one
abbrev pub IsReserved : Event → Type 0
IsReserved CloseSession = ⊤
IsReserved (Collect id) = ⊤
IsReserved (Finish id how) = ⊤
IsReserved (Cancel id) = ⊤
IsReserved (OpenSession admin) = ⊥
IsReserved (Submit p f) = ⊥
IsReserved (Onmode setting) = ⊥

-- what is owed is reserved, within the most that a journal holds; an entry that was reserved is never refused for want of room, and has it
pub record HasRoom (s : State) : Type 0 where
  pub owed : s.entries + entries_owed s ≤ reserved_entries s
  pub most : reserved_entries s ≤ 400000
  pub never_full : (who : ℕ) (event : Event) → IsReserved event → decide s who event ≢ Refuses JournalFull
  pub room : (who : ℕ) (event : Event) → MayOccur s who event → IsTrue (is_entered (decide s who event)) → s.entries + 1 ≤ 400000

abbrev pub JournalHasRoom : Type 0
JournalHasRoom = HoldsAlways HasRoom

-- how many of the queries that wait, are active or were withdrawn have this number and are this session's
abbrev pub queries_of : State → ℕ → ℕ → ℕ
queries_of s session id = count_by (λ w. w.id == id && w.session == session) s.waiting + count_by (λ a. a.id == id && a.session == session) s.active + count_by (λ w. w.id == id && w.session == session) s.withdrawn

-- an event of one session takes no query of another from the lists, nor adds one
abbrev pub KeepsOtherSessions : State → Type 0
KeepsOtherSessions s = (who other id : ℕ) (event : Event) → other ≢ who → queries_of (next s who event) other id ≡ queries_of s other id

abbrev pub OnlyOwnersTake : Type 0
OnlyOwnersTake = HoldsAlways KeepsOtherSessions
