-- The words that clauses use of a pass of an office.
use Rattle.std.specs.Prelude.{ℕ, ◌≡◌, ◌≢◌, ◌==◌, Some, List, [], ◌∷◌, unwrap_or, if◌then◌else◌}
use mathlib.Core.List.{IsPrefix}
use Rattle.atomic_table.specs.Seated.{TableId}
use Rattle.pdq_model.specs.declared.events.Entry.{Entry}
use Rattle.pdq_model.specs.declared.events.Setting.{Setting}
use Rattle.pdq_model.specs.declared.events.Event.{Event}
use Rattle.pdq_model.specs.declared.events.Event.TheVariants.{Onmode}
use Rattle.pdq_model.specs.declared.events.Answer.{Answer}
use Rattle.pdq_model.specs.Configuration.{Configuration}
use Rattle.pdq_model.specs.State.{State, next_session}
use Rattle.pdq_model.specs.Step.{answer_to_change, decide, PoolSize}
use Rattle.pdq_turn.specs.Pass.{lock_of, lock_id, view_of}
use Rattle.pdq_turn.specs.declared.view.PassView.{PassView}
use Rattle.pdq_office.specs.Turns.{Makes}
use Rattle.pdq_office.specs.Knowledge.{IsWaitedFor, IsOnLoan, HasOnly}
use Rattle.pdq_office.specs.PassValue.{PassValue}
use Rattle.pdq_office.specs.declared.pass.Ticket.{Ticket}
use Rattle.pdq_office.specs.declared.pass.Held.{Held}
use Rattle.pdq_office.specs.declared.office.Office.{Office}

-- the lock of the office that the pass is of
abbrev pub lock_at : PassValue → TableId
lock_at p = lock_of p.turn

-- the lock of the office
abbrev pub lock_in : Office → TableId
lock_in o = lock_id o.lock

-- what the pass knows
abbrev pub known : PassValue → PassView Entry Configuration
known p = view_of p.turn

-- the pass has this open session
abbrev pub IsIn : PassValue → ℕ → Type 0
IsIn p session = p.session ≡ Some session

-- the pass has an open session
abbrev pub IsOpen : PassValue → Type 0
IsOpen p = (session : ℕ) × (p.session ≡ Some session)

-- the number of the open session, and 0 where there is none
abbrev pub session_of : PassValue → ℕ
session_of p = unwrap_or p.session 0

-- a ticket of a query that this pass submitted and has not collected
abbrev pub IsTicket : PassValue → Ticket → Type 0
IsTicket p ticket = IsWaitedFor (known p) (session_of p) ticket.id

-- a query that this pass collected and has not finished
abbrev pub IsHeld : PassValue → Held → Type 0
IsHeld p held = IsOnLoan (known p) (session_of p) held.id held.frames

-- the open session of the pass has no unfinished queries but these
abbrev pub Unfinished : PassValue → List ℕ → Type 0
Unfinished p ids = HasOnly (known p) (session_of p) ids

-- a later moment of the same pass at which it has made no further entry, though it may have seen more
pub record Follows (p q : PassValue) : Type 0 where
  pub lock : lock_at q ≡ lock_at p
  pub session : q.session ≡ p.session
  pub origin : (known q).origin ≡ (known p).origin
  pub parties : (known q).parties ≡ (known p).parties
  pub mine : (known q).mine ≡ (known p).mine
  pub seen : IsPrefix (known p).seen (known q).seen

-- a turn in which the event of a session that is opened by it comes to the manager's answer, of which and of the step this is told
abbrev pub MakesNew : PassValue → PassValue → Event → (Answer → ℕ → Type 0) → Type 0
MakesNew p q event tells = Makes (known p) (known q) next_session event (λ s. decide s (next_session s) event) (λ s k. tells (decide s (next_session s) event) k)

-- a turn in which an event of the session of the pass comes to the manager's answer
abbrev pub MakesOwn : PassValue → PassValue → Event → (State → Answer → ℕ → Type 0) → Type 0
MakesOwn p q event tells = Makes (known p) (known q) (λ s. session_of p) event (λ s. decide s (session_of p) event) (λ s k. tells s (decide s (session_of p) event) k)

-- a turn in which a change by the session of the pass, with a pool of this size, comes to the manager's answer
abbrev pub MakesChange : PassValue → PassValue → Setting → PoolSize → (Answer → ℕ → Type 0) → Type 0
MakesChange p q setting size tells = Makes (known p) (known q) (λ s. session_of p) (Onmode setting) (λ s. answer_to_change s (session_of p) setting size) (λ s k. tells (answer_to_change s (session_of p) setting size) k)

-- the tickets and the collected queries of the pass are so still, but for the query of this number
pub record KeepsBut (id : ℕ) (p q : PassValue) : Type 0 where
  pub tickets : (other : ℕ) → other ≢ id → IsWaitedFor (known p) (session_of p) other → IsWaitedFor (known q) (session_of p) other
  pub loans : (other frames : ℕ) → other ≢ id → IsOnLoan (known p) (session_of p) other frames → IsOnLoan (known q) (session_of p) other frames

-- so are all
pub record Keeps (p q : PassValue) : Type 0 where
  pub tickets : (id : ℕ) → IsWaitedFor (known p) (session_of p) id → IsWaitedFor (known q) (session_of p) id
  pub loans : (id frames : ℕ) → IsOnLoan (known p) (session_of p) id frames → IsOnLoan (known q) (session_of p) id frames

-- the unfinished queries are no others than before
abbrev pub AddsNone : PassValue → PassValue → Type 0
AddsNone p q = (ids : List ℕ) → Unfinished p ids → Unfinished q ids

-- they are these and one more
abbrev pub Adds : ℕ → PassValue → PassValue → Type 0
Adds id p q = (ids : List ℕ) → Unfinished p ids → Unfinished q (id ∷ ids)

-- the numbers but this one
abbrev pub without : ℕ → List ℕ → List ℕ
without id [] = []
without id (x ∷ xs) = if x == id then without id xs else x ∷ without id xs

-- they are those but one
abbrev pub Ends : ℕ → PassValue → PassValue → Type 0
Ends id p q = (ids : List ℕ) → Unfinished p ids → Unfinished q (without id ids)

-- what a pass has it has still where it made no further entry
abbrev pub TicketsFollow : Type 0
TicketsFollow = (p q : PassValue) (ticket : Ticket) → Follows p q → IsTicket p ticket → IsTicket q ticket

abbrev pub HeldFollow : Type 0
HeldFollow = (p q : PassValue) (held : Held) → Follows p q → IsHeld p held → IsHeld q held

abbrev pub UnfinishedFollow : Type 0
UnfinishedFollow = (p q : PassValue) (ids : List ℕ) → Follows p q → Unfinished p ids → Unfinished q ids

abbrev pub FollowsOn : Type 0
FollowsOn = (p q r : PassValue) → Follows p q → Follows q r → Follows p r
