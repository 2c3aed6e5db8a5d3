-- What the manager answers to an event, and the state after it.
use Rattle.std.specs.Prelude.{ℕ, ◌+◌, List, [], ◌∷◌, ◌++◌, Option, None, Some, Bool, true, false, not, ◌&&◌, ◌||◌, ◌==◌, nat_lt, nat_le, if◌then◌else◌, is_some, length, position, slice_get, slice_set, remove, unwrap_or, option_map, option_and_then}
use Rattle.std.specs.List.{list_any}
use Rattle.std.specs.Option.{option_map_or}
use Rattle.pdq_model.specs.declared.rows.Waiting.{Waiting}
use Rattle.pdq_model.specs.declared.rows.Active.{Active}
use Rattle.pdq_model.specs.declared.rows.Withdrawn.{Withdrawn}
use Rattle.pdq_model.specs.declared.rows.Admit.{Admit}
use Rattle.pdq_model.specs.declared.events.Setting.{Setting}
use Rattle.pdq_model.specs.declared.events.Setting.TheVariants.{MaxPriority, TotalMemory, MaxQueries, MaxScans, NonPdq}
use Rattle.pdq_model.specs.declared.events.Event.{Event}
use Rattle.pdq_model.specs.declared.events.Event.TheVariants.{OpenSession, CloseSession, Submit, Collect, Finish, Cancel, Onmode}
use Rattle.pdq_model.specs.declared.events.Reply.{Reply}
use Rattle.pdq_model.specs.declared.events.Reply.TheVariants as reply
use Rattle.pdq_model.specs.declared.events.Why.TheVariants as why
use Rattle.pdq_model.specs.declared.events.Answer.{Answer}
use Rattle.pdq_model.specs.declared.events.Answer.TheVariants.{Entered, Waits, Refuses}
use Rattle.pdq_model.specs.Configuration.{Configuration, is_valid, frames_per_quantum}
use Rattle.pdq_model.specs.Shares.{effective_priority}
use Rattle.pdq_model.specs.State.{State, next_session, next_query, reserved_entries}
use Rattle.pdq_model.specs.Gates.{waiting_place, gate_of}
use Rattle.pdq_model.specs.Settling.{settle, with_pending, admits}

abbrev pub most_waiting : ℕ
most_waiting = 1024

abbrev pub most_sessions : ℕ
most_sessions = 64

abbrev pub most_entries : ℕ
most_entries = 400000

-- where the query of this number and session is active, and where it was withdrawn
abbrev pub active_place : State → ℕ → ℕ → Option ℕ
active_place s who id = position (λ a. a.id == id && a.session == who) s.active

abbrev pub withdrawn_place : State → ℕ → ℕ → Option ℕ
withdrawn_place s who id = position (λ w. w.id == id && w.session == who) s.withdrawn

-- the session of the query of this number, where it waits, is active or was withdrawn
abbrev pub waiting_owner : State → ℕ → Option ℕ
waiting_owner s id = option_and_then (λ k. option_map (λ (w : Waiting). w.session) (slice_get s.waiting k)) (position (λ w. w.id == id) s.waiting)

abbrev pub active_owner : State → ℕ → Option ℕ
active_owner s id = option_and_then (λ k. option_map (λ (a : Active). a.session) (slice_get s.active k)) (position (λ a. a.id == id) s.active)

abbrev pub withdrawn_owner : State → ℕ → Option ℕ
withdrawn_owner s id = option_and_then (λ k. option_map (λ (w : Withdrawn). w.session) (slice_get s.withdrawn k)) (position (λ w. w.id == id) s.withdrawn)

abbrev pub first_some : Option ℕ → Option ℕ → Option ℕ
first_some None b = b
first_some (Some a) b = Some a

abbrev pub owner_of : State → ℕ → Option ℕ
owner_of s id = first_some (waiting_owner s id) (first_some (active_owner s id) (withdrawn_owner s id))

-- where the open session of this number stands
abbrev pub session_place : State → ℕ → Option ℕ
session_place s who = position (λ x. x.number == who) s.sessions

abbrev pub is_open : State → ℕ → Bool
is_open s who = is_some (session_place s who)

abbrev pub is_admin : State → ℕ → Bool
is_admin s who = list_any (λ x. x.number == who && x.admin) s.sessions

-- the list without the member at this place, and with that member changed
abbrev pub without : {X : Type 0} → List X → Option ℕ → List X
without xs None = xs
without xs (Some k) = remove xs k

abbrev pub set_by : {X : Type 0} → (X → X) → List X → ℕ → Option X → List X
set_by f xs k None = xs
set_by f xs k (Some x) = slice_set xs k (f x)

abbrev pub changed_at : {X : Type 0} → (X → X) → List X → Option ℕ → List X
changed_at f xs None = xs
changed_at f xs (Some k) = set_by f xs k (slice_get xs k)

-- the configuration that a setting asks for: the pending one, or the present one where none is pending, with the setting put in
abbrev pub pending_or_present : State → Configuration
pending_or_present s = unwrap_or (option_map (with_pending s.config) s.pending) s.config

abbrev pub target_of : State → Setting → Configuration
target_of s (MaxPriority v) = record (pending_or_present s) { max_priority = v }
target_of s (TotalMemory v) = record (pending_or_present s) { total_kb = v }
target_of s (MaxQueries v) = record (pending_or_present s) { max_queries = v }
target_of s (MaxScans v) = record (pending_or_present s) { max_scans = v }
target_of s (NonPdq v) = record (pending_or_present s) { nonpdq_kb = v }

-- the two numbers of a pool
pub record PoolSize : Type 0 where
  pub quanta : ℕ
  pub frames : ℕ

-- the pool that a setting asks for
abbrev pub pool_size_of : State → Setting → PoolSize
pool_size_of s setting = record { quanta = (target_of s setting).max_queries; frames = frames_per_quantum (target_of s setting) }

-- whether a pool comes with the setting
abbrev pub needs_pool : Setting → Bool
needs_pool (MaxPriority v) = false
needs_pool (TotalMemory v) = true
needs_pool (MaxQueries v) = true
needs_pool (MaxScans v) = false
needs_pool (NonPdq v) = false

-- MAX_PDQPRIORITY and DS_NONPDQ_QUERY_MEM change at once, the others are pending
abbrev pub changed_by : State → Setting → State
changed_by s (MaxPriority v) = record s { config = record s.config { max_priority = v } }
changed_by s (TotalMemory v) = record s { pending = Some (record { total_kb = v; max_queries = (pending_or_present s).max_queries; max_scans = (pending_or_present s).max_scans }) }
changed_by s (MaxQueries v) = record s { pending = Some (record { total_kb = (pending_or_present s).total_kb; max_queries = v; max_scans = (pending_or_present s).max_scans }) }
changed_by s (MaxScans v) = record s { pending = Some (record { total_kb = (pending_or_present s).total_kb; max_queries = (pending_or_present s).max_queries; max_scans = v }) }
changed_by s (NonPdq v) = record s { config = record s.config { nonpdq_kb = v } }

abbrev pub submitted_row : State → ℕ → ℕ → ℕ → Waiting
submitted_row s who p f = record { id = next_query s; session = who; priority = effective_priority p s.config; frags = f; overtaken = 0 }

abbrev pub collected : Active → Active
collected a = record a { collected = true }

abbrev pub flagged_at : ℕ → Active → Active
flagged_at step a = record a { flagged = Some step }

abbrev pub withdrawn_row : ℕ → Waiting → Withdrawn
withdrawn_row step w = record { id = w.id; session = w.session; by = step }

-- a query that waits is withdrawn at this step, and one that is active is flagged with it
abbrev pub withdraw : State → ℕ → ℕ → Option Waiting → State
withdraw s step place None = s
withdraw s step place (Some w) = record s { waiting = remove s.waiting place; withdrawn = s.withdrawn ++ withdrawn_row step w ∷ [] }

abbrev pub cancelled : State → ℕ → ℕ → Option ℕ → State
cancelled s step id None = record s { active = changed_at (flagged_at step) s.active (position (λ a. a.id == id) s.active) }
cancelled s step id (Some place) = withdraw s step place (slice_get s.waiting place)

-- what an accepted event changes, before it is counted as an entry and the manager settles
abbrev pub changed : State → ℕ → Event → State
changed s who (OpenSession admin) = record s { sessions = s.sessions ++ record { number = next_session s; admin = admin } ∷ []; opened = s.opened + 1 }
changed s who CloseSession = record s { sessions = without s.sessions (session_place s who) }
changed s who (Submit p f) = record s { waiting = s.waiting ++ submitted_row s who p f ∷ []; submitted = s.submitted + 1 }
changed s who (Collect id) = record s { active = changed_at collected s.active (active_place s who id); withdrawn = without s.withdrawn (withdrawn_place s who id) }
changed s who (Finish id how) = record s { active = without s.active (active_place s who id) }
changed s who (Cancel id) = cancelled s (s.entries + 1) id (position (λ w. w.id == id) s.waiting)
changed s who (Onmode setting) = changed_by (record s { changes = s.changes + 1 }) setting

-- the state after an accepted event: changed, counted, settled
abbrev pub entered : State → ℕ → Event → State
entered s who event = settle (record (changed s who event) { entries = s.entries + 1 })

-- whether so many more entries could be reserved
abbrev pub is_full_for : State → ℕ → Bool
is_full_for s count = nat_lt most_entries (reserved_entries s + count)

abbrev pub answer_to_open : State → Answer
answer_to_open s =
    if nat_le most_sessions (length s.sessions) then Refuses why.TooManySessions
    else if is_full_for s 2 then Refuses why.JournalFull
    else Entered (reply.Opened (next_session s))

abbrev pub placed_reply : State → ℕ → ℕ → ℕ → Reply
placed_reply s who p f = reply.Placed (next_query s) (effective_priority p s.config) (gate_of (entered s who (Submit p f)) who (next_query s))

abbrev pub answer_to_submit : State → ℕ → ℕ → ℕ → Answer
answer_to_submit s who p f =
    if nat_le most_waiting (length s.waiting) then Refuses why.QueueFull
    else if is_full_for s 4 then Refuses why.JournalFull
    else Entered (placed_reply s who p f)

abbrev pub granted_reply : Active → Reply
granted_reply a = reply.Granted a.quanta a.scans a.priority a.flagged

-- the answer to a collect, from where the query waits, its active row and its withdrawn row
abbrev pub answer_to_collect : State → ℕ → ℕ → Option ℕ → Option Active → Option Withdrawn → Answer
answer_to_collect s who id (Some place) active withdrawn = Waits (gate_of s who id)
answer_to_collect s who id None (Some a) withdrawn = Entered (granted_reply a)
answer_to_collect s who id None None (Some w) = Entered (reply.Cancelled w.by)
answer_to_collect s who id None None None = Refuses why.NoSuchQuery

abbrev pub active_row : State → ℕ → ℕ → Option Active
active_row s who id = option_and_then (slice_get s.active) (active_place s who id)

abbrev pub withdrawn_of : State → ℕ → ℕ → Option Withdrawn
withdrawn_of s who id = option_and_then (slice_get s.withdrawn) (withdrawn_place s who id)

-- whether the query of this number is flagged or withdrawn
abbrev pub is_flagged : State → ℕ → Bool
is_flagged s id = list_any (λ a. a.id == id && is_some a.flagged) s.active

abbrev pub is_withdrawn : State → ℕ → Bool
is_withdrawn s id = list_any (λ w. w.id == id) s.withdrawn

abbrev pub is_waiting : State → ℕ → Bool
is_waiting s id = list_any (λ w. w.id == id) s.waiting

abbrev pub may_cancel : State → ℕ → ℕ → Bool
may_cancel s by id = option_map_or (λ k. k == by) (owner_of s id) false || is_admin s by

abbrev pub answer_to_cancel : State → ℕ → ℕ → Answer
answer_to_cancel s by id =
    if not (is_some (owner_of s id)) then Refuses why.NoSuchQuery
    else if not (may_cancel s by id) then Refuses why.NotAllowed
    else if is_flagged s id || is_withdrawn s id then Refuses why.AlreadyCancelled
    else Entered (if is_waiting s id then reply.Withdrawn else reply.Flagged)

-- whether the pool that came has the numbers that the setting asks for, where it asks for one
abbrev pub has_size : PoolSize → PoolSize → Bool
has_size pool asked = pool.quanta == asked.quanta && pool.frames == asked.frames

-- whether a setting waits until no query is active
abbrev pub can_wait : Setting → Bool
can_wait (MaxPriority v) = false
can_wait (TotalMemory v) = true
can_wait (MaxQueries v) = true
can_wait (MaxScans v) = true
can_wait (NonPdq v) = false

abbrev pub changed_reply : State → ℕ → Setting → Reply
changed_reply s by setting = reply.Changed (can_wait setting && is_some (entered s by (Onmode setting)).pending)

-- the answer to a change by this session, with a pool of this size
abbrev pub answer_to_change : State → ℕ → Setting → PoolSize → Answer
answer_to_change s by setting pool =
    if not (is_admin s by) then Refuses why.NotAllowed
    else if not (is_valid (target_of s setting)) then Refuses why.BadValue
    else if needs_pool setting && not (has_size pool (pool_size_of s setting)) then Refuses (why.PoolSize (pool_size_of s setting).quanta (pool_size_of s setting).frames)
    else if is_full_for s 1 then Refuses why.JournalFull
    else Entered (changed_reply s by setting)

-- the answer to an event of this session; a change comes with the pool that it asks for
abbrev pub decide : State → ℕ → Event → Answer
decide s who (OpenSession admin) = answer_to_open s
decide s who CloseSession = Entered reply.Closed
decide s who (Submit p f) = answer_to_submit s who p f
decide s who (Collect id) = answer_to_collect s who id (waiting_place s who id) (active_row s who id) (withdrawn_of s who id)
decide s who (Finish id how) = Entered reply.Finished
decide s who (Cancel id) = answer_to_cancel s who id
decide s who (Onmode setting) = answer_to_change s who setting (pool_size_of s setting)

abbrev pub is_entered : Answer → Bool
is_entered (Entered r) = true
is_entered other = false

-- the state after an event that came to this answer: without an entry nothing changes
abbrev pub after_answer : State → ℕ → Event → Answer → State
after_answer s who event answer = if is_entered answer then entered s who event else s

abbrev pub next : State → ℕ → Event → State
next s who event = after_answer s who event (decide s who event)

-- the state after a change that came with a pool of this size
abbrev pub next_with_pool : State → ℕ → Setting → PoolSize → State
next_with_pool s by setting pool = after_answer s by (Onmode setting) (answer_to_change s by setting pool)

-- what the event's entry admitted, and what the entry before it admitted where there is none
abbrev pub admitted_after : State → ℕ → Event → List Admit → List Admit
admitted_after s who event before = if is_entered (decide s who event) then admits (changed s who event).active (next s who event).active else before
