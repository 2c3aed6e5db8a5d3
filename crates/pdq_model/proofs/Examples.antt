-- Worked examples, computed from the definitions.
use Rattle.std.proofs.Math.ListN.{replicate}
use Rattle.std.specs.Prelude.{ℕ, zero, suc, ◌≡◌, ◌+◌, List, [], ◌∷◌, ◌++◌, None, Some, true, false, refl, length, map}
use Rattle.pdq_model.specs.declared.rows.Admit.{Admit}
use Rattle.pdq_model.specs.declared.rows.Waiting.{Waiting}
use Rattle.pdq_model.specs.declared.events.Event.{Event}
use Rattle.pdq_model.specs.declared.events.Event.TheVariants.{OpenSession, CloseSession, Submit, Collect, Finish, Cancel, Onmode}
use Rattle.pdq_model.specs.declared.events.Setting.TheVariants.{MaxPriority, TotalMemory, MaxQueries, MaxScans, NonPdq}
use Rattle.pdq_model.specs.declared.events.How.TheVariants.{Done, Stopped}
use Rattle.pdq_model.specs.declared.events.Reply.{Reply}
use Rattle.pdq_model.specs.declared.events.Reply.TheVariants as reply
use Rattle.pdq_model.specs.declared.events.Why.{Why}
use Rattle.pdq_model.specs.declared.events.Why.TheVariants.{JournalFull, NotAllowed, NoSuchQuery, BadValue, AlreadyCancelled, PoolSize, QueueFull, TooManySessions}
use Rattle.pdq_model.specs.declared.events.Answer.{Answer}
use Rattle.pdq_model.specs.declared.events.Answer.TheVariants.{Entered, Waits, Refuses}
use Rattle.pdq_model.specs.History.{IsLegal}
use Rattle.pdq_model.specs.declared.events.Entry.{Entry}
use Rattle.std.proofs.Common.{arith}
use Rattle.pdq_model.specs.Configuration.{Configuration, configuration, frames_per_quantum, quantum_kb, unused_kb}
use Rattle.pdq_model.specs.State.{State, opening_state}
use Rattle.pdq_model.specs.Order.{head_place}
use Rattle.pdq_model.specs.Gates.{refusing_gate, reserved_quanta, scans_in_use}
use Rattle.pdq_model.specs.Settling.{settle}
use Rattle.pdq_model.specs.Step.{decide, next, admitted_after, answer_to_change, next_with_pool}

-- an event of a session
pub record Call : Type 0 where
  pub session : ℕ
  pub event : Event

-- what a call is answered, and what its entry admitted
pub record Seen : Type 0 where
  pub answer : Answer
  pub admitted : List Admit

-- the end: how many entries there are, what is reserved and in use, and how many queries wait
pub record End : Type 0 where
  pub step : ℕ
  pub reserved : ℕ
  pub scans : ℕ
  pub waiting : ℕ

abbrev pub seen_from : State → List Call → List Seen
seen_from s [] = []
seen_from s (c ∷ calls) = record { answer = decide s c.session c.event; admitted = admitted_after s c.session c.event [] } ∷ seen_from (next s c.session c.event) calls

abbrev pub state_from : State → List Call → State
state_from s [] = s
state_from s (c ∷ calls) = state_from (next s c.session c.event) calls

-- an administrator has opened session 1
abbrev pub begun : Configuration → State
begun c = next (opening_state c) 1 (OpenSession true)

abbrev pub by_first : Event → Call
by_first event = record { session = 1; event = event }

-- what the events of session 1 are answered, and how they end
abbrev pub seen : Configuration → List Event → List Seen
seen c events = seen_from (begun c) (map by_first events)

abbrev pub state_of : Configuration → List Event → State
state_of c events = state_from (begun c) (map by_first events)

abbrev pub end_of : State → End
end_of s = record { step = s.entries; reserved = reserved_quanta s; scans = scans_in_use s; waiting = length s.waiting }

abbrev pub the_end : ℕ → ℕ → ℕ → ℕ → End
the_end step reserved scans waiting = record { step = step; reserved = reserved; scans = scans; waiting = waiting }

abbrev pub usual : Configuration
usual = configuration 100 4000 10 10 128

abbrev pub entered : Reply → List Admit → Seen
entered r admitted = record { answer = Entered r; admitted = admitted }

abbrev pub placed : ℕ → ℕ → ℕ → List Admit → Seen
placed id priority gate admitted = entered (reply.Placed id priority gate) admitted

abbrev pub refused : Why → Seen
refused reason = record { answer = Refuses reason; admitted = [] }

abbrev pub grant : ℕ → ℕ → ℕ → Admit
grant id quanta scans = record { id = id; quanta = quanta; scans = scans }

abbrev one_grant_events : List Event
one_grant_events = Submit 50 4 ∷ []

one_grant : seen usual one_grant_events ≡
    placed 1 50 0 (grant 1 5 4 ∷ [])
    ∷ []
unfolding settle refusing_gate head_place
one_grant = refl

one_grant_ends : end_of (state_of usual one_grant_events) ≡ the_end 2 5 4 0
unfolding settle refusing_gate head_place
one_grant_ends = refl

abbrev second_waits_for_memory_events : List Event
second_waits_for_memory_events = Submit 100 1 ∷ Submit 1 1 ∷ []

second_waits_for_memory : seen usual second_waits_for_memory_events ≡
    placed 1 100 0 (grant 1 10 1 ∷ [])
    ∷ placed 2 1 1 []
    ∷ []
unfolding settle refusing_gate head_place
second_waits_for_memory = refl

second_waits_for_memory_ends : end_of (state_of usual second_waits_for_memory_events) ≡ the_end 3 10 1 1
unfolding settle refusing_gate head_place
second_waits_for_memory_ends = refl

abbrev quantum_rounds_down_events : List Event
quantum_rounds_down_events = Submit 50 1 ∷ []

quantum_rounds_down : seen (configuration 100 10000 7 10 128) quantum_rounds_down_events ≡
    placed 1 50 0 (grant 1 3 1 ∷ [])
    ∷ []
unfolding settle refusing_gate head_place
quantum_rounds_down = refl

quantum_rounds_down_ends : end_of (state_of (configuration 100 10000 7 10 128) quantum_rounds_down_events) ≡ the_end 2 3 1 0
unfolding settle refusing_gate head_place
quantum_rounds_down_ends = refl

-- a quantum of 357 frames, 1,428 KB, and a rest of 4 KB
quantum_rounds_down_sizes : (frames_per_quantum (configuration 100 10000 7 10 128) ≡ 357) × (quantum_kb (configuration 100 10000 7 10 128) ≡ 1428) × (unused_kb (configuration 100 10000 7 10 128) ≡ 4)
quantum_rounds_down_sizes = (refl, refl, refl)

abbrev smallest_share_and_priority_zero_events : List Event
smallest_share_and_priority_zero_events = Submit 25 8 ∷ Submit 3 2 ∷ Submit 0 4 ∷ []

smallest_share_and_priority_zero : seen (configuration 100 65536 16 1048576 128) smallest_share_and_priority_zero_events ≡
    placed 1 25 0 (grant 1 4 8 ∷ [])
    ∷ placed 2 3 0 (grant 2 1 2 ∷ [])
    ∷ placed 3 0 0 (grant 3 1 1 ∷ [])
    ∷ []
unfolding settle refusing_gate head_place
smallest_share_and_priority_zero = refl

smallest_share_and_priority_zero_ends : end_of (state_of (configuration 100 65536 16 1048576 128) smallest_share_and_priority_zero_events) ≡ the_end 4 6 11 0
unfolding settle refusing_gate head_place
smallest_share_and_priority_zero_ends = refl

-- 1,000 KB are three quanta of 400 KB; a quarter of ten quanta is two
abbrev nonpdq_memory_changes_at_once_events : List Event
nonpdq_memory_changes_at_once_events = Submit 0 4 ∷ Onmode (NonPdq 1000) ∷ Submit 0 4 ∷ Onmode (NonPdq 127) ∷ []

nonpdq_memory_changes_at_once : seen usual nonpdq_memory_changes_at_once_events ≡
    placed 1 0 0 (grant 1 1 1 ∷ [])
    ∷ entered (reply.Changed false) []
    ∷ placed 2 0 0 (grant 2 2 1 ∷ [])
    ∷ refused BadValue
    ∷ []
unfolding settle refusing_gate head_place
nonpdq_memory_changes_at_once = refl

nonpdq_memory_changes_at_once_ends : end_of (state_of usual nonpdq_memory_changes_at_once_events) ≡ the_end 4 3 2 0
unfolding settle refusing_gate head_place
nonpdq_memory_changes_at_once_ends = refl

-- a head that asks for less memory than before is admitted by the change itself
abbrev less_memory_admits_events : List Event
less_memory_admits_events = Onmode (NonPdq 1000) ∷ Submit 90 1 ∷ Submit 0 1 ∷ Onmode (NonPdq 128) ∷ []

less_memory_admits : seen usual less_memory_admits_events ≡
    entered (reply.Changed false) []
    ∷ placed 1 90 0 (grant 1 9 1 ∷ [])
    ∷ placed 2 0 1 []
    ∷ entered (reply.Changed false) (grant 2 1 1 ∷ [])
    ∷ []
unfolding settle refusing_gate head_place
less_memory_admits = refl

less_memory_admits_ends : end_of (state_of usual less_memory_admits_events) ≡ the_end 5 10 2 0
unfolding settle refusing_gate head_place
less_memory_admits_ends = refl

abbrev priority_zero_goes_last_events : List Event
priority_zero_goes_last_events = Submit 100 1 ∷ Submit 0 1 ∷ Submit 1 1 ∷ Collect 1 ∷ Finish 1 Done ∷ []

priority_zero_goes_last : seen usual priority_zero_goes_last_events ≡
    placed 1 100 0 (grant 1 10 1 ∷ [])
    ∷ placed 2 0 1 []
    ∷ placed 3 1 1 []
    ∷ entered (reply.Granted 10 1 100 None) []
    ∷ entered reply.Finished (grant 3 1 1 ∷ grant 2 1 1 ∷ [])
    ∷ []
unfolding settle refusing_gate head_place
priority_zero_goes_last = refl

priority_zero_goes_last_ends : end_of (state_of usual priority_zero_goes_last_events) ≡ the_end 6 2 2 0
unfolding settle refusing_gate head_place
priority_zero_goes_last_ends = refl

abbrev priority_limit_acts_on_later_queries_events : List Event
priority_limit_acts_on_later_queries_events = Submit 100 1 ∷ Collect 1 ∷ Finish 1 Done ∷ Onmode (MaxPriority 50) ∷ Submit 100 1 ∷ []

priority_limit_acts_on_later_queries : seen usual priority_limit_acts_on_later_queries_events ≡
    placed 1 100 0 (grant 1 10 1 ∷ [])
    ∷ entered (reply.Granted 10 1 100 None) []
    ∷ entered reply.Finished []
    ∷ entered (reply.Changed false) []
    ∷ placed 2 50 0 (grant 2 5 1 ∷ [])
    ∷ []
unfolding settle refusing_gate head_place
priority_limit_acts_on_later_queries = refl

priority_limit_acts_on_later_queries_ends : end_of (state_of usual priority_limit_acts_on_later_queries_events) ≡ the_end 6 5 1 0
unfolding settle refusing_gate head_place
priority_limit_acts_on_later_queries_ends = refl

abbrev head_blocks_those_behind_events : List Event
head_blocks_those_behind_events = Submit 60 1 ∷ Submit 50 1 ∷ Submit 10 1 ∷ []

head_blocks_those_behind : seen usual head_blocks_those_behind_events ≡
    placed 1 60 0 (grant 1 6 1 ∷ [])
    ∷ placed 2 50 1 []
    ∷ placed 3 10 3 []
    ∷ []
unfolding settle refusing_gate head_place
head_blocks_those_behind = refl

head_blocks_those_behind_ends : end_of (state_of usual head_blocks_those_behind_events) ≡ the_end 4 6 1 2
unfolding settle refusing_gate head_place
head_blocks_those_behind_ends = refl

abbrev one_completion_admits_two_events : List Event
one_completion_admits_two_events = Submit 100 1 ∷ Submit 50 1 ∷ Submit 40 1 ∷ Collect 1 ∷ Finish 1 Done ∷ []

one_completion_admits_two : seen usual one_completion_admits_two_events ≡
    placed 1 100 0 (grant 1 10 1 ∷ [])
    ∷ placed 2 50 1 []
    ∷ placed 3 40 3 []
    ∷ entered (reply.Granted 10 1 100 None) []
    ∷ entered reply.Finished (grant 2 5 1 ∷ grant 3 4 1 ∷ [])
    ∷ []
unfolding settle refusing_gate head_place
one_completion_admits_two = refl

one_completion_admits_two_ends : end_of (state_of usual one_completion_admits_two_events) ≡ the_end 6 9 2 0
unfolding settle refusing_gate head_place
one_completion_admits_two_ends = refl

abbrev scan_threads_run_out_events : List Event
scan_threads_run_out_events = Submit 19 16 ∷ Submit 19 16 ∷ Submit 19 16 ∷ Submit 19 16 ∷ Submit 19 16 ∷ Submit 19 16 ∷ Submit 19 16 ∷ []

scan_threads_run_out : seen (configuration 100 4000 10 100 128) scan_threads_run_out_events ≡
    placed 1 19 0 (grant 1 1 16 ∷ [])
    ∷ placed 2 19 0 (grant 2 1 16 ∷ [])
    ∷ placed 3 19 0 (grant 3 1 16 ∷ [])
    ∷ placed 4 19 0 (grant 4 1 16 ∷ [])
    ∷ placed 5 19 0 (grant 5 1 16 ∷ [])
    ∷ placed 6 19 0 (grant 6 1 16 ∷ [])
    ∷ placed 7 19 2 []
    ∷ []
unfolding settle refusing_gate head_place
scan_threads_run_out = refl

scan_threads_run_out_ends : end_of (state_of (configuration 100 4000 10 100 128) scan_threads_run_out_events) ≡ the_end 8 6 96 1
unfolding settle refusing_gate head_place
scan_threads_run_out_ends = refl

abbrev fewer_queries_once_drained_events : List Event
fewer_queries_once_drained_events = Submit 20 1 ∷ Submit 20 1 ∷ Submit 20 1 ∷ Onmode (MaxQueries 2) ∷ Submit 20 1 ∷ Submit 20 1 ∷ Collect 1 ∷ Finish 1 Done ∷ Collect 2 ∷ Finish 2 Done ∷ Collect 3 ∷ Finish 3 Done ∷ []

fewer_queries_once_drained : seen usual fewer_queries_once_drained_events ≡
    placed 1 20 0 (grant 1 2 1 ∷ [])
    ∷ placed 2 20 0 (grant 2 2 1 ∷ [])
    ∷ placed 3 20 0 (grant 3 2 1 ∷ [])
    ∷ entered (reply.Changed true) []
    ∷ placed 4 20 5 []
    ∷ placed 5 20 5 []
    ∷ entered (reply.Granted 2 1 20 None) []
    ∷ entered reply.Finished []
    ∷ entered (reply.Granted 2 1 20 None) []
    ∷ entered reply.Finished []
    ∷ entered (reply.Granted 2 1 20 None) []
    ∷ entered reply.Finished (grant 4 1 1 ∷ grant 5 1 1 ∷ [])
    ∷ []
unfolding settle refusing_gate head_place
fewer_queries_once_drained = refl

fewer_queries_once_drained_ends : end_of (state_of usual fewer_queries_once_drained_events) ≡ the_end 13 2 2 0
unfolding settle refusing_gate head_place
fewer_queries_once_drained_ends = refl

abbrev two_pending_parts_one_swap_events : List Event
two_pending_parts_one_swap_events = Submit 20 1 ∷ Onmode (TotalMemory 8000) ∷ Onmode (MaxQueries 4) ∷ Collect 1 ∷ Finish 1 Done ∷ Submit 50 1 ∷ []

two_pending_parts_one_swap : seen usual two_pending_parts_one_swap_events ≡
    placed 1 20 0 (grant 1 2 1 ∷ [])
    ∷ entered (reply.Changed true) []
    ∷ entered (reply.Changed true) []
    ∷ entered (reply.Granted 2 1 20 None) []
    ∷ entered reply.Finished []
    ∷ placed 2 50 0 (grant 2 2 1 ∷ [])
    ∷ []
unfolding settle refusing_gate head_place
two_pending_parts_one_swap = refl

two_pending_parts_one_swap_ends : end_of (state_of usual two_pending_parts_one_swap_events) ≡ the_end 7 2 1 0
unfolding settle refusing_gate head_place
two_pending_parts_one_swap_ends = refl

abbrev cancel_waiting_and_active_events : List Event
cancel_waiting_and_active_events = Submit 100 1 ∷ Submit 50 1 ∷ Collect 2 ∷ Cancel 2 ∷ Cancel 2 ∷ Cancel 1 ∷ Cancel 1 ∷ Collect 1 ∷ Finish 1 Stopped ∷ Cancel 1 ∷ Collect 2 ∷ []

cancel_waiting_and_active : seen usual cancel_waiting_and_active_events ≡
    placed 1 100 0 (grant 1 10 1 ∷ [])
    ∷ placed 2 50 1 []
    ∷ record { answer = Waits 1; admitted = [] }
    ∷ entered reply.Withdrawn []
    ∷ refused AlreadyCancelled
    ∷ entered reply.Flagged []
    ∷ refused AlreadyCancelled
    ∷ entered (reply.Granted 10 1 100 (Some 5)) []
    ∷ entered reply.Finished []
    ∷ refused NoSuchQuery
    ∷ entered (reply.Cancelled 4) []
    ∷ []
unfolding settle refusing_gate head_place
cancel_waiting_and_active = refl

cancel_waiting_and_active_ends : end_of (state_of usual cancel_waiting_and_active_events) ≡ the_end 8 0 0 0
unfolding settle refusing_gate head_place
cancel_waiting_and_active_ends = refl

-- query 1 and then each later one of priority 100 overtakes query 2, and is done with
abbrev overtaking_events : ℕ → ℕ → ℕ → List Event
overtaking_events zero active latest = []
overtaking_events (suc k) active latest = Submit 100 1 ∷ Collect active ∷ Finish active Done ∷ overtaking_events k (latest + 1) (latest + 1)

abbrev overtaken_thirty_two_times_events : List Event
overtaken_thirty_two_times_events = Submit 100 1 ∷ Submit 1 1 ∷ overtaking_events 32 1 2

overtaken_thirty_two_times : seen_from (state_of usual overtaken_thirty_two_times_events) (map by_first (Submit 100 1 ∷ Collect 34 ∷ Finish 34 Done ∷ [])) ≡
    placed 35 100 3 []
    ∷ entered (reply.Granted 10 1 100 None) []
    ∷ entered reply.Finished (grant 2 1 1 ∷ [])
    ∷ []
unfolding settle refusing_gate head_place
overtaken_thirty_two_times = refl

overtaken_thirty_two_times_ends : end_of (state_of usual (overtaken_thirty_two_times_events ++ Submit 100 1 ∷ Collect 34 ∷ Finish 34 Done ∷ [])) ≡ the_end 102 1 1 1
unfolding settle refusing_gate head_place
overtaken_thirty_two_times_ends = refl

abbrev by : ℕ → Event → Call
by session event = record { session = session; event = event }

abbrev users_and_administrators_calls : List Call
users_and_administrators_calls = by 1 (Submit 10 1) ∷ by 2 (OpenSession false) ∷ by 2 (Onmode (MaxPriority 10)) ∷ by 2 (Cancel 1) ∷ by 1 (Onmode (MaxQueries 40)) ∷ by 2 CloseSession ∷ []

users_and_administrators : seen_from (begun usual) users_and_administrators_calls ≡
    placed 1 10 0 (grant 1 1 1 ∷ [])
    ∷ entered (reply.Opened 2) []
    ∷ refused NotAllowed
    ∷ refused NotAllowed
    ∷ refused BadValue
    ∷ entered reply.Closed []
    ∷ []
unfolding settle refusing_gate head_place
users_and_administrators = refl

users_and_administrators_ends : end_of (state_from (begun usual) users_and_administrators_calls) ≡ the_end 4 1 1 0
unfolding settle refusing_gate head_place
users_and_administrators_ends = refl

-- users cancel their own queries and not another's, which is refused before it is asked whether it is cancelled already; an administrator cancels any
abbrev users_cancel_their_own_calls : List Call
users_cancel_their_own_calls = by 2 (OpenSession false) ∷ by 3 (OpenSession false) ∷ by 2 (Submit 100 1) ∷ by 3 (Submit 50 1) ∷ by 2 (Cancel 2) ∷ by 3 (Cancel 2) ∷ by 3 (Cancel 1) ∷ by 2 (Cancel 1) ∷ by 3 (Cancel 1) ∷ by 3 (Cancel 9) ∷ by 1 (Cancel 1) ∷ by 3 (Submit 50 1) ∷ by 1 (Cancel 3) ∷ by 3 (Collect 3) ∷ by 2 (Collect 1) ∷ []

users_cancel_their_own : seen_from (begun usual) users_cancel_their_own_calls ≡
    entered (reply.Opened 2) []
    ∷ entered (reply.Opened 3) []
    ∷ placed 1 100 0 (grant 1 10 1 ∷ [])
    ∷ placed 2 50 1 []
    ∷ refused NotAllowed
    ∷ entered reply.Withdrawn []
    ∷ refused NotAllowed
    ∷ entered reply.Flagged []
    ∷ refused NotAllowed
    ∷ refused NoSuchQuery
    ∷ refused AlreadyCancelled
    ∷ placed 3 50 1 []
    ∷ entered reply.Withdrawn []
    ∷ entered (reply.Cancelled 9) []
    ∷ entered (reply.Granted 10 1 100 (Some 7)) []
    ∷ []
unfolding settle refusing_gate head_place
users_cancel_their_own = refl

-- a state whose journal can reserve no entry more
abbrev with_full_journal : State → State
with_full_journal s = record s { changes = 400000 }

abbrev with_a_user : State
with_a_user = next (begun usual) 2 (OpenSession false)

-- of two causes of refusal the first in order is told: a change by a user, a value that is not valid, a pool of the wrong size, a full journal
change_refused_for_the_first_cause :
    (answer_to_change (with_full_journal with_a_user) 2 (MaxQueries 0) (record { quanta = 1; frames = 1 }) ≡ Refuses NotAllowed)
    × (answer_to_change (with_full_journal with_a_user) 1 (MaxQueries 0) (record { quanta = 1; frames = 1 }) ≡ Refuses BadValue)
    × (answer_to_change (with_full_journal with_a_user) 1 (MaxQueries 5) (record { quanta = 1; frames = 1 }) ≡ Refuses (PoolSize 5 200))
    × (answer_to_change (with_full_journal with_a_user) 1 (MaxQueries 5) (record { quanta = 5; frames = 200 }) ≡ Refuses JournalFull)
    × (answer_to_change (with_full_journal with_a_user) 1 (NonPdq 262145) (record { quanta = 1; frames = 1 }) ≡ Refuses BadValue)
    × (answer_to_change (with_full_journal with_a_user) 1 (NonPdq 262144) (record { quanta = 1; frames = 1 }) ≡ Refuses JournalFull)
unfolding settle refusing_gate head_place
change_refused_for_the_first_cause = (refl, refl, refl, refl, refl, refl)

abbrev waiting_query : Waiting
waiting_query = record { id = 1; session = 1; priority = 50; frags = 1; overtaken = 0 }

-- a full queue is told before a full journal, and so are 64 open sessions
full_queue_is_told_first :
    (decide (with_full_journal (record (begun usual) { waiting = replicate 1024 waiting_query })) 1 (Submit 50 1) ≡ Refuses QueueFull)
    × (decide (with_full_journal (begun usual)) 1 (Submit 50 1) ≡ Refuses JournalFull)
    × (decide (with_full_journal (record (begun usual) { sessions = replicate 64 (record { number = 1; admin = false }) })) 65 (OpenSession false) ≡ Refuses TooManySessions)
    × (decide (with_full_journal (begun usual)) 65 (OpenSession false) ≡ Refuses JournalFull)
unfolding settle refusing_gate head_place
full_queue_is_told_first = (refl, refl, refl, refl)

-- where several gates refuse the head, the first in order does: a change that is pending, too many queries, memory, scan threads
abbrev gates_in_order_events : List Event
gates_in_order_events = Submit 50 1 ∷ Submit 100 1 ∷ Collect 2 ∷ Onmode (MaxScans 5) ∷ Collect 2 ∷ []

memory_is_asked_before_scans : seen (configuration 100 256 2 1 128) gates_in_order_events ≡
    placed 1 50 0 (grant 1 1 1 ∷ [])
    ∷ placed 2 100 1 []
    ∷ record { answer = Waits 1; admitted = [] }
    ∷ entered (reply.Changed true) []
    ∷ record { answer = Waits 5; admitted = [] }
    ∷ []
unfolding settle refusing_gate head_place
memory_is_asked_before_scans = refl

queries_are_asked_before_memory : seen (configuration 100 128 1 1 128) gates_in_order_events ≡
    placed 1 50 0 (grant 1 1 1 ∷ [])
    ∷ placed 2 100 4 []
    ∷ record { answer = Waits 4; admitted = [] }
    ∷ entered (reply.Changed true) []
    ∷ record { answer = Waits 5; admitted = [] }
    ∷ []
unfolding settle refusing_gate head_place
queries_are_asked_before_memory = refl

scans_are_asked_last : seen (configuration 100 256 2 1 128) (Submit 50 1 ∷ Submit 50 1 ∷ []) ≡
    placed 1 50 0 (grant 1 1 1 ∷ [])
    ∷ placed 2 50 2 []
    ∷ []
unfolding settle refusing_gate head_place
scans_are_asked_last = refl

pool_of_the_wrong_size : answer_to_change (begun usual) 1 (TotalMemory 8000) (record { quanta = 10; frames = 100 }) ≡ Refuses (PoolSize 10 200)
unfolding settle refusing_gate head_place
pool_of_the_wrong_size = refl

pool_of_the_wrong_size_changes_nothing : next_with_pool (begun usual) 1 (TotalMemory 8000) (record { quanta = 10; frames = 100 }) ≡ begun usual
unfolding settle refusing_gate head_place
pool_of_the_wrong_size_changes_nothing = refl

pool_of_the_right_size : answer_to_change (begun usual) 1 (TotalMemory 8000) (record { quanta = 10; frames = 200 }) ≡ Entered (reply.Changed false)
unfolding settle refusing_gate head_place
pool_of_the_right_size = refl

pool_of_the_right_size_is_taken : (next_with_pool (begun usual) 1 (TotalMemory 8000) (record { quanta = 10; frames = 200 })).config ≡ configuration 100 8000 10 10 128
unfolding settle refusing_gate head_place
pool_of_the_right_size_is_taken = refl

abbrev entry : Event → Reply → Entry
entry event r = record { session = 1; event = event; reply = r }

-- one query from its submission to its end
abbrev one_query : List Entry
one_query = entry (OpenSession true) (reply.Opened 1) ∷ entry (Submit 50 4) (reply.Placed 1 50 0) ∷ entry (Collect 1) (reply.Granted 5 4 50 None) ∷ entry (Finish 1 Done) reply.Finished ∷ entry CloseSession reply.Closed ∷ []

one_query_is_legal : IsLegal usual one_query
unfolding settle refusing_gate head_place
one_query_is_legal = (refl, refl, (record { session = refl; priority = omega arith; some_frags = omega arith; frags = omega arith }, refl, (refl, refl, (refl, refl, (record { session = refl; idle = refl }, refl, tt)))))

-- with another reply it is not: the query is granted five quanta
another_reply_is_not : decide (state_from (begun usual) (map by_first (Submit 50 4 ∷ []))) 1 (Collect 1) ≡ Entered (reply.Granted 6 4 50 None) → ⊥
unfolding settle refusing_gate head_place
another_reply_is_not e = cc
