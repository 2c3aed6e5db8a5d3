-- The gates that a query passes before it is admitted. Their names and numbers are those of the Informix guide; the order in which they are asked is our own.
use Rattle.std.specs.Prelude.{ℕ, ◌≡◌, ◌+◌, ◌<◌, ◌≤◌, Option, None, false, ◌&&◌, ◌==◌, nat_lt, nat_le, if◌then◌else◌, is_some, length, position, slice_get, sum_by, unwrap_or, option_map, option_and_then}
use Rattle.std.specs.Option.{option_map_or}
use Rattle.pdq_model.specs.declared.rows.Waiting.{Waiting}
use Rattle.pdq_model.specs.Shares.{quanta_for, scans_for}
use Rattle.pdq_model.specs.State.{State}
use Rattle.pdq_model.specs.Order.{head_place}

-- the quanta and the scan threads that are reserved for active queries
abbrev pub reserved_quanta : State → ℕ
reserved_quanta s = sum_by (λ a. a.quanta) s.active

abbrev pub scans_in_use : State → ℕ
scans_in_use s = sum_by (λ a. a.scans) s.active

-- the first gate that refuses this query as the head, and 0 where none does: 5 Reinit, 4 Max Queries, 1 Memory, 2 Scans
unfoldable pub refusing_gate : State → Waiting → ℕ
refusing_gate s w =
    if is_some s.pending then 5
    else if nat_le s.config.max_queries (length s.active) then 4
    else if nat_lt s.config.max_queries (reserved_quanta s + quanta_for s.config w.priority) then 1
    else if nat_lt s.config.max_scans (scans_in_use s + scans_for s.config w.priority w.frags) then 2
    else 0

-- no gate refuses it as the head
pub record CanBeAdmitted (s : State) (w : Waiting) : Type 0 where
  pub settled : s.pending ≡ None
  pub queries : length s.active < s.config.max_queries
  pub quanta : reserved_quanta s + quanta_for s.config w.priority ≤ s.config.max_queries
  pub scans : scans_in_use s + scans_for s.config w.priority w.frags ≤ s.config.max_scans

-- the gate at which the query at this place stands: the head at the gate that refuses it, another at 5 Reinit while a change is pending, else at 3 Priority
abbrev pub gate_at : State → ℕ → Waiting → ℕ
gate_at s place w =
    if option_map_or (λ k. k == place) (head_place s.waiting) false then refusing_gate s w
    else if is_some s.pending then 5
    else 3

-- where the query of this number and session waits
abbrev pub waiting_place : State → ℕ → ℕ → Option ℕ
waiting_place s who id = position (λ w. w.id == id && w.session == who) s.waiting

-- the gate at which the query of this number and session stands, and 0 where it does not wait
abbrev pub gate_of : State → ℕ → ℕ → ℕ
gate_of s who id = unwrap_or (option_and_then (λ k. option_map (gate_at s k) (slice_get s.waiting k)) (waiting_place s who id)) 0
