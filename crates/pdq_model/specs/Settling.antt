-- Settling: what the manager does after each event, until no query can be admitted.
use Rattle.std.specs.Prelude.{ℕ, zero, suc, ◌≡◌, ◌+◌, List, [], ◌∷◌, ◌++◌, Option, None, Some, false, ◌==◌, nat_lt, if◌then◌else◌, length, map, drop, remove, slice_get, unwrap_or, option_map, option_and_then}
use Rattle.pdq_model.specs.declared.rows.Waiting.{Waiting}
use Rattle.pdq_model.specs.declared.rows.Active.{Active}
use Rattle.pdq_model.specs.declared.rows.Admit.{Admit}
use Rattle.pdq_model.specs.declared.rows.Pending.{Pending}
use Rattle.pdq_model.specs.Configuration.{Configuration, configuration}
use Rattle.pdq_model.specs.Shares.{quanta_for, scans_for}
use Rattle.pdq_model.specs.State.{State}
use Rattle.pdq_model.specs.Order.{head_place}
use Rattle.pdq_model.specs.Gates.{refusing_gate}

-- the query is overtaken once more where the admitted one has a greater number
abbrev pub overtaken_by : ℕ → Waiting → Waiting
overtaken_by id v = if nat_lt v.id id then record v { overtaken = v.overtaken + 1 } else v

abbrev pub overtake : ℕ → List Waiting → List Waiting
overtake id ws = map (overtaken_by id) ws

-- an admitted query has its shares by the configuration of this moment, and is neither collected nor flagged
abbrev pub admitted_row : Configuration → Waiting → Active
admitted_row c w = record { id = w.id; session = w.session; priority = w.priority; quanta = quanta_for c w.priority; scans = scans_for c w.priority w.frags; collected = false; flagged = None }

-- the query at this place is admitted, and those submitted before it are overtaken
abbrev pub admit : State → ℕ → Waiting → State
admit s place w = record s { waiting = overtake w.id (remove s.waiting place); active = s.active ++ admitted_row s.config w ∷ [] }

abbrev pub admit_if : State → ℕ → Waiting → Option State
admit_if s place w = if refusing_gate s w == 0 then Some (admit s place w) else None

-- the state after the head is admitted, where there is a head and no gate refuses it
abbrev pub admit_head : State → Option State
admit_head s = option_and_then (λ k. option_and_then (admit_if s k) (slice_get s.waiting k)) (head_place s.waiting)

-- the first state becomes the second where the head, which no gate refuses, is admitted
pub record IsAdmission (s t : State) : Type 0 where
  pub place : ℕ
  pub query : Waiting
  pub head : head_place s.waiting ≡ Some place
  pub there : slice_get s.waiting place ≡ Some query
  pub passes : refusing_gate s query ≡ 0
  pub admitted : t ≡ admit s place query

-- the first state becomes the last by admissions alone, one after another
pub data Admissions : State → State → Type 0 where
  no_more : (s : State) → Admissions s s
  first_then : (s t u : State) → IsAdmission s t → Admissions t u → Admissions s u

-- heads are admitted one after another, this many at most
abbrev pub admit_heads : ℕ → State → State
admit_heads zero s = s
admit_heads (suc k) s = unwrap_or (option_map (admit_heads k) (admit_head s)) s

-- heads are admitted until a gate refuses; each takes one from those that wait
abbrev pub admit_all : State → State
admit_all s = admit_heads (length s.waiting) s

-- the configuration with what a change asks for
abbrev pub with_pending : Configuration → Pending → Configuration
with_pending c p = configuration c.max_priority p.total_kb p.max_queries p.max_scans c.nonpdq_kb

-- a change that waits is taken where no query is active
abbrev pub take_if_idle : State → Option Pending → State
take_if_idle s None = s
take_if_idle s (Some p) = if length s.active == 0 then record s { config = with_pending s.config p; pending = None } else s

abbrev pub take_pending : State → State
take_pending s = take_if_idle s s.pending

-- a pending change is taken where it can be, and then heads are admitted until a gate refuses
unfoldable pub settle : State → State
settle s = admit_all (take_pending s)

-- no head is left that could be admitted, and where nothing is active nothing waits
pub record IsSettled (s : State) : Type 0 where
  pub heads : admit_head s ≡ None
  pub idle : length s.active ≡ 0 → s.waiting ≡ []
  pub changed : length s.active ≡ 0 → s.pending ≡ None

abbrev pub admit_of : Active → Admit
admit_of a = record { id = a.id; quanta = a.quanta; scans = a.scans }

-- what settling admitted, in order, from the active queries before and after it: they only grow, at their end
abbrev pub admits : List Active → List Active → List Admit
admits before after = map admit_of (drop (length before) after)
