-- What is always true of the manager's lists, of its pools and of its journal.
use Rattle.std.specs.Prelude.{ℕ, ◌≡◌, ◌+◌, ◌≤◌, ⊤, List, Option, None, Some, All, map, vec_capacity}
use Rattle.pdq_model.specs.declared.rows.Pending.{Pending}
use Rattle.pdq_model.specs.declared.events.Entry.{Entry}
use Rattle.pdq_model.specs.Configuration.{Configuration, frames_per_quantum}
use Rattle.pdq_model.specs.Gates.{reserved_quanta}
use Rattle.pdq_model.specs.Soundness.{IsSound}
use Rattle.pdq_model.specs.Settling.{with_pending, IsSettled}
use Rattle.pdq_frame.specs.Pools.{PoolView}
use Rattle.pdq_gate.specs.Board.{state_of, frames_in, frames_due}
use Rattle.pdq_gate.specs.Journal.{IsHistoryOf}
use Rattle.pdq_gate.specs.declared.board.Board.{Board}

-- a pool has the quanta that this configuration asks for, all at home
pub record IsWholePool (c : Configuration) (pool : PoolView) : Type 0 where
  pub quanta : pool.home ≡ c.max_queries
  pub made : c.max_queries ≤ pool.made
  pub per_quantum : pool.frames_per_quantum ≡ frames_per_quantum c

-- the pool that is kept for a pending change is the one that the change asks for; where none is kept, the change asks for quanta as they are
abbrev pub IsKeptFor : Configuration → Option Pending → Option PoolView → Type 0
IsKeptFor c None None = ⊤
IsKeptFor c None (Some pool) = ⊥
IsKeptFor c (Some p) None = (p.total_kb ≡ c.total_kb) × (p.max_queries ≡ c.max_queries)
IsKeptFor c (Some p) (Some pool) = IsWholePool (with_pending c p) pool

pub record IsSoundBoard (b : Board) : Type 0 where
  pub model : IsSound (state_of b)
  -- the quanta in the pool and those reserved are all there are
  pub quanta : reserved_quanta (state_of b) + b.pool.home ≡ b.config.max_queries
  pub made : b.config.max_queries ≤ b.pool.made
  pub per_quantum : b.pool.frames_per_quantum ≡ frames_per_quantum b.config
  -- every waiting query has a number that was given
  pub numbers : All (λ w. w.id ≤ b.submitted) b.waiting
  -- the region of each active query stands at its place until it is collected
  pub regions : map frames_in b.regions.items ≡ map (frames_due b.pool.frames_per_quantum) b.active
  pub next_pool : IsKeptFor b.config b.pending b.next_pool
  pub region_room : 256 ≤ vec_capacity b.regions
  pub withdrawn_room : 100000 ≤ vec_capacity b.withdrawn
  pub session_room : 64 ≤ vec_capacity b.sessions
  pub admitted_room : 256 ≤ vec_capacity b.admitted

-- a manager between two calls: a board that has settled, and a journal with room for all its entries
pub record IsRestingManager (opening : Configuration) (b : Board) (history : List Entry) (room : ℕ) : Type 0 where
  pub sound : IsSoundBoard b
  pub settled : IsSettled (state_of b)
  pub history_kept : IsHistoryOf opening (state_of b) history
  pub journal_room : 400000 ≤ room
