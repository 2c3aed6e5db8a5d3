-- What SET and ONMODE ask for, and the pool that comes with a change.
use Rattle.std.specs.Prelude.{ℕ, ◌≡◌, Option, Some, None, if◌then◌else◌, option_map, unwrap_or}
use Rattle.pdq_frame.specs.Pools.{PoolView}
use Rattle.pdq_model.specs.declared.events.Setting.{Setting}
use Rattle.pdq_model.specs.declared.events.Setting.TheVariants.{MaxPriority, TotalMemory, MaxQueries, MaxScans, NonPdq}
use Rattle.pdq_model.specs.Configuration.{Configuration, is_valid}
use Rattle.pdq_model.specs.State.{State}
use Rattle.pdq_model.specs.declared.events.Event.TheVariants.{Onmode}
use Rattle.pdq_model.specs.StatusView.{StatusView}
use Rattle.pdq_model.specs.Step.{answer_to_change, decide, is_admin, target_of, PoolSize}
use Rattle.pdq_gate.specs.declared.changes.Change.{Change}
use Rattle.pdq_gate.specs.Changes.{pool_size, setting_of, size_for}
use Rattle.pdq_gate.specs.Showing.{change_shown}
use Rattle.pdq_sql.specs.declared.commands.Letter.{Letter}
use Rattle.pdq_sql.specs.declared.commands.Letter.TheVariants.{D, M, Q, S, N}
use Rattle.pdq_sql.specs.declared.commands.Level.{Level}
use Rattle.pdq_sql.specs.declared.commands.Level.TheVariants as level

-- the priority that SET PDQPRIORITY asks for, in percent, where DEFAULT is this
abbrev pub level_priority : ℕ → Level → ℕ
level_priority opening (level.Number n) = n
level_priority opening level.Off = 0
level_priority opening level.Low = 1
level_priority opening level.High = 100
level_priority opening level.Default = opening

-- what ONMODE sets by this letter
abbrev pub letter_setting : Letter → ℕ → Setting
letter_setting D v = MaxPriority v
letter_setting M v = TotalMemory v
letter_setting Q v = MaxQueries v
letter_setting S v = MaxScans v
letter_setting N v = NonPdq v

-- a configuration with the number that a letter of ONMODE sets
abbrev pub with_letter : Letter → ℕ → Configuration → Configuration
with_letter D v c = record c { max_priority = v }
with_letter M v c = record c { total_kb = v }
with_letter Q v c = record c { max_queries = v }
with_letter S v c = record c { max_scans = v }
with_letter N v c = record c { nonpdq_kb = v }

-- the three numbers that can be pending: those of the pending change, or the present ones where none is pending
abbrev pub pending_numbers : StatusView → ℕ × ℕ × ℕ
pending_numbers v = unwrap_or (option_map change_shown v.pending) (v.config.total_kb, v.config.max_queries, v.config.max_scans)

-- a configuration, where it is valid
abbrev pub where_valid : Configuration → Option Configuration
where_valid c = if is_valid c then Some c else None

-- the configuration that a change asks for, where it is valid
abbrev pub checked_target : State → Setting → Option Configuration
checked_target s x = where_valid (target_of s x)

-- the pool that is made for a configuration, and one without quanta where there is none
abbrev pub pool_for : Option Configuration → PoolSize
pool_for None = record { quanta = 0; frames = 1 }
pool_for (Some c) = size_for c

-- a pool has these two numbers
pub record IsOfSize (pool : PoolView) (size : PoolSize) : Type 0 where
  pub quanta : pool.home ≡ size.quanta
  pub frames : pool.frames_per_quantum ≡ size.frames

-- the pool that comes with a change by this session, which makes none where the change is refused before it is looked at
abbrev pub pool_made : State → ℕ → Setting → PoolSize
pool_made s by x = pool_for (if is_admin s by then checked_target s x else None)

-- a change by this session is answered as one that comes with the pool that it asks for
abbrev pub IsAskedFor : State → ℕ → Change → Type 0
IsAskedFor s by change = answer_to_change s by (setting_of change) (pool_size change) ≡ decide s by (Onmode (setting_of change))
