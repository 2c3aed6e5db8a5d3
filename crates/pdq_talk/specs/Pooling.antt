-- The pool that a change comes with, by a status that was looked at.
use Rattle.std.specs.Prelude.{Bool, ◌&&◌, if◌then◌else◌}
use Rattle.pdq_model.specs.declared.events.Setting.{Setting}
use Rattle.pdq_model.specs.Configuration.{Configuration, is_valid}
use Rattle.pdq_model.specs.State.{State, opening_state}
use Rattle.pdq_model.specs.StatusView.{StatusView}
use Rattle.pdq_model.specs.Step.{PoolSize, pool_size_of, target_of}

-- a state with what a status shows of the configuration
abbrev pub shown_state : StatusView → State
shown_state v = record (opening_state v.config) { pending = v.pending }

-- what the status asks for with this setting put in
abbrev pub asked_in : StatusView → Setting → Configuration
asked_in v setting = target_of (shown_state v) setting

-- the two numbers of the pool, for an administrator or a user
abbrev pub size_made : Bool → StatusView → Setting → PoolSize
size_made admin v setting =
    if admin && is_valid (asked_in v setting) then pool_size_of (shown_state v) setting else record { quanta = 0; frames = 1 }
