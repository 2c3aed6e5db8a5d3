-- A query that runs, watched by its session.
use Rattle.std.specs.Prelude.{ℕ, ◌≡◌, ◌≤◌}
use Rattle.atomic_table.specs.Seated.{TableId}
use Rattle.pdq_office.specs.PassValue.{PassValue}
use Rattle.pdq_office.specs.Passes.{lock_at, known, IsOpen, IsHeld, Follows}
use Rattle.pdq_office.specs.declared.pass.Held.{Held}
use Rattle.pdq_model.specs.Given.{WasCancelledAt}

pub record WatchView : Type 0 where
  pub office : TableId
  pub pass : PassValue
  pub held : Held
  pub asked : ℕ
  pub told : ℕ
  pub last : ℕ

-- the pass is of this lock and has the query, and the step that was told last is the place of a Cancel entry of the query
pub record IsWatching (office : TableId) (pass : PassValue) (held : Held) (told last : ℕ) : Type 0 where
  pub lock : lock_at pass ≡ office
  pub opens : IsOpen pass
  pub has : IsHeld pass held
  pub right : 1 ≤ told → WasCancelledAt (known pass).seen last held.id

-- the same watch at a later moment
pub record Watches (first then : WatchView) : Type 0 where
  pub office : then.office ≡ first.office
  pub held : then.held ≡ first.held
  pub pass : Follows first.pass then.pass
