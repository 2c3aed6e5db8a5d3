-- What the manager's lists stand for.
use Rattle.std.specs.Prelude.{ℕ, ◌*◌, List, Option, None, Some, if◌then◌else◌, sum_by, unwrap_or, option_map}
use Rattle.pdq_model.specs.declared.rows.Active.{Active}
use Rattle.pdq_model.specs.declared.events.Entry.{Entry}
use Rattle.pdq_model.specs.Configuration.{Configuration}
use Rattle.pdq_model.specs.State.{State}
use Rattle.pdq_gate.specs.ManagerView.{ManagerView}
use Rattle.pdq_frame.specs.Regions.{RegionView}
use Rattle.pdq_gate.specs.declared.board.Board.{Board}

-- the state that the lists stand for
abbrev pub state_of : Board → State
state_of b = record { config = b.config; pending = b.pending; waiting = b.waiting; active = b.active; withdrawn = b.withdrawn.items; sessions = b.sessions.items; opened = b.opened; submitted = b.submitted; changes = b.changes; entries = b.entries }

-- the frames of a region, where it stands
abbrev pub frames_in : Option RegionView → Option ℕ
frames_in region = option_map (λ r. r.frames) region

-- the frames of the region that an active query has in the manager: it has none once it is collected
abbrev pub frames_due : ℕ → Active → Option ℕ
frames_due per_quantum a = if a.collected then None else Some (a.quanta * per_quantum)

abbrev pub frames_standing : List (Option RegionView) → ℕ
frames_standing regions = sum_by (λ r. unwrap_or (frames_in r) 0) regions

-- the manager that the lists stand for
abbrev pub view_of : Configuration → Board → List Entry → ManagerView
view_of opening b history = record { opening = opening; state = state_of b; history = history; admitted = b.admitted.items; home = b.pool.home; frames_standing = frames_standing b.regions.items }
