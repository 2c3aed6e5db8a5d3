-- One phase of a run: waves until each scanner is at its end.
use Rattle.std.specs.Prelude.{◌≡◌, ℕ, ◌+◌, ◌^◌, ◌<◌, ◌≤◌, ⊤, List, length, slice_index_or, sum_by, Option, Some, None, Bool, true}
use Rattle.pdq_edge.specs.Causes.{Rose}
use Rattle.pdq_spill.specs.declared.faults.ExecFault.{ExecFault}
use Rattle.pdq_spill.specs.declared.faults.ExecFault.TheVariants.{Stopped}
use Rattle.pdq_exchange.specs.Batches.{Row}
use Rattle.pdq_exchange.specs.Exchanged.{Exchanged}
use Rattle.pdq_exchange.specs.Waves.{counted}
use Rattle.pdq_exchange.specs.Roles.{Coming}
use Rattle.pdq_exchange.specs.declared.lane.Lane.{Lane}
use Rattle.pdq_exchange.specs.declared.desk.Desk.{Desk}

-- some rows were given, scanner by scanner, and each owner absorbed its own
pub record WereSent {S O : Type 0} (left : S → Coming) (takes : O → List Row → O → Type 0) (owner : Row → ℕ) (lanes lanes_now : List (Lane S)) (desks desks_now : List (Desk O)) : Type 0 where
  pub given : List (List Row)
  pub are : Exchanged left takes owner given lanes lanes_now desks desks_now

-- the count of a lane rose by the rows that its scanner gave
pub record CountsGiven {S : Type 0} (left : S → Coming) (old new : Lane S) : Type 0 where
  pub more : ℕ
  pub gave : (left old.scanner).count ≡ more + (left new.scanner).count
  pub counts : old.scanned < 2 ^ 64 → new.scanned ≡ counted old.scanned more

-- some scanner has answered this fault
abbrev pub LaneFailed : {S : Type 0} → (S → Option ExecFault) → List (Lane S) → ExecFault → Type 0
LaneFailed {S} fault lanes cause = (i : ℕ) × (i < length lanes) × ((d : Lane S) → fault (slice_index_or lanes i d).scanner ≡ Some cause)

-- some owner has
abbrev pub DeskFailed : {O : Type 0} → (O → Option ExecFault) → List (Desk O) → ExecFault → Type 0
DeskFailed {O} fault desks cause = (j : ℕ) × (j < length desks) × ((d : Desk O) → fault (slice_index_or desks j d).owner ≡ Some cause)

-- it was told to stop
abbrev pub WasStopped : ℕ → ℕ → ℕ → ExecFault → Type 0
WasStopped told told_now last cause = Rose told told_now × (cause ≡ Stopped last)

-- some owner has stopped taking rows
abbrev pub SomeFull : {O : Type 0} → (O → Bool) → List (Desk O) → Type 0
SomeFull {O} full desks = (j : ℕ) × (j < length desks) × ((d : Desk O) → full (slice_index_or desks j d).owner ≡ true)

-- what these hold together is more than it may be, where there is a limit
abbrev pub HoldMore : {X : Type 0} → (X → ℕ) → Option ℕ → List X → Type 0
HoldMore count None xs = ⊥
HoldMore count (Some most) xs = most < sum_by count xs

-- or at most as many
abbrev pub HoldFew : {X : Type 0} → (X → ℕ) → Option ℕ → List X → Type 0
HoldFew count None xs = ⊤
HoldFew count (Some most) xs = sum_by count xs ≤ most
