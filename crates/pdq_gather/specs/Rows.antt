-- The rows that lanes give, and those that are kept of them.
use Rattle.std.specs.Prelude.{◌≡◌, ℕ, ◌<◌, ◌≤◌, List, flat_map, length, slice_index_or, [], Some, None, false, IsPermutation}
use Rattle.pdq_exchange.specs.Batches.{Row}
use Rattle.pdq_exchange.specs.Roles.{Coming}
use Rattle.pdq_exchange.specs.declared.lane.Lane.{Lane}
use Rattle.pdq_exchange.specs.declared.desk.Desk.{Desk}
use Rattle.pdq_eval.specs.Owners.{gathered}
use Rattle.pdq_owner.specs.Collectors.{CollectorView}
use Rattle.pdq_owner.specs.Keepers.{KeptView}

-- all lanes tell the rows to come, which are these in some order
pub record Comes {S : Type 0} (left : S → Coming) (lanes : List (Lane S)) (rows : List Row) : Type 0 where
  pub rows_of : ℕ → List Row
  pub told : (i : ℕ) (d : Lane S) → i < length lanes → (left (slice_index_or lanes i d).scanner).rows ≡ Some (rows_of i)
  pub are : IsPermutation rows (gathered (length lanes) rows_of)

-- these hold all the rows together, which are not too many
pub record Collected (rows : List Row) (kept : List KeptView) : Type 0 where
  pub all : IsPermutation rows (flat_map (λ k. k.rows) kept)
  pub few : length rows ≤ 20000000

-- an owner that holds no row, and may hold one more than there may be
pub record IsFreshDesk (width : ℕ) (desk : Desk CollectorView) : Type 0 where
  pub batch : desk.batch.width ≡ width
  pub width_is : desk.owner.out.width ≡ width
  pub rows : desk.owner.out.rows ≡ []
  pub most : desk.owner.out.most ≡ Some 20000001
  pub full : desk.owner.full ≡ false
  pub fault : desk.owner.fault ≡ None
