-- Groupers over benches, and the benches afterwards.
use Rattle.std.specs.Prelude.{◌≡◌, ℕ, ◌+◌, ◌<◌, ◌≤◌, List, [], length, slice_index_or, IsPermutation}
use Rattle.std.specs.List.{sum_by}
use Rattle.pdq_spill.specs.Blocks.{blocks_beyond}
use Rattle.pdq_spill.specs.Faults.{IsOfStore}
use Rattle.pdq_spill.specs.declared.bench.Bench.{Bench}
use Rattle.pdq_spill.specs.declared.faults.ExecFault.{ExecFault}
use Rattle.pdq_exchange.specs.Batches.{Row}
use Rattle.pdq_group.specs.declared.shape.Fold.{Fold}
use Rattle.pdq_group.specs.Groups.{keys_of}
use Rattle.pdq_group.specs.Groupers.{GrouperView, Took}
use Rattle.pdq_group.specs.Tables.{group_width}
use Rattle.pdq_eval.specs.Overflow.{rows_in_frames}

-- a grouper of these keys and folds that took no row
pub record IsNew (keys : ℕ) (folds : List Fold) (g : GrouperView) : Type 0 where
  pub keys_are : g.table.keys ≡ keys
  pub folds_are : g.table.folds ≡ folds
  pub none : Took g []

-- memory was wanting, or the store of one of these benches failed
abbrev pub BenchFailed : {S : Type 0} → (S → ℕ) → List (Bench S) → List (Bench S) → ExecFault → Type 0
BenchFailed {S} faults old new cause = (j : ℕ) × (j < length old) × ((a b : Bench S) → IsOfStore cause (faults (slice_index_or old j a).store) (faults (slice_index_or new j b).store))

-- the blocks that were put are at least those of the rows' keys that do not fit into all frames together
pub record TookEnough {S : Type 0} (puts : S → ℕ) (keys : ℕ) (folds : List Fold) (rows : List Row) (old new : List (Bench S)) : Type 0 where
  pub sent : List Row
  pub same : IsPermutation rows sent
  pub least : sum_by (λ b. puts b.store) old + blocks_beyond (length (keys_of keys sent)) (rows_in_frames (sum_by (λ b. b.region.frames) old) (group_width keys folds)) (keys + length folds) ≤ sum_by (λ b. puts b.store) new
