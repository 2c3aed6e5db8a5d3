-- The groups of the rows that lanes give.
use Rattle.std.specs.Prelude.{◌≡◌, ◌++◌, ℕ, ◌+◌, ◌*◌, ◌<◌, ◌≤◌, List, [], ◌∷◌, length, map, slice_index_or, Some, None, IsSome, false, All, IsPermutation}
use Rattle.std.specs.List.{range_with_len, sum_by}
use Rattle.pdq_frame.specs.Regions.{rows_per_frame}
use Rattle.pdq_spill.specs.Blocks.{blocks_beyond}
use Rattle.pdq_spill.specs.Faults.{IsOfStore}
use Rattle.pdq_spill.specs.Stores.{StoreView}
use Rattle.pdq_spill.specs.declared.bench.Bench.{Bench}
use Rattle.pdq_spill.specs.declared.faults.ExecFault.{ExecFault}
use Rattle.pdq_spill.specs.declared.faults.ExecFault.TheVariants.{Memory}
use Rattle.pdq_exchange.specs.Batches.{Row}
use Rattle.pdq_exchange.specs.Roles.{Coming}
use Rattle.pdq_exchange.specs.Routing.{owner_of}
use Rattle.pdq_exchange.specs.declared.desk.Desk.{Desk}
use Rattle.pdq_exchange.specs.declared.lane.Lane.{Lane}
use Rattle.pdq_group.specs.declared.shape.Fold.{Fold}
use Rattle.pdq_group.specs.declared.grouper.Folded.{Folded}
use Rattle.pdq_group.specs.Folds.{AreFoldable}
use Rattle.pdq_group.specs.Groups.{grouped_words, keys_of}
use Rattle.pdq_group.specs.Groupers.{GrouperView, Took, blocks_put}
use Rattle.pdq_group.specs.Tables.{group_width}
use Rattle.pdq_eval.specs.Overflow.{rows_in_frames}
use Rattle.pdq_eval.specs.Owners.{gathered, part}
use Rattle.pdq_owner.specs.Folders.{FolderView}
use Rattle.pdq_owner.specs.Keepers.{KeptView}
use Rattle.pdq_gather.specs.Homes.{Each, HomeOf}
use Rattle.pdq_gather.specs.Rows.{Comes}

-- groupers of the same keys and folds
pub record AreAlike (keys : ℕ) (folds : List Fold) (groupers : List GrouperView) : Type 0 where
  pub keys_are : All (λ g. g.table.keys ≡ keys) groupers
  pub folds_are : All (λ g. g.table.folds ≡ folds) groupers

-- the rows were sent to so many owners, and the groups of each owner's rows were put, owner after owner
pub record GroupedInto (keys : ℕ) (folds : List Fold) (n : ℕ) (rows put : List Row) : Type 0 where
  pub sent : List Row
  pub same : IsPermutation rows sent
  pub are : put ≡ gathered n (λ j. grouped_words keys folds (part (owner_of (range_with_len 0 keys) n) j sent))

-- the blocks that were put are at least those of the rows' keys that do not fit into all frames together
pub record PutEnough {S : Type 0} (puts : S → ℕ) (keys : ℕ) (folds : List Fold) (rows : List Row) (groupers : List GrouperView) (benches : List (Bench S)) : Type 0 where
  pub sent : List Row
  pub same : IsPermutation rows sent
  pub least : sum_by (λ g. g.store.puts) groupers + blocks_beyond (length (keys_of keys sent)) (rows_in_frames (sum_by (λ g. g.table.frames) groupers) (group_width keys folds)) (keys + length folds) ≤ sum_by (λ b. puts b.store) benches

-- an owner that took no row
abbrev pub fresh_folder : GrouperView → FolderView
fresh_folder g = record { grouper = g; rows = 0; full = false; fault = None }

-- the groupers at desks
abbrev pub groupers_at : List (Desk FolderView) → List GrouperView
groupers_at desks = map (λ desk. desk.owner.grouper) desks

-- some rows were sent, all where the lanes tell them, and each grouper took its part of them
pub record FoldedBy {S : Type 0} (left : S → Coming) (owner : Row → ℕ) (lanes : List (Lane S)) (desks : List (Desk FolderView)) : Type 0 where
  pub sent : List Row
  pub all : (rows : List Row) → Comes left lanes rows → IsPermutation rows sent
  pub took : (j : ℕ) (d : Desk FolderView) → j < length desks → Took (slice_index_or desks j d).owner.grouper (part owner j sent)
  pub few : length sent ≤ 20000000

-- the fault of an owner's store, or want of memory
abbrev pub DeskStoreFailed : List GrouperView → List (Desk FolderView) → ExecFault → Type 0
DeskStoreFailed groupers desks cause = (j : ℕ) × (j < length desks) × ((g : GrouperView) (d : Desk FolderView) → IsOfStore cause (slice_index_or groupers j g).store.faults (slice_index_or desks j d).owner.grouper.store.faults)

-- where groups are put: as many as there are, and it fails where memory is wanting alone
pub record IsOut (out : KeptView) : Type 0 where
  pub most : out.most ≡ None
  pub fault : (cause : ExecFault) → out.fault ≡ Some cause → cause ≡ Memory

-- an owner's bench
abbrev pub DeskHome : {S : Type 0} → (S → StoreView) → Desk FolderView → Bench S → Type 0
DeskHome store desk bench = HomeOf store desk.owner.grouper bench

-- an owner holds these rows over a store that tells, and they can be folded
pub record Ready (desk : Desk FolderView) (rows : List Row) : Type 0 where
  pub holds : Took desk.owner.grouper rows
  pub told : IsSome desk.owner.grouper.store.blocks
  pub fits : AreFoldable desk.owner.grouper.table.folds desk.owner.grouper.table.keys rows

-- the groups of each owner's rows, owner after owner
abbrev pub puts_of : List (Desk FolderView) → List (List Row) → List Row
puts_of [] xs = []
puts_of (d ∷ ds) [] = []
puts_of (d ∷ ds) (x ∷ xs) = grouped_words d.owner.grouper.table.keys d.owner.grouper.table.folds x ++ puts_of ds xs

-- where the owners are ready, all their groups were put
pub record PutGroups (desks : List (Desk FolderView)) (before now : List Row) : Type 0 where
  pub put : (xs : List (List Row)) → Each Ready desks xs → now ≡ before ++ puts_of desks xs

-- an owner put at least the blocks of those of its keys that do not fit into its frames
pub record PutsAtLeast {S : Type 0} (puts : S → ℕ) (desk : Desk FolderView) (bench : Bench S) : Type 0 where
  pub least : (rows : List Row) → Took desk.owner.grouper rows → desk.owner.grouper.store.puts + blocks_beyond (length (keys_of desk.owner.grouper.table.keys rows)) (desk.owner.grouper.table.frames * rows_per_frame (group_width desk.owner.grouper.table.keys desk.owner.grouper.table.folds)) (desk.owner.grouper.table.keys + length desk.owner.grouper.table.folds) ≤ puts bench.store + blocks_put desk.owner.grouper

-- what an owner's end says
pub record IsReceipt (desk : Desk FolderView) (folded : Folded) : Type 0 where
  pub frames : folded.frames ≡ desk.owner.grouper.table.frames
  pub rows : folded.rows ≡ desk.owner.grouper.rows

-- memory was wanting, or the store of one of these owners failed
abbrev pub EndFailed : {S : Type 0} → (S → ℕ) → List (Desk FolderView) → List (Bench S) → ExecFault → Type 0
EndFailed {S} faults desks benches cause = (j : ℕ) × (j < length desks) × ((d : Desk FolderView) (b : Bench S) → IsOfStore cause (slice_index_or desks j d).owner.grouper.store.faults (faults (slice_index_or benches j b).store))
