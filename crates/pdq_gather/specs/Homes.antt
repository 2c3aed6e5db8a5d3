-- What comes back of groupers.
use Rattle.std.specs.Prelude.{⊤, ◌≡◌, ℕ, ◌<◌, List, [], ◌∷◌, length, slice_index_or, Option}
use Rattle.pdq_spill.specs.Faults.{IsOfStore}
use Rattle.pdq_spill.specs.Stores.{HasGrown, StoreView}
use Rattle.pdq_spill.specs.declared.bench.Bench.{Bench}
use Rattle.pdq_spill.specs.declared.faults.ExecFault.{ExecFault}
use Rattle.pdq_group.specs.Groupers.{GrouperView}

-- the relation holds of each element with that in its place
abbrev pub Each : {X Y : Type 0} → (X → Y → Type 0) → List X → List Y → Type 0
Each R [] [] = ⊤
Each R [] (y ∷ ys) = ⊥
Each R (x ∷ xs) [] = ⊥
Each R (x ∷ xs) (y ∷ ys) = R x y × Each R xs ys

-- what a store tells
abbrev pub store_of : {S : Type 0} → (S → Option (List (List ℕ))) → (S → ℕ) → (S → ℕ) → (S → ℕ) → S → StoreView
store_of blocks held puts faults s = record { blocks = blocks s; held = held s; puts = puts s; faults = faults s }

-- the frames of a grouper, and its store with what was put to it since
pub record IsHome (g : GrouperView) (frames : ℕ) (store : StoreView) : Type 0 where
  pub frames_are : frames ≡ g.table.frames
  pub grown : HasGrown g.store store

-- a grouper's bench
abbrev pub HomeOf : {S : Type 0} → (S → StoreView) → GrouperView → Bench S → Type 0
HomeOf store g bench = IsHome g bench.region.frames (store bench.store)

-- memory was wanting, or the store of one of these groupers failed
abbrev pub StoreFailed : {S : Type 0} → (S → ℕ) → List GrouperView → List (Bench S) → ExecFault → Type 0
StoreFailed {S} faults groupers benches cause = (j : ℕ) × (j < length groupers) × ((g : GrouperView) (b : Bench S) → IsOfStore cause (slice_index_or groupers j g).store.faults (faults (slice_index_or benches j b).store))

-- the frames of a region and a store
pub record Back : Type 0 where
  pub frames : ℕ
  pub store : StoreView

abbrev pub back_of : GrouperView → Back
back_of g = record { frames = g.table.frames; store = g.store }

abbrev pub bench_back : {S : Type 0} → (S → StoreView) → Bench S → Back
bench_back store bench = record { frames = bench.region.frames; store = store bench.store }

-- a bench afterwards: it has its frames, and blocks were only put to its store
pub record IsAfter {S : Type 0} (store : S → StoreView) (old new : Bench S) : Type 0 where
  pub frames_are : new.region.frames ≡ old.region.frames
  pub grown : HasGrown (store old.store) (store new.store)
