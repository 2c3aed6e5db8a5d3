-- What becomes of stores.
use Rattle.std.specs.Prelude.{◌≡◌, ◌≤◌, ◌⊎◌, ℕ, List, [], ◌∷◌, Option, IsSome}
use Rattle.std.specs.List.{AllZip}
use Rattle.pdq_edge.specs.Causes.{Rose}
use Rattle.pdq_spill.specs.declared.bench.Bench.{Bench}
use Rattle.pdq_seat.specs.declared.seats.Seats.{Seats}

module _ {S : Type 0} (blocks : S → Option (List (List ℕ))) (faults puts : S → ℕ) where
  -- a store after some calls: its counts did not fall, and where it told its blocks it tells them
  pub record IsLater (old new : S) : Type 0 where
    pub later : faults old ≤ faults new
    pub more : puts old ≤ puts new
    pub told : IsSome (blocks old) → IsSome (blocks new)

  -- a bench after some calls: its frames are there, and its store is
  pub record IsBenchLater (old new : Bench S) : Type 0 where
    pub frames_are : new.region.frames ≡ old.region.frames
    pub store_is : IsLater old.store new.store

  -- seats after some calls, owner by owner
  pub record AreLater (old new : Seats S) : Type 0 where
    pub benches_are : AllZip IsBenchLater old.benches.items new.benches.items
    pub fronts_are : AllZip IsLater old.fronts.items new.fronts.items
    pub backs_are : AllZip IsLater old.backs.items new.backs.items

-- some of these rose
abbrev pub SomeRose : {X : Type 0} → (X → ℕ) → List X → List X → Type 0
SomeRose count [] ys = ⊥
SomeRose count (x ∷ xs) [] = ⊥
SomeRose count (x ∷ xs) (y ∷ ys) = Rose (count x) (count y) ⊎ SomeRose count xs ys

-- the store of some seat failed
abbrev pub SomeFailed : {S : Type 0} → (S → ℕ) → Seats S → Seats S → Type 0
SomeFailed {S} faults old new = SomeRose (λ (b : Bench S). faults b.store) old.benches.items new.benches.items ⊎ (SomeRose faults old.fronts.items new.fronts.items ⊎ SomeRose faults old.backs.items new.backs.items)
