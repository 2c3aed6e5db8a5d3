-- What the owners work with.
use Rattle.std.specs.Prelude.{◌≡◌, ◌≤◌, ℕ, List, [], ◌∷◌, All, length, sum_by}
use Rattle.pdq_spill.specs.declared.bench.Bench.{Bench}
use Rattle.pdq_seat.specs.declared.seats.Seats.{Seats}

-- the stores of the owners as they stand: of each that of its bench and then its other two
abbrev pub laid : {S : Type 0} → List (Bench S) → List S → List S → List S
laid [] fs ks = []
laid (b ∷ bs) [] ks = []
laid (b ∷ bs) (f ∷ fs) [] = []
laid (b ∷ bs) (f ∷ fs) (k ∷ ks) = b.store ∷ f ∷ k ∷ laid bs fs ks

-- their frames together
abbrev pub all_frames : {S : Type 0} → List (Bench S) → ℕ
all_frames benches = sum_by (λ b. b.region.frames) benches

-- seats of so many owners, each of at least two frames
pub record AreSeats {S : Type 0} (n : ℕ) (seats : Seats S) : Type 0 where
  pub benches_are : length seats.benches.items ≡ n
  pub fronts_are : length seats.fronts.items ≡ n
  pub backs_are : length seats.backs.items ≡ n
  pub least : All (λ b. 2 ≤ b.region.frames) seats.benches.items
