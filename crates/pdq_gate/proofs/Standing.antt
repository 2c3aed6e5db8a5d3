-- The regions that stand in the manager, in step with the active queries.
use Rattle.std.proofs.Common.{◌≡◌, ◌∙◌, ℕ, zero, suc, ◌*◌, ◌/◌, ◌%◌, ◌≤◌, List, [], ◌∷◌, Option, None, Some, Bool, true, false, length, get_or, map, refl, sym, ap, arith}
use Rattle.std.specs.Prelude.{IsSome, remove, slice_get, slice_set, if◌then◌else◌}
use Rattle.std.proofs.lemmas.Grind.{common_steps}
use Rattle.pdq_frame.proofs.Quanta.{none_over, quanta_are}
use Rattle.pdq_model.specs.declared.rows.Active.{Active}
use Rattle.pdq_model.specs.Configuration.{Configuration, IsValid, frames_per_quantum}
use Rattle.pdq_model.specs.Step.{collected, flagged_at}
use Rattle.pdq_frame.specs.Regions.{RegionView}
use Rattle.pdq_gate.specs.Board.{frames_in, frames_due}
use Rattle.pdq_gate.specs.Conservation.{quanta_standing}

pub same_length : (f : ℕ) (regions : List (Option RegionView)) (active : List Active) → map frames_in regions ≡ map (frames_due f) active → length regions ≡ length active
same_length f regions active step = grind (arith, common_steps, ap length step)

-- what stands at a place is what is due to the query there
pub due_at : (f : ℕ) (regions : List (Option RegionView)) (active : List Active) → map frames_in regions ≡ map (frames_due f) active → (k : ℕ) (a : Active) → slice_get active k ≡ Some a → frames_in (get_or regions k None) ≡ frames_due f a
due_at f regions [] step k a there = cc
due_at f [] (b ∷ bs) step k a there = cc
due_at f (r ∷ rs) (b ∷ bs) step zero a there = cc
due_at f (r ∷ rs) (b ∷ bs) step (suc k) a there = due_at f rs bs (cc) k a there

some_stands : (o : Option RegionView) (n : ℕ) → frames_in o ≡ Some n → IsSome o
some_stands None n due = cc
some_stands (Some r) n due = refl

none_stands : (o : Option RegionView) → frames_in o ≡ None → o ≡ None
none_stands None due = refl
none_stands (Some r) due = cc

-- the region of a query that is not collected stands, and has the frames of its quanta
pub stands : (f : ℕ) (regions : List (Option RegionView)) (active : List Active) → map frames_in regions ≡ map (frames_due f) active → (k : ℕ) (a : Active) → slice_get active k ≡ Some a → a.collected ≡ false → IsSome (get_or regions k None)
stands f regions active step k a there here = some_stands (get_or regions k None) (a.quanta * f) (due_at f regions active step k a there ∙ rw here refl)

get_there : {X : Type 0} (xs : List X) (k : ℕ) (x d : X) → slice_get xs k ≡ Some x → get_or xs k d ≡ x
get_there [] k x d there = cc
get_there (y ∷ ys) zero x d there = cc
get_there (y ∷ ys) (suc k) x d there = get_there ys k x d there

pub frames_there : (f : ℕ) (regions : List (Option RegionView)) (active : List Active) → map frames_in regions ≡ map (frames_due f) active → (k : ℕ) (a : Active) (r : RegionView) → slice_get active k ≡ Some a → a.collected ≡ false → slice_get regions k ≡ Some (Some r) → r.frames ≡ a.quanta * f
frames_there f regions active step k a r there here standing =
    let e : frames_in (Some r) ≡ frames_due f a = ap frames_in (sym (get_there regions k (Some r) None standing)) ∙ due_at f regions active step k a there in
    let g : frames_due f a ≡ Some (a.quanta * f) = rw here refl in
    let h : frames_in (Some r) ≡ Some (a.quanta * f) = e ∙ g in cc

pub none_there : (f : ℕ) (regions : List (Option RegionView)) (active : List Active) → map frames_in regions ≡ map (frames_due f) active → (k : ℕ) (a : Active) → slice_get active k ≡ Some a → a.collected ≡ true → get_or regions k None ≡ None
none_there f regions active step k a there away = none_stands (get_or regions k None) (due_at f regions active step k a there ∙ rw away refl)

map_set : {X Y : Type 0} (g : X → Y) (xs : List X) (k : ℕ) (x : X) → map g (slice_set xs k x) ≡ slice_set (map g xs) k (g x)
map_set g [] k x = refl
map_set g (y ∷ ys) zero x = refl
map_set g (y ∷ ys) (suc k) x = ap (λ zs. g y ∷ zs) (map_set g ys k x)

map_remove : {X Y : Type 0} (g : X → Y) (xs : List X) (k : ℕ) → map g (remove xs k) ≡ remove (map g xs) k
map_remove g [] zero = refl
map_remove g [] (suc k) = refl
map_remove g (y ∷ ys) zero = refl
map_remove g (y ∷ ys) (suc k) = ap (λ zs. g y ∷ zs) (map_remove g ys k)

-- a region that is handed over stands no longer, and none is due
pub step_collected : (f : ℕ) (regions : List (Option RegionView)) (active : List Active) (k : ℕ) (a : Active) → map frames_in regions ≡ map (frames_due f) active → map frames_in (slice_set regions k None) ≡ map (frames_due f) (slice_set active k (collected a))
step_collected f regions active k a step = map_set frames_in regions k None ∙ ap (λ xs. slice_set xs k None) step ∙ sym (map_set (frames_due f) active k (collected a))

pub step_removed : (f : ℕ) (regions : List (Option RegionView)) (active : List Active) (k : ℕ) → map frames_in regions ≡ map (frames_due f) active → map frames_in (remove regions k) ≡ map (frames_due f) (remove active k)
step_removed f regions active k step = map_remove frames_in regions k ∙ ap (λ xs. remove xs k) step ∙ sym (map_remove (frames_due f) active k)

-- a quantum of a valid configuration has a frame
pub some_frames : (c : Configuration) → IsValid c → 1 ≤ frames_per_quantum c
some_frames c valid = grind arith

-- whole quanta
pub whole_quanta : (f q n : ℕ) → 1 ≤ f → n ≡ q * f → n % f ≡ 0
whole_quanta f q n some e = ap (λ (x : ℕ). x % f) e ∙ none_over q f some

pub count_quanta : (f q n : ℕ) → 1 ≤ f → n ≡ q * f → n / f ≡ q
count_quanta f q n some e = ap (λ (x : ℕ). x / f) e ∙ quanta_are q f some

-- the region of a query that stands has the frames of all its quanta
pub standing_frames : (f : ℕ) (r : RegionView) (a : Active) → frames_in (Some r) ≡ frames_due f a → r.frames ≡ quanta_standing a * f
standing_frames f r a due = go a.collected due
  where
    go : (c : Bool) → Some r.frames ≡ (if c then None else Some (a.quanta * f)) → r.frames ≡ (if c then 0 else a.quanta) * f
    go true e = cc
    go false e = cc

set_same : {X : Type 0} (xs : List X) (k : ℕ) (x : X) → slice_get xs k ≡ Some x → slice_set xs k x ≡ xs
set_same [] k x there = refl
set_same (y ∷ ys) zero x there = let e : x ≡ y = cc in ap (λ z. z ∷ ys) e
set_same (y ∷ ys) (suc k) x there = ap (λ zs. y ∷ zs) (set_same ys k x there)

get_mapped : {X Y : Type 0} (g : X → Y) (xs : List X) (k : ℕ) (x : X) → slice_get xs k ≡ Some x → slice_get (map g xs) k ≡ Some (g x)
get_mapped g [] k x there = cc
get_mapped g (y ∷ ys) zero x there = let e : y ≡ x = cc in ap (λ z. Some (g z)) e
get_mapped g (y ∷ ys) (suc k) x there = get_mapped g ys k x there

-- a query that is flagged has its region as before
pub step_flagged : (f : ℕ) (regions : List (Option RegionView)) (active : List Active) (k step : ℕ) (a : Active) → slice_get active k ≡ Some a → map frames_in regions ≡ map (frames_due f) active → map frames_in regions ≡ map (frames_due f) (slice_set active k (flagged_at step a))
step_flagged f regions active k step a there due = due ∙ sym (set_same (map (frames_due f) active) k (frames_due f a) (get_mapped (frames_due f) active k a there)) ∙ sym (map_set (frames_due f) active k (flagged_at step a))
