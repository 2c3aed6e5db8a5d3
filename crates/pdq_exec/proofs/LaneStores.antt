-- Lanes over the partitions of owners, and the stores in them.
use Rattle.std.proofs.Common.{◌≡◌, ℕ, suc, ◌<◌, ◌⊎◌, List, [], ◌∷◌, ◌++◌, length, get_or, map, refl, sym, ap, ap₂, ◌∙◌, subst, arith, All, IsPermutation}
use Rattle.std.specs.Prelude.{Option, None, Some, IsSome, flat_map, option_map}
use Rattle.std.specs.List.{AllZip}
use Rattle.std.proofs.lemmas.List.{append-nil, get_or-map, length-map}
use Rattle.std.proofs.lemmas.List.Elements.{All-cons, All-head, All-nil, All-tail}
use Rattle.pdq_edge.specs.Causes.{Rose}
use Rattle.pdq_spill.specs.declared.faults.ExecFault.{ExecFault}
use Rattle.pdq_spill.specs.declared.faults.ExecFault.TheVariants.{Memory, SpillFault}
use Rattle.pdq_spill.specs.Partitions.{PartitionView, rows_in}
use Rattle.pdq_spill.specs.Stores.{StoreView}
use Rattle.pdq_plan.specs.Plans.{PlanView}
use Rattle.pdq_table.specs.Storing.{StoredView}
use Rattle.pdq_exchange.specs.Batches.{Row}
use Rattle.pdq_exchange.specs.Roles.{Coming}
use Rattle.pdq_exchange.specs.Waves.{at_each}
use Rattle.pdq_exchange.specs.declared.lane.Lane.{Lane}
use Rattle.pdq_owner.specs.Phases.{LaneFailed}
use Rattle.pdq_scan.specs.Lanes.{given}
use Rattle.pdq_scan.specs.PartitionLanes.{comings_from}
use Rattle.pdq_scan.specs.Readers.{KeepsReader, ReaderView, coming_of}
use Rattle.pdq_stage.specs.Spooling.{IsLaterView}
use Rattle.pdq_stage.proofs.Sealing.{of_store}
use Rattle.pdq_step.specs.Steps.{rows_told, to_come}
use Rattle.pdq_exec.specs.Between.{rows_stored}
use Rattle.pdq_exec.specs.Runs.{AreTold}
use Rattle.pdq_exec.specs.Stages.{GiveRunning, running}
use Rattle.pdq_seat.specs.Stores.{IsLater, SomeRose}
use Rattle.pdq_exec.proofs.Rising.{ViewsRose, later-of_views, rose-from, rose-of_views, view}

abbrev pub Reading : Type 0
Reading = Lane ReaderView

abbrev pub lane_store : Reading → StoreView
lane_store lane = lane.scanner.store

abbrev lane_coming : Reading → Coming
lane_coming lane = coming_of lane.scanner

module _ {S : Type 0} (blocks : S → Option (List (List ℕ))) (held : S → ℕ) where
  same-given : (o : Option (List Row)) → rows_told (option_map (given None) o) ≡ rows_told o
  same-given None = refl
  same-given (Some rows) = refl

  comings-rows : (ps : List PartitionView) (ss : List S) → flat_map (λ (c : Coming). rows_told c.rows) (comings_from blocks None ps ss) ≡ rows_stored blocks ps ss
  comings-rows [] ss = refl
  comings-rows (p ∷ ps) [] = refl
  comings-rows (p ∷ ps) (s ∷ ss) = ap₂ (λ (a b : List Row). a ++ b) (same-given (rows_in p (blocks s))) (comings-rows ps ss)

  told-given : (p : PartitionView) (o : Option (List (List ℕ))) → IsSome o → IsSome (option_map (given None) (rows_in p o))
  told-given p None i = absurd (cc i)
  told-given p (Some bs) i = refl

  comings-told : (ps : List PartitionView) (ss : List S) → AreTold blocks ss → All (λ (c : Coming). IsSome c.rows) (comings_from blocks None ps ss)
  comings-told [] ss t = All-nil (λ (c : Coming). IsSome c.rows)
  comings-told (p ∷ ps) [] t = All-nil (λ (c : Coming). IsSome c.rows)
  comings-told (p ∷ ps) (s ∷ ss) t = All-cons (λ (c : Coming). IsSome c.rows) _ (comings_from blocks None ps ss) (told-given p (blocks s) (All-head (λ (x : S). IsSome (blocks x)) s ss t)) (comings-told ps ss (All-tail (λ (x : S). IsSome (blocks x)) s ss t))

  pub come-mapped : (lanes : List Reading) → to_come coming_of lanes ≡ flat_map (λ (c : Coming). rows_told c.rows) (map lane_coming lanes)
  come-mapped [] = refl
  come-mapped (x ∷ xs) = ap (λ (l : List Row). rows_told (coming_of x.scanner).rows ++ l) (come-mapped xs)

  pub told-mapped : (lanes : List Reading) → All (λ (c : Coming). IsSome c.rows) (map lane_coming lanes) → All (λ (lane : Reading). IsSome (coming_of lane.scanner).rows) lanes
  told-mapped [] h = All-nil (λ (lane : Reading). IsSome (coming_of lane.scanner).rows)
  told-mapped (x ∷ xs) h = All-cons (λ (lane : Reading). IsSome (coming_of lane.scanner).rows) x xs (All-head (λ (c : Coming). IsSome c.rows) (lane_coming x) (map lane_coming xs) h) (told-mapped xs (All-tail (λ (c : Coming). IsSome c.rows) (lane_coming x) (map lane_coming xs) h))

  -- lanes over partitions that hold the running rows give them
  pub lanes-give : (s : StoredView) (p : PlanView) (k : ℕ) (lanes ls : List Reading) (ps : List PartitionView) (ss : List S) → ls ≡ lanes → map lane_coming lanes ≡ comings_from blocks None ps ss → AreTold blocks ss → IsPermutation (running s p k) (rows_stored blocks ps ss) → GiveRunning coming_of s p k ls
  lanes-give s p k lanes ls ps ss same e t are = subst (λ (l : List Reading). GiveRunning coming_of s p k l) (sym same) (record {
    told = told-mapped lanes (subst (λ (cs : List Coming). All (λ (c : Coming). IsSome c.rows) cs) (sym e) (comings-told ps ss t));
    are = subst (λ (l : List Row). IsPermutation (running s p k) l) (sym (come-mapped lanes ∙ (ap (λ (cs : List Coming). flat_map (λ (c : Coming). rows_told c.rows) cs) e ∙ comings-rows ps ss))) are;
  })

one-later : (a b : ReaderView) → KeepsReader a b → IsLaterView a.store b.store
one-later a b k = record { later = k.later; more = omega (arith, k.puts); told = λ t. subst IsSome (sym k.blocks) t }

abbrev pub KeepLanes : List Reading → List Reading → Type 0
KeepLanes lanes now = at_each lanes now (λ i old new. KeepsReader old.scanner new.scanner)

pub lanes-later : (lanes now : List Reading) → length now ≡ length lanes → KeepLanes lanes now → AllZip IsLaterView (map lane_store lanes) (map lane_store now)
lanes-later [] [] n h = tt
lanes-later [] (y ∷ ys) n h = absurd (omega (arith, n))
lanes-later (x ∷ xs) [] n h = absurd (omega (arith, n))
lanes-later (x ∷ xs) (y ∷ ys) n h = (one-later x.scanner y.scanner (h 0 x (omega arith)), lanes-later xs ys (omega (arith, n)) (λ i d l. h (suc i) d (omega (arith, l))))

-- a lane failed, since its store did
pub lanes-failed : (cause : ExecFault) (lanes now : List Reading) → length now ≡ length lanes → All (λ (lane : Reading). lane.scanner.fault ≡ None) lanes → KeepLanes lanes now → LaneFailed (λ (r : ReaderView). r.fault) now cause → (cause ≡ Memory) ⊎ ((cause ≡ SpillFault) × ViewsRose (map lane_store lanes) (map lane_store now))
lanes-failed cause [] now n fine h f = absurd (omega (arith, f.1, n))
lanes-failed cause (x ∷ xs) now n fine h f =
    let lanes = x ∷ xs in
    let within : f.0 < length lanes = omega (arith, f.1, n) in
    let k = h f.0 x within in
    let a = get_or-map lane_store lanes f.0 x x.scanner.store within in
    let b = get_or-map lane_store now f.0 x x.scanner.store f.1 in
    of_store cause (get_or lanes f.0 x).scanner.store.faults (get_or now f.0 x).scanner.store.faults (k.cause cause (f.2 x) (fine f.0 x within))
    (λ r. rose-from (λ (v : StoreView). v.faults) (map lane_store lanes) (map lane_store now) f.0 x.scanner.store x.scanner.store (omega (arith, within, length-map lanes lane_store)) (length-map now lane_store ∙ (n ∙ sym (length-map lanes lane_store)))
    (subst (λ (v : StoreView). Rose v.faults (get_or (map lane_store now) f.0 x.scanner.store).faults) (sym a) (subst (λ (v : StoreView). Rose (get_or lanes f.0 x).scanner.store.faults v.faults) (sym b) r)))

-- their stores stand in their places again
module _ {S : Type 0} (blocks : S → Option (List (List ℕ))) (held puts faults : S → ℕ) where
  pub left-all : (lanes now : List Reading) (ys zs : List S) → map (view blocks held puts faults) zs ≡ map lane_store lanes ++ map (view blocks held puts faults) ys → lanes ≡ now → ys ≡ [] → map (view blocks held puts faults) zs ≡ map lane_store now
  left-all lanes now ys zs e same none = e ∙ (ap₂ (λ (l : List Reading) (m : List S). map lane_store l ++ map (view blocks held puts faults) m) same none ∙ append-nil (map lane_store now))

  module _ (xs zs : List S) (lanes now : List Reading) (out : map lane_store lanes ≡ map (view blocks held puts faults) xs) (home : map (view blocks held puts faults) zs ≡ map lane_store now) where
    pub lanes-home : length now ≡ length lanes → KeepLanes lanes now → AllZip (IsLater blocks faults puts) xs zs
    lanes-home n h = later-of_views blocks held puts faults xs zs (subst (λ (l : List StoreView). AllZip IsLaterView l (map (view blocks held puts faults) zs)) out (subst (λ (l : List StoreView). AllZip IsLaterView (map lane_store lanes) l) (sym home) (lanes-later lanes now n h)))

    pub lanes-rose : ViewsRose (map lane_store lanes) (map lane_store now) → SomeRose faults xs zs
    lanes-rose r = rose-of_views blocks held puts faults xs zs (subst (λ (l : List StoreView). ViewsRose l (map (view blocks held puts faults) zs)) out (subst (λ (l : List StoreView). ViewsRose (map lane_store lanes) l) (sym home) r))
