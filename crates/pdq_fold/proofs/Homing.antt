-- Benches that come home from groupers.
use Rattle.std.proofs.Common.{◌≡◌, ℕ, zero, suc, ◌<◌, ◌≤◌, ◌⊎◌, inl, inr, List, [], ◌∷◌, length, get_or, refl, ap, arith}
use Rattle.std.specs.Prelude.{Option, sum_by}
use Rattle.std.specs.List.{AllZip}
use Rattle.std.proofs.lemmas.List.Sums.{sum_by-cons}
use Rattle.pdq_edge.specs.Causes.{Rose}
use Rattle.pdq_spill.specs.declared.bench.Bench.{Bench}
use Rattle.pdq_spill.specs.declared.faults.ExecFault.{ExecFault}
use Rattle.pdq_spill.specs.declared.faults.ExecFault.TheVariants.{Memory, RowLimit, SpillFault, Stopped}
use Rattle.pdq_spill.proofs.Growing.{with_blocks-told}
use Rattle.pdq_plan.specs.Plans.{PlanView}
use Rattle.pdq_exchange.specs.Roles.{Coming}
use Rattle.pdq_exchange.specs.declared.lane.Lane.{Lane}
use Rattle.pdq_group.specs.declared.grouper.Folded.{Folded}
use Rattle.pdq_owner.specs.Phases.{LaneFailed, WasStopped}
use Rattle.pdq_gather.specs.Homes.{Each, IsAfter, store_of}
use Rattle.pdq_gather.specs.Benches.{BenchFailed}
use Rattle.pdq_seat.specs.Seating.{all_frames}
use Rattle.pdq_seat.specs.Stores.{IsBenchLater, SomeRose}
use Rattle.pdq_fold.specs.Folding.{AreReceipts, FoldFailed}

module _ {S : Type 0} (blocks : S → Option (List (List ℕ))) (held puts faults : S → ℕ) where
  one-later : (b c : Bench S) → IsAfter (store_of blocks held puts faults) b c → IsBenchLater blocks faults puts b c
  one-later b c h = record {
    frames_are = h.frames_are;
    store_is = record { later = h.grown.later; more = omega (arith, h.grown.puts); told = λ t. with_blocks-told (blocks b.store) (blocks c.store) h.grown.more h.grown.blocks t };
  }

  pub all-later : (bs cs : List (Bench S)) → Each (IsAfter (store_of blocks held puts faults)) bs cs → AllZip (IsBenchLater blocks faults puts) bs cs
  all-later [] [] h = tt
  all-later [] (c ∷ cs) h = absurd h
  all-later (b ∷ bs) [] h = absurd h
  all-later (b ∷ bs) (c ∷ cs) h = (one-later b c h.0, all-later bs cs h.1)

pub each-many : {X Y : Type 0} (R : X → Y → Type 0) (xs : List X) (ys : List Y) → Each R xs ys → length ys ≡ length xs
each-many R [] [] h = refl
each-many R [] (y ∷ ys) h = absurd h
each-many R (x ∷ xs) [] h = absurd h
each-many R (x ∷ xs) (y ∷ ys) h = ap (λ (n : ℕ). suc n) (each-many R xs ys h.1)

frames-of : {S : Type 0} (bs : List (Bench S)) (fs : List Folded) → Each (λ (b : Bench S) (f : Folded). f.frames ≡ b.region.frames) bs fs → sum_by (λ (f : Folded). f.frames) fs ≡ all_frames bs
frames-of [] [] h = refl
frames-of [] (f ∷ fs) h = absurd h
frames-of (b ∷ bs) [] h = absurd h
frames-of {S} (b ∷ bs) (f ∷ fs) h = omega (arith, h.0, frames-of bs fs h.1, sum_by-cons (λ (x : Folded). x.frames) f fs, sum_by-cons (λ (x : Bench S). x.region.frames) b bs)

pub receipts-are : {S : Type 0} (bs : List (Bench S)) (fs : List Folded) → Each (λ (b : Bench S) (f : Folded). f.frames ≡ b.region.frames) bs fs → AreReceipts bs fs
receipts-are {S} bs fs h = record { one_each = each-many (λ (b : Bench S) (f : Folded). f.frames ≡ b.region.frames) bs fs h; frames_are = frames-of bs fs h }

-- some bench has frames
pub some-frames : {S : Type 0} (bs : List (Bench S)) → 0 < length bs → ((b : Bench S) → 2 ≤ (get_or bs 0 b).region.frames) → 1 ≤ all_frames bs
some-frames [] l h = absurd (omega (arith, l))
some-frames {S} (b ∷ bs) l h = omega (arith, h b, sum_by-cons (λ (x : Bench S). x.region.frames) b bs)

-- why a bench failed
module _ {S : Type 0} (faults : S → ℕ) where
  rose-from : (bs cs : List (Bench S)) (j : ℕ) → j < length bs → length cs ≡ length bs → ((a b : Bench S) → Rose (faults (get_or bs j a).store) (faults (get_or cs j b).store)) → SomeRose (λ (b : Bench S). faults b.store) bs cs
  rose-from [] cs j l n h = absurd (omega (arith, l))
  rose-from (x ∷ xs) [] j l n h = absurd (omega (arith, n))
  rose-from (x ∷ xs) (y ∷ ys) zero l n h = inl (h x y)
  rose-from (x ∷ xs) (y ∷ ys) (suc j) l n h = inr (rose-from xs ys j (omega (arith, l)) (omega (arith, n)) h)

  pub bench-cause : (bs cs : List (Bench S)) (cause : ExecFault) → length cs ≡ length bs → BenchFailed faults bs cs cause → (cause ≡ Memory) ⊎ ((cause ≡ SpillFault) × SomeRose (λ (b : Bench S). faults b.store) bs cs)
  bench-cause bs cs Memory n h = inl refl
  bench-cause bs cs SpillFault n h = inr (refl, rose-from bs cs h.0 h.1 n h.2)
  bench-cause [] cs RowLimit n h = absurd (omega (arith, h.1))
  bench-cause (b ∷ bs) cs RowLimit n h = absurd (h.2 b b)
  bench-cause [] cs (Stopped s) n h = absurd (omega (arith, h.1))
  bench-cause (b ∷ bs) cs (Stopped s) n h = absurd (h.2 b b)

  -- why grouping failed
  pub why-failed : {C : Type 0} (left : C → Coming) (fault : C → Option ExecFault) (p : PlanView) (lanes now : List (Lane C)) (bs cs : List (Bench S)) (told told_now last : ℕ) (cause : ExecFault) → length cs ≡ length bs →
      ((((cause ≡ Memory) ⊎ (LaneFailed fault now cause ⊎ BenchFailed faults bs cs cause)) × (told_now ≡ told)) ⊎ WasStopped told told_now last cause) → FoldFailed faults left fault p lanes now bs cs told told_now last cause
  why-failed left fault p lanes now bs cs told told_now last cause n (inl (inl m, u)) = inl (inl m, u)
  why-failed left fault p lanes now bs cs told told_now last cause n (inl (inr (inl lane), u)) = inl (inr (inr (inl lane)), u)
  why-failed left fault p lanes now bs cs told told_now last cause n (inl (inr (inr bench), u)) = by (bench-cause bs cs cause n bench)
    where
      by : (cause ≡ Memory) ⊎ ((cause ≡ SpillFault) × SomeRose (λ (b : Bench S). faults b.store) bs cs) → FoldFailed faults left fault p lanes now bs cs told told_now last cause
      by (inl m) = inl (inl m, u)
      by (inr rose) = inl (inr (inr (inr rose)), u)
  why-failed left fault p lanes now bs cs told told_now last cause n (inr w) = inr w
