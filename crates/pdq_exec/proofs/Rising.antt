-- Stores after stages in a row, and those that failed.
use Rattle.std.proofs.Common.{◌≡◌, ℕ, zero, suc, ◌<◌, ◌≤◌, ◌⊎◌, inl, inr, ⊎_elim, List, [], ◌∷◌, length, get_or, map, sym, subst, arith, All}
use Rattle.std.specs.Prelude.{Option, IsSome}
use Rattle.std.specs.List.{AllZip}
use Rattle.std.proofs.lemmas.List.Elements.{All-cons, All-head, All-nil, All-tail}
use Rattle.std.proofs.Math.Nat.{le_trans}
use Rattle.pdq_edge.specs.Causes.{Rose}
use Rattle.pdq_spill.specs.declared.bench.Bench.{Bench}
use Rattle.pdq_spill.specs.declared.faults.ExecFault.{ExecFault}
use Rattle.pdq_spill.specs.declared.faults.ExecFault.TheVariants.{Memory, RowLimit, SpillFault}
use Rattle.pdq_spill.specs.Stores.{StoreView}
use Rattle.pdq_owner.specs.FaultLaws.{of_store-before}
use Rattle.pdq_owner.specs.Phases.{WasStopped}
use Rattle.pdq_seat.specs.Stores.{IsBenchLater, IsLater, SomeRose}
use Rattle.pdq_seat.proofs.Storing.{later-on, zip-none, zip-on}
use Rattle.pdq_stage.specs.Spooling.{IsLaterView}
use Rattle.pdq_stage.proofs.Sealing.{view-none}
use Rattle.pdq_step.specs.Homes.{store_of}
use Rattle.pdq_exec.specs.Between.{StageFailed}
use Rattle.pdq_exec.specs.Runs.{AreTold}
use Rattle.pdq_exec.specs.Stages.{BenchesTell}

-- some of these rose
module _ {X : Type 0} (count : X → ℕ) where
  pub rose-from : (xs ys : List X) (j : ℕ) (a b : X) → j < length xs → length ys ≡ length xs → Rose (count (get_or xs j a)) (count (get_or ys j b)) → SomeRose count xs ys
  rose-from [] ys j a b l n h = absurd (omega (arith, l))
  rose-from (x ∷ xs) [] j a b l n h = absurd (omega (arith, n))
  rose-from (x ∷ xs) (y ∷ ys) zero a b l n h = inl h
  rose-from (x ∷ xs) (y ∷ ys) (suc j) a b l n h = inr (rose-from xs ys j a b (omega (arith, l)) (omega (arith, n)) h)

  module _ (R : X → X → Type 0) (grows : (a b : X) → R a b → count a ≤ count b) where
    pub rose-later : (xs ys zs : List X) → SomeRose count xs ys → AllZip R ys zs → SomeRose count xs zs
    rose-later [] ys zs r h = absurd r
    rose-later (x ∷ xs) [] zs r h = absurd r
    rose-later (x ∷ xs) (y ∷ ys) [] r h = absurd h
    rose-later (x ∷ xs) (y ∷ ys) (z ∷ zs) (inl r) h = inl (le_trans r (grows y z h.0))
    rose-later (x ∷ xs) (y ∷ ys) (z ∷ zs) (inr r) h = inr (rose-later xs ys zs r h.1)

    pub rose-before : (xs ys zs : List X) → AllZip R xs ys → SomeRose count ys zs → SomeRose count xs zs
    rose-before [] [] zs h r = absurd r
    rose-before [] (y ∷ ys) zs h r = absurd h
    rose-before (x ∷ xs) [] zs h r = absurd h
    rose-before (x ∷ xs) (y ∷ ys) [] h r = absurd r
    rose-before (x ∷ xs) (y ∷ ys) (z ∷ zs) h (inl r) = inl (of_store-before SpillFault (count x) (count y) (count z) (grows x y h.0) r)
    rose-before (x ∷ xs) (y ∷ ys) (z ∷ zs) h (inr r) = inr (rose-before xs ys zs h.1 r)

pub view-on : (a b c : StoreView) → IsLaterView a b → IsLaterView b c → IsLaterView a c
view-on a b c h k = record { later = le_trans h.later k.later; more = le_trans h.more k.more; told = λ t. k.told (h.told t) }

pub views-same : (xs ys : List StoreView) → ys ≡ xs → AllZip IsLaterView xs ys
views-same xs ys e = subst (λ (l : List StoreView). AllZip IsLaterView xs l) (sym e) (zip-none IsLaterView view-none xs)

pub views-on : (xs ys zs : List StoreView) → AllZip IsLaterView xs ys → AllZip IsLaterView ys zs → AllZip IsLaterView xs zs
views-on xs ys zs h k = zip-on IsLaterView view-on xs ys zs h k

abbrev pub ViewsRose : List StoreView → List StoreView → Type 0
ViewsRose xs ys = SomeRose (λ (v : StoreView). v.faults) xs ys

pub views-rose-later : (xs ys zs : List StoreView) → ViewsRose xs ys → AllZip IsLaterView ys zs → ViewsRose xs zs
views-rose-later xs ys zs r h = rose-later (λ (v : StoreView). v.faults) IsLaterView (λ a b k. k.later) xs ys zs r h

pub views-rose-before : (xs ys zs : List StoreView) → AllZip IsLaterView xs ys → ViewsRose ys zs → ViewsRose xs zs
views-rose-before xs ys zs h r = rose-before (λ (v : StoreView). v.faults) IsLaterView (λ a b k. k.later) xs ys zs h r

-- all tell their blocks still
module _ {X : Type 0} (blocks : X → Option (List (List ℕ))) (R : X → X → Type 0) (tells : (a b : X) → R a b → IsSome (blocks a) → IsSome (blocks b)) where
  pub tell-later : (xs ys : List X) → AllZip R xs ys → All (λ (x : X). IsSome (blocks x)) xs → All (λ (x : X). IsSome (blocks x)) ys
  tell-later [] [] h t = t
  tell-later [] (y ∷ ys) h t = absurd h
  tell-later (x ∷ xs) [] h t = absurd h
  tell-later (x ∷ xs) (y ∷ ys) h t = All-cons (λ (z : X). IsSome (blocks z)) y ys (tells x y h.0 (All-head (λ (z : X). IsSome (blocks z)) x xs t)) (tell-later xs ys h.1 (All-tail (λ (z : X). IsSome (blocks z)) x xs t))

module _ {S : Type 0} (blocks : S → Option (List (List ℕ))) (held puts faults : S → ℕ) where
  abbrev pub view : S → StoreView
  view s = store_of blocks held puts faults s

  -- stores by what they tell
  pub later-of_views : (xs ys : List S) → AllZip IsLaterView (map view xs) (map view ys) → AllZip (IsLater blocks faults puts) xs ys
  later-of_views [] [] h = tt
  later-of_views [] (y ∷ ys) h = absurd h
  later-of_views (x ∷ xs) [] h = absurd h
  later-of_views (x ∷ xs) (y ∷ ys) h = (record { later = h.0.later; more = h.0.more; told = h.0.told }, later-of_views xs ys h.1)

  pub views-of_later : (xs ys : List S) → AllZip (IsLater blocks faults puts) xs ys → AllZip IsLaterView (map view xs) (map view ys)
  views-of_later [] [] h = tt
  views-of_later [] (y ∷ ys) h = absurd h
  views-of_later (x ∷ xs) [] h = absurd h
  views-of_later (x ∷ xs) (y ∷ ys) h = (record { later = h.0.later; more = h.0.more; told = h.0.told }, views-of_later xs ys h.1)

  pub rose-of_views : (xs ys : List S) → ViewsRose (map view xs) (map view ys) → SomeRose faults xs ys
  rose-of_views [] ys r = absurd r
  rose-of_views (x ∷ xs) [] r = absurd r
  rose-of_views (x ∷ xs) (y ∷ ys) (inl r) = inl r
  rose-of_views (x ∷ xs) (y ∷ ys) (inr r) = inr (rose-of_views xs ys r)

  pub told-views : (xs : List S) → AreTold blocks xs → All (λ (v : StoreView). IsSome v.blocks) (map view xs)
  told-views [] h = All-nil (λ (v : StoreView). IsSome v.blocks)
  told-views (x ∷ xs) h = All-cons (λ (v : StoreView). IsSome v.blocks) (view x) (map view xs) (All-head (λ (s : S). IsSome (blocks s)) x xs h) (told-views xs (All-tail (λ (s : S). IsSome (blocks s)) x xs h))

  pub stores-tell : (xs ys : List S) → AllZip (IsLater blocks faults puts) xs ys → AreTold blocks xs → AreTold blocks ys
  stores-tell xs ys h t = tell-later blocks (IsLater blocks faults puts) (λ a b k. k.told) xs ys h t

  pub benches-tell : (bs cs : List (Bench S)) → AllZip (IsBenchLater blocks faults puts) bs cs → BenchesTell blocks bs → BenchesTell blocks cs
  benches-tell bs cs h t = tell-later (λ (b : Bench S). blocks b.store) (IsBenchLater blocks faults puts) (λ a b k. k.store_is.told) bs cs h t

  pub stores-on : (xs ys zs : List S) → AllZip (IsLater blocks faults puts) xs ys → AllZip (IsLater blocks faults puts) ys zs → AllZip (IsLater blocks faults puts) xs zs
  stores-on xs ys zs h k = zip-on (IsLater blocks faults puts) (later-on blocks faults puts) xs ys zs h k

  pub stores-rose-later : (xs ys zs : List S) → SomeRose faults xs ys → AllZip (IsLater blocks faults puts) ys zs → SomeRose faults xs zs
  stores-rose-later xs ys zs r h = rose-later faults (IsLater blocks faults puts) (λ a b k. k.later) xs ys zs r h

  pub stores-rose-before : (xs ys zs : List S) → AllZip (IsLater blocks faults puts) xs ys → SomeRose faults ys zs → SomeRose faults xs zs
  stores-rose-before xs ys zs h r = rose-before faults (IsLater blocks faults puts) (λ a b k. k.later) xs ys zs h r

  pub benches-rose-before : (xs ys zs : List (Bench S)) → AllZip (IsBenchLater blocks faults puts) xs ys → SomeRose (λ (b : Bench S). faults b.store) ys zs → SomeRose (λ (b : Bench S). faults b.store) xs zs
  benches-rose-before xs ys zs h r = rose-before (λ (b : Bench S). faults b.store) (IsBenchLater blocks faults puts) (λ a b k. k.store_is.later) xs ys zs h r

-- a cause with other words for its parts
pub failed-with : {lane limit spilled lane' limit' spilled' : Type 0} {told told_now last : ℕ} (cause : ExecFault) → (lane → (cause ≡ Memory) ⊎ (lane' ⊎ (((cause ≡ RowLimit) × limit') ⊎ ((cause ≡ SpillFault) × spilled')))) → (limit → limit') → (spilled → spilled') → StageFailed lane limit spilled told told_now last cause → StageFailed lane' limit' spilled' told told_now last cause
failed-with cause f g h (inl (inl m, u)) = inl (inl m, u)
failed-with cause f g h (inl (inr (inl l), u)) = inl (f l, u)
failed-with cause f g h (inl (inr (inr (inl l)), u)) = inl (inr (inr (inl (l.0, g l.1))), u)
failed-with cause f g h (inl (inr (inr (inr r)), u)) = inl (inr (inr (inr (r.0, h r.1))), u)
failed-with cause f g h (inr w) = inr w

-- the cause of a join, once what stores and outs answered is known
pub stage-from : {lane some limit spilled : Type 0} {told told_now last : ℕ} (cause : ExecFault) → (some → (cause ≡ Memory) ⊎ ((cause ≡ SpillFault) × spilled)) → ((((cause ≡ Memory) ⊎ (lane ⊎ some)) × (told_now ≡ told)) ⊎ WasStopped told told_now last cause) → StageFailed lane limit spilled told told_now last cause
stage-from cause f (inl (inl m, u)) = inl (inl m, u)
stage-from cause f (inl (inr (inl l), u)) = inl (inr (inl l), u)
stage-from cause f (inl (inr (inr s), u)) = inl (⊎_elim (λ m. inl m) (λ r. inr (inr (inr r))) (f s), u)
stage-from cause f (inr w) = inr w

-- nothing told it to stop before
pub told-on : {lane limit spilled : Type 0} {told before told_now last : ℕ} (cause : ExecFault) → before ≡ told → StageFailed lane limit spilled before told_now last cause → StageFailed lane limit spilled told told_now last cause
told-on {lane} {limit} {spilled} {told} {before} {told_now} {last} cause e h = subst (λ (m : ℕ). StageFailed lane limit spilled m told_now last cause) e h
