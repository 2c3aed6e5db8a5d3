-- What comes back of groupers in every case.
use Rattle.std.proofs.Common.{◌≡◌, ℕ, zero, suc, ◌+◌, ◌<◌, ◌≤◌, List, [], ◌∷◌, ◌++◌, length, get_or, refl, sym, ap, ap₂, ◌∙◌, subst, arith, All, length-append}
use Rattle.std.proofs.Math.Nat.{le_trans}
use Rattle.std.proofs.lemmas.List.{append-nil, get_or-map, length-map}
use Rattle.std.proofs.lemmas.List.Elements.{All-cons, All-head, All-nil, All-tail}
use Rattle.pdq_spill.specs.Faults.{IsOfStore}
use Rattle.pdq_spill.specs.Stores.{StoreView}
use Rattle.pdq_spill.specs.declared.bench.Bench.{Bench}
use Rattle.pdq_spill.specs.declared.faults.ExecFault.{ExecFault}
use Rattle.pdq_spill.specs.declared.faults.ExecFault.TheVariants.{SpillFault, Stopped, RowLimit, Memory}
use Rattle.pdq_spill.proofs.Growing.{grown-none, grown-on}
use Rattle.pdq_exchange.specs.declared.desk.Desk.{Desk}
use Rattle.pdq_group.specs.declared.shape.Fold.{Fold}
use Rattle.pdq_group.specs.declared.grouper.Folded.{Folded}
use Rattle.pdq_group.specs.Folds.{words_of_folds}
use Rattle.pdq_group.specs.Groupers.{GrouperView, KeepsShape}
use Rattle.pdq_owner.specs.FaultLaws.{of_store-before}
use Rattle.pdq_owner.specs.Folders.{FolderView}
use Rattle.pdq_gather.specs.Homes.{Each, HomeOf, IsHome, StoreFailed}
use Rattle.pdq_gather.specs.Groups.{DeskHome, DeskStoreFailed, EndFailed, IsReceipt, groupers_at}
use Rattle.pdq_gather.proofs.Lists.{Each-append, Each-at, Each-length, first_of}

-- a bench that was given up as it was
pub left-home : (g : GrouperView) (frames : ℕ) (s : StoreView) → frames ≡ g.table.frames → s.blocks ≡ g.store.blocks → s.held ≡ g.store.held → s.puts ≡ g.store.puts → s.faults ≡ g.store.faults → IsHome g frames s
left-home g frames s f b h p x = record {
  frames_are = f;
  grown = let n = grown-none g.store in record { more = n.more; blocks = b ∙ n.blocks; held = h ∙ n.held; puts = p ∙ n.puts; later = subst (λ (m : ℕ). g.store.faults ≤ m) (sym x) n.later };
}

module _ {S : Type 0} (store : S → StoreView) where
  then-home : (g h : GrouperView) (b : Bench S) → KeepsShape g h → HomeOf store h b → HomeOf store g b
  then-home g h b k e = record { frames_are = e.frames_are ∙ k.frames; grown = grown-on g.store h.store (store b.store) k.grown e.grown }

  all-home : (gs hs : List GrouperView) (bs : List (Bench S)) → Each KeepsShape gs hs → Each (HomeOf store) hs bs → Each (HomeOf store) gs bs
  all-home [] [] bs k h = h
  all-home [] (x ∷ hs) bs k h = absurd k
  all-home (g ∷ gs) [] bs k h = absurd k
  all-home (g ∷ gs) (x ∷ hs) [] k h = absurd h
  all-home (g ∷ gs) (x ∷ hs) (b ∷ bs) k h = (then-home g x b k.0 h.0, all-home gs hs bs k.1 h.1)

  of-desks : (ds : List (Desk FolderView)) (bs : List (Bench S)) → Each (DeskHome store) ds bs → Each (HomeOf store) (groupers_at ds) bs
  of-desks [] [] h = tt
  of-desks [] (b ∷ bs) h = absurd h
  of-desks (d ∷ ds) [] h = absurd h
  of-desks (d ∷ ds) (b ∷ bs) h = (h.0, of-desks ds bs h.1)

  -- the benches of those that were at desks, and of those that were not
  pub back : (all rest : List GrouperView) (ds : List (Desk FolderView)) (bs more benches : List (Bench S)) → Each KeepsShape all (groupers_at ds ++ rest) → Each (DeskHome store) ds bs → Each (HomeOf store) rest more → benches ≡ bs ++ more → Each (HomeOf store) all benches
  back all rest ds bs more benches k h m e = subst (λ (l : List (Bench S)). Each (HomeOf store) all l) (sym e)
      (all-home all (groupers_at ds ++ rest) (bs ++ more) k (Each-append (HomeOf store) (groupers_at ds) rest bs more (of-desks ds bs h) m))

-- where no grouper is left behind
pub all-at-desks : (all rest : List GrouperView) (ds : List (Desk FolderView)) → rest ≡ [] → Each KeepsShape all (groupers_at ds ++ rest) → Each KeepsShape all (groupers_at ds)
all-at-desks all rest ds none k = subst (λ (l : List GrouperView). Each KeepsShape all l) (ap (λ (l : List GrouperView). groupers_at ds ++ l) none ∙ append-nil (groupers_at ds)) k

pub desks-many : (all rest : List GrouperView) (ds : List (Desk FolderView)) → Each KeepsShape all (groupers_at ds ++ rest) → length ds + length rest ≡ length all
desks-many all rest ds k = omega (arith, Each-length KeepsShape all (groupers_at ds ++ rest) k, length-append (groupers_at ds) rest, length-map ds (λ (desk : Desk FolderView). desk.owner.grouper))

-- the width of what is put stays
pub widths-after : (w : ℕ) (gs rest : List GrouperView) (ds : List (Desk FolderView)) → Each KeepsShape gs (groupers_at ds ++ rest) → All (λ g. w ≡ g.table.keys + words_of_folds g.table.folds) gs → All (λ desk. w ≡ desk.owner.grouper.table.keys + words_of_folds desk.owner.grouper.table.folds) ds
widths-after w gs rest [] e h = All-nil (λ desk. w ≡ desk.owner.grouper.table.keys + words_of_folds desk.owner.grouper.table.folds)
widths-after w [] rest (d ∷ ds) e h = absurd e
widths-after w (g ∷ gs) rest (d ∷ ds) e h = All-cons (λ desk. w ≡ desk.owner.grouper.table.keys + words_of_folds desk.owner.grouper.table.folds) d ds
    (All-head (λ g. w ≡ g.table.keys + words_of_folds g.table.folds) g gs h ∙ ap₂ (λ (k : ℕ) (l : List Fold). k + words_of_folds l) (sym e.0.keys) (sym e.0.folds))
    (widths-after w gs rest ds e.1 (All-tail (λ g. w ≡ g.table.keys + words_of_folds g.table.folds) g gs h))

in-front : {X : Type 0} (xs ys : List X) (i : ℕ) (b : X) → i < length xs → get_or (xs ++ ys) i b ≡ get_or xs i b
in-front [] ys i b l = absurd (omega arith)
in-front (x ∷ xs) ys zero b l = refl
in-front (x ∷ xs) ys (suc i) b l = in-front xs ys i b (omega arith)

-- a fault so far is one of all
of_store-after : (cause : ExecFault) (m n o : ℕ) → n ≤ o → IsOfStore cause m n → IsOfStore cause m o
of_store-after SpillFault m n o l h = le_trans h l
of_store-after (Stopped s) m n o l h = h
of_store-after RowLimit m n o l h = h
of_store-after Memory m n o l h = h

module _ {S : Type 0} (store : S → StoreView) (cause : ExecFault) (all rest : List GrouperView) (ds : List (Desk FolderView)) (bs more benches : List (Bench S))
    (shapes : Each KeepsShape all (groupers_at ds ++ rest)) (home : Each (DeskHome store) ds bs) (are : benches ≡ bs ++ more) where
  bench-at : (j : ℕ) (b : Bench S) → j < length ds → get_or benches j b ≡ get_or bs j b
  bench-at j b l = ap (λ (xs : List (Bench S)). get_or xs j b) are ∙ in-front bs more j b (omega (arith, l, Each-length (DeskHome store) ds bs home))

  -- a store failed while rows came
  pub phase-failed : DeskStoreFailed all ds cause → StoreFailed (λ s. (store s).faults) all benches cause
  phase-failed f =
      let j = f.0 in (
        j,
        omega (arith, f.1, desks-many all rest ds shapes),
        λ g b.
            let d = first_of ds (omega (arith, f.1)) in
            subst (λ (x : Bench S). IsOfStore cause (get_or all j g).store.faults (store x.store).faults) (sym (bench-at j b f.1))
            (of_store-after cause (get_or all j g).store.faults (get_or ds j d).owner.grouper.store.faults (store (get_or bs j b).store).faults (Each-at (DeskHome store) ds bs home j d b f.1).grown.later (f.2 g d)),
      )

  -- a store failed as groupers ended
  pub end-failed : EndFailed (λ s. (store s).faults) ds bs cause → StoreFailed (λ s. (store s).faults) all benches cause
  end-failed f =
      let j = f.0 in (
        j,
        omega (arith, f.1, desks-many all rest ds shapes),
        λ g b.
            let d = first_of ds (omega (arith, f.1)) in
            let n : length (groupers_at ds) ≡ length ds = length-map ds (λ (desk : Desk FolderView). desk.owner.grouper) in
            let k : KeepsShape (get_or all j g) (get_or (groupers_at ds ++ rest) j g) = Each-at KeepsShape all (groupers_at ds ++ rest) shapes j g g (omega (arith, f.1, desks-many all rest ds shapes)) in
            let at : get_or (groupers_at ds ++ rest) j g ≡ (get_or ds j d).owner.grouper = in-front (groupers_at ds) rest j g (omega (arith, f.1, n)) ∙ get_or-map (λ (desk : Desk FolderView). desk.owner.grouper) ds j d g f.1 in
            let later : (get_or all j g).store.faults ≤ (get_or ds j d).owner.grouper.store.faults = subst (λ (x : GrouperView). (get_or all j g).store.faults ≤ x.store.faults) at k.grown.later in
            subst (λ (x : Bench S). IsOfStore cause (get_or all j g).store.faults (store x.store).faults) (sym (bench-at j b f.1))
            (of_store-before cause (get_or all j g).store.faults (get_or ds j d).owner.grouper.store.faults (store (get_or bs j b).store).faults later (f.2 d b)),
      )

-- the receipts' frames are the groupers'
pub frames-each : (gs : List GrouperView) (ds : List (Desk FolderView)) (fs : List Folded) → Each KeepsShape gs (groupers_at ds) → Each IsReceipt ds fs → Each (λ g f. f.frames ≡ g.table.frames) gs fs
frames-each [] [] fs k r = r
frames-each [] (d ∷ ds) fs k r = absurd k
frames-each (g ∷ gs) [] fs k r = absurd k
frames-each (g ∷ gs) (d ∷ ds) [] k r = absurd r
frames-each (g ∷ gs) (d ∷ ds) (f ∷ fs) k r = (r.0.frames ∙ k.0.frames, frames-each gs ds fs k.1 r.1)
