-- From groupers to desks, and through waves.
use Rattle.std.proofs.Common.{◌≡◌, ℕ, zero, suc, ◌+◌, ◌<◌, List, [], ◌∷◌, ◌++◌, length, get_or, map, refl, sym, ap, ap₂, ◌∙◌, subst, arith, true, false, Bool, All, ◌⊎◌, inl, inr, ⊎_elim, sum_by, length-append}
use Rattle.std.specs.Prelude.{Some}
use Rattle.std.proofs.lemmas.List.{append-nil, append_assoc, get_or-map, length-map, map-append}
use Rattle.std.proofs.lemmas.List.Elements.{All-append, All-cons, All-head, All-nil}
use Rattle.std.proofs.lemmas.List.Sorted.{IsPermutation-trans, length_permutation}
use Rattle.pdq_spill.specs.declared.faults.ExecFault.{ExecFault}
use Rattle.pdq_spill.specs.Faults.{IsOfStore}
use Rattle.pdq_exchange.specs.Batches.{BatchView, Row, empty_batch}
use Rattle.pdq_exchange.specs.Roles.{Coming, IsComing}
use Rattle.pdq_exchange.specs.Routing.{owner_of}
use Rattle.pdq_exchange.specs.Waves.{at_each}
use Rattle.pdq_exchange.specs.declared.desk.Desk.{Desk}
use Rattle.pdq_exchange.specs.declared.lane.Lane.{Lane}
use Rattle.pdq_exchange.proofs.Spread.{owner_within}
use Rattle.pdq_group.specs.Groupers.{GrouperView, KeepsShape, Took}
use Rattle.pdq_owner.specs.FolderLaws.{folder-none}
use Rattle.pdq_owner.specs.Folders.{FolderView, KeepsFolder, TakesFolds}
use Rattle.pdq_owner.specs.Phases.{DeskFailed, HoldFew, HoldMore, SomeFull, WereSent}
use Rattle.pdq_gather.specs.Homes.{Each}
use Rattle.pdq_gather.specs.Rows.{Comes}
use Rattle.pdq_gather.specs.Groups.{DeskStoreFailed, FoldedBy, fresh_folder, groupers_at}
use Rattle.pdq_gather.proofs.Lists.{first_of, joined, length-joined, one-joined}
use Rattle.pdq_gather.proofs.Dividing.{Divided, divided}
use Rattle.pdq_gather.proofs.Coming.{all-given, no-more-given}

shape-none : (g : GrouperView) → KeepsShape g g
shape-none g = (folder-none (fresh_folder g)).shape

pub each-same : (gs : List GrouperView) → Each KeepsShape gs gs
each-same [] = tt
each-same (g ∷ gs) = (shape-none g, each-same gs)

abbrev owner_at : Desk FolderView → FolderView
owner_at desk = desk.owner

fresh-groupers : (gs : List GrouperView) → map (λ (f : FolderView). f.grouper) (map fresh_folder gs) ≡ gs
fresh-groupers [] = refl
fresh-groupers (g ∷ gs) = ap (λ (l : List GrouperView). g ∷ l) (fresh-groupers gs)

desk-groupers : (ds : List (Desk FolderView)) → map (λ (f : FolderView). f.grouper) (map owner_at ds) ≡ groupers_at ds
desk-groupers [] = refl
desk-groupers (d ∷ ds) = ap (λ (l : List GrouperView). d.owner.grouper ∷ l) (desk-groupers ds)

module _ (ds : List (Desk FolderView)) (rest all : List GrouperView) (e : map (λ desk. desk.owner) ds ++ map fresh_folder rest ≡ map fresh_folder all) where
  -- the groupers at desks, and those that are not there yet
  pub opened : groupers_at ds ++ rest ≡ all
  opened =
      ap₂ (λ (a b : List GrouperView). a ++ b) (sym (desk-groupers ds)) (sym (fresh-groupers rest))
      ∙ (sym (map-append (λ (f : FolderView). f.grouper) (map owner_at ds) (map fresh_folder rest)) ∙ (ap (map (λ (f : FolderView). f.grouper)) e ∙ fresh-groupers all))

  pub opened-kept : Each KeepsShape all (groupers_at ds ++ rest)
  opened-kept = subst (λ (l : List GrouperView). Each KeepsShape all l) (sym opened) (each-same all)

  pub many : length ds + length rest ≡ length all
  many = omega (arith, ap (λ (l : List FolderView). length l) e, length-append (map owner_at ds) (map fresh_folder rest), length-map ds owner_at, length-map rest fresh_folder, length-map all fresh_folder)

shapes : (xs ys : List (Desk FolderView)) → length ys ≡ length xs → at_each xs ys (λ j old new. KeepsFolder old.owner new.owner) → Each KeepsShape (groupers_at xs) (groupers_at ys)
shapes [] [] n h = tt
shapes [] (y ∷ ys) n h = absurd (omega (arith, n))
shapes (x ∷ xs) [] n h = absurd (omega (arith, n))
shapes (x ∷ xs) (y ∷ ys) n h = ((h 0 x (omega arith)).shape, shapes xs ys (omega (arith, n)) (λ i d l. h (suc i) d (omega arith)))

full-or-none : (ds : List (Desk FolderView)) → SomeFull (λ f. f.full) ds ⊎ All (λ desk. desk.owner.full ≡ false) ds
full-or-none [] = inr (All-nil (λ desk. desk.owner.full ≡ false))
full-or-none (d ∷ ds) = by d.owner.full refl (full-or-none ds)
  where
    by : (b : Bool) → d.owner.full ≡ b → (SomeFull (λ f. f.full) ds ⊎ All (λ desk. desk.owner.full ≡ false) ds) → SomeFull (λ f. f.full) (d ∷ ds) ⊎ All (λ desk. desk.owner.full ≡ false) (d ∷ ds)
    by true e h = inl (0, omega arith, λ x. e)
    by false e (inl h) = inl (suc h.0, omega (arith, h.1), λ x. h.2 x)
    by false e (inr h) = inr (All-cons (λ desk. desk.owner.full ≡ false) d ds e h)

module _ (d0 d1 : List (Desk FolderView)) (all now : List GrouperView) (n : length d1 ≡ length d0) (e : map (λ desk. desk.owner) d0 ++ map fresh_folder now ≡ map fresh_folder all) (none : now ≡ []) where
  pub as-many : length d0 ≡ length all
  as-many = omega (arith, many d0 now all e, ap (λ (l : List GrouperView). length l) none)

  before-is : groupers_at d0 ≡ all
  before-is = sym (append-nil (groupers_at d0)) ∙ (ap (λ (l : List GrouperView). groupers_at d0 ++ l) (sym none) ∙ opened d0 now all e)

  -- after waves the groupers have their shapes
  pub ran-kept : at_each d0 d1 (λ j old new. KeepsFolder old.owner new.owner) → Each KeepsShape all (groupers_at d1 ++ now)
  ran-kept kept = subst (λ (l : List GrouperView). Each KeepsShape all (groupers_at d1 ++ l)) (sym none)
      (subst (λ (l : List GrouperView). Each KeepsShape all l) (sym (append-nil (groupers_at d1))) (subst (λ (l : List GrouperView). Each KeepsShape l (groupers_at d1)) before-is (shapes d0 d1 n kept)))

  owners-are : map owner_at d0 ≡ map fresh_folder all
  owners-are = sym (append-nil (map owner_at d0)) ∙ (ap (λ (l : List GrouperView). map owner_at d0 ++ map fresh_folder l) (sym none) ∙ e)

  -- each owner was fresh
  started : (j : ℕ) (d : Desk FolderView) → j < length d0 → (get_or d0 j d).owner ≡ fresh_folder (get_or all j d.owner.grouper)
  started j d l =
      sym (get_or-map owner_at d0 j d d.owner l)
      ∙ (ap (λ (os : List FolderView). get_or os j d.owner) owners-are ∙ get_or-map fresh_folder all j d.owner.grouper d.owner (omega (arith, l, as-many)))

  -- a desk that failed is one whose store did
  pub store-failed : at_each d0 d1 (λ j old new. KeepsFolder old.owner new.owner) → (cause : ExecFault) → DeskFailed (λ f. f.fault) d1 cause → DeskStoreFailed all d1 cause
  store-failed kept cause h =
      let j = h.0 in
      let l : j < length d0 = omega (arith, h.1, n) in (
        j,
        h.1,
        λ g d.
            let x : Desk FolderView = record { owner = fresh_folder g; batch = d.batch; outcome = d.outcome } in
            let was : (get_or d0 j x).owner ≡ fresh_folder (get_or all j g) = started j x l in
            subst (λ (m : ℕ). IsOfStore cause m (get_or d1 j d).owner.grouper.store.faults) (ap (λ (f : FolderView). f.grouper.store.faults) was)
            (subst (λ (m : ℕ). IsOfStore cause (get_or d0 j x).owner.grouper.store.faults m) (ap (λ (y : Desk FolderView). y.owner.grouper.store.faults) (any j x d h.1))
            ((kept j x l).cause cause (h.2 x) (ap (λ (f : FolderView). f.fault) was))),
      )
    where
      any : (j : ℕ) (x d : Desk FolderView) → j < length d1 → get_or d1 j x ≡ get_or d1 j d
      any j x d l = same d1 j l
        where
          same : (ds : List (Desk FolderView)) (i : ℕ) → i < length ds → get_or ds i x ≡ get_or ds i d
          same [] i l = absurd (omega arith)
          same (y ∷ ds) zero l = refl
          same (y ∷ ds) (suc i) l = same ds i (omega arith)

  module _ {S : Type 0} (left : S → Coming) (keys : List ℕ) (some : 0 < length all) (lanes lanes_now : List (Lane S)) (fresh : All (λ g. Took g []) all) (sent : WereSent left TakesFolds (owner_of keys (length all)) lanes lanes_now d0 d1) where
    abbrev owner : Row → ℕ
    owner = owner_of keys (length all)

    parted : Divided owner TakesFolds sent.given d0 d1
    parted = divided owner left TakesFolds sent.given lanes lanes_now d0 d1 (λ row. subst (λ (m : ℕ). owner row < m) (sym as-many) (owner_within keys (length all) row some)) sent.are

    began : (j : ℕ) (d : Desk FolderView) → j < length d0 → TakesFolds (fresh_folder (get_or all j d.owner.grouper)) (get_or parted.parts j []) (get_or d1 j d).owner
    began j d l = subst (λ (f : FolderView). TakesFolds f (get_or parted.parts j []) (get_or d1 j d).owner) (started j d l) (parted.took j d l)

    -- an owner that has stopped had too many
    full-over : SomeFull (λ f. f.full) d1 → 20000000 < length (joined parted.parts)
    full-over h =
        let j = h.0 in
        let d = first_of d1 (omega (arith, h.1)) in
        let l : j < length d0 = omega (arith, h.1, n) in
        let over = (began j d l).over refl (h.2 d) in
        omega (arith, over, one-joined parted.parts j (omega (arith, l, parted.count)))

    module _ (none_full : All (λ desk. desk.owner.full ≡ false) d1) where
      sum-is : sum_by (λ (desk : Desk FolderView). desk.owner.rows) d1 ≡ length (joined parted.parts)
      sum-is = length-joined (λ (desk : Desk FolderView). desk.owner.rows) d1 parted.parts (parted.count ∙ sym n) (λ i d l.
          let c : (get_or d1 i d).owner.rows ≡ 0 + length (get_or parted.parts i []) = (began i d (omega (arith, l, n))).count refl (none_full i d l) in omega (arith, c))

      pub folded-by : (width : S → ℕ) → ((s : S) → IsComing (width s) (left s)) → All (λ lane. (left lane.scanner).count ≡ 0) lanes_now → HoldFew (λ (desk : Desk FolderView). desk.owner.rows) (Some 20000000) d1 → FoldedBy left owner lanes d1
      folded-by width coming ended few = record {
        sent = joined parted.parts;
        all = λ rows comes. IsPermutation-trans _ _ _ (all-given left lanes lanes_now sent.given sent.are.one_each sent.are.same_lanes sent.are.gave rows comes width coming ended) parted.same;
        took = λ j d l. let m : j < length d0 = omega (arith, l, n) in
            subst (λ (rows : List Row). Took (get_or d1 j d).owner.grouper rows) (sym (parted.own j m)) ((began j d m).took_all refl (none_full j d l) [] (fresh j d.owner.grouper (omega (arith, m, as-many))));
        few = omega (arith, few, sum-is);
      }

    -- and where the owners together held too many, too many were to come
    pub over : (rows : List Row) → Comes left lanes rows → (SomeFull (λ f. f.full) d1 ⊎ HoldMore (λ (desk : Desk FolderView). desk.owner.rows) (Some 20000000) d1) → 20000000 < length rows
    over rows comes h =
        let sent-few = no-more-given left lanes lanes_now sent.given sent.are.one_each sent.are.same_lanes sent.are.gave rows comes in
        let parts-over : 20000000 < length (joined parted.parts) = ⊎_elim full-over (λ more. ⊎_elim full-over (λ nf. omega (arith, more, sum-is nf)) (full-or-none d1)) h in
        omega (arith, sent-few, parts-over, length_permutation (joined sent.given) (joined parted.parts) parted.same)

-- one more grouper goes to a desk
pub moved-more : (ds ds2 : List (Desk FolderView)) (gs rest all : List GrouperView) (g : GrouperView) (d : Desk FolderView) → map (λ desk. desk.owner) ds ++ map fresh_folder gs ≡ map fresh_folder all → gs ≡ g ∷ rest → d.owner ≡ fresh_folder g → ds2 ≡ ds ++ d ∷ [] →
    map (λ desk. desk.owner) ds2 ++ map fresh_folder rest ≡ map fresh_folder all
moved-more ds ds2 gs rest all g d e first own push =
    ap (λ (l : List (Desk FolderView)). map owner_at l ++ map fresh_folder rest) push
    ∙ (ap (λ (l : List FolderView). l ++ map fresh_folder rest) (map-append owner_at ds (d ∷ []) ∙ ap (λ (f : FolderView). map owner_at ds ++ f ∷ []) own)
    ∙ (append_assoc (map owner_at ds) (fresh_folder g ∷ []) (map fresh_folder rest)
    ∙ (ap (λ (l : List GrouperView). map owner_at ds ++ map fresh_folder l) (sym first) ∙ e)))

pub widths-push : (width : ℕ) (ds ds2 : List (Desk FolderView)) (gs rest : List GrouperView) (g : GrouperView) (d : Desk FolderView) →
    All (λ desk. (desk.owner.grouper.table.keys + length desk.owner.grouper.table.folds ≡ width) × (desk.batch.width ≡ width)) ds → All (λ j. j.table.keys + length j.table.folds ≡ width) gs → gs ≡ g ∷ rest → d.owner ≡ fresh_folder g → d.batch ≡ empty_batch width → ds2 ≡ ds ++ d ∷ [] →
    All (λ desk. (desk.owner.grouper.table.keys + length desk.owner.grouper.table.folds ≡ width) × (desk.batch.width ≡ width)) ds2
widths-push width ds ds2 gs rest g d h k first own batch push =
    let P : Desk FolderView → Type 0 = λ desk. (desk.owner.grouper.table.keys + length desk.owner.grouper.table.folds ≡ width) × (desk.batch.width ≡ width) in
    let here : g.table.keys + length g.table.folds ≡ width = All-head (λ (j : GrouperView). j.table.keys + length j.table.folds ≡ width) g rest (subst (λ (l : List GrouperView). All (λ (j : GrouperView). j.table.keys + length j.table.folds ≡ width) l) first k) in
    let one : P d = (ap (λ (f : FolderView). f.grouper.table.keys + length f.grouper.table.folds) own ∙ here, ap (λ (b : BatchView). b.width) batch) in
    subst (λ (l : List (Desk FolderView)). All P l) (sym push) (All-append P ds (d ∷ []) h (All-cons P d [] one (All-nil P)))
