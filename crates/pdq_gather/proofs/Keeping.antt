-- From what owners kept to all rows.
use Rattle.std.proofs.Common.{◌≡◌, ℕ, suc, ◌+◌, ◌<◌, ◌≤◌, List, [], ◌∷◌, ◌++◌, length, get_or, map, refl, sym, ap, ap₂, ◌∙◌, subst, arith, Bool, true, false, flat_map, length-append, All, IsPermutation, ◌⊎◌, ⊎_elim, sum_by}
use Rattle.std.specs.Prelude.{Some}
use Rattle.std.proofs.lemmas.List.Elements.{All-map}
use Rattle.std.proofs.lemmas.List.Sorted.{IsPermutation-trans, length_permutation}
use Rattle.std.proofs.lemmas.List.Sums.{sum_by-cons}
use Rattle.pdq_spill.specs.declared.faults.ExecFault.{ExecFault}
use Rattle.pdq_spill.specs.declared.faults.ExecFault.TheVariants.{Memory}
use Rattle.pdq_exchange.specs.Batches.{Row}
use Rattle.pdq_exchange.specs.Roles.{Coming, IsComing}
use Rattle.pdq_exchange.specs.Routing.{owner_of}
use Rattle.pdq_exchange.specs.Waves.{at_each}
use Rattle.pdq_exchange.specs.declared.desk.Desk.{Desk}
use Rattle.pdq_exchange.specs.declared.lane.Lane.{Lane}
use Rattle.pdq_exchange.proofs.Spread.{owner_within}
use Rattle.pdq_owner.specs.Collectors.{CollectorView, KeepsCollector, TakesRows}
use Rattle.pdq_owner.specs.Keepers.{KeptView}
use Rattle.pdq_owner.specs.Phases.{DeskFailed, HoldFew, HoldMore, SomeFull, WereSent}
use Rattle.pdq_gather.specs.Rows.{Collected, Comes, IsFreshDesk}
use Rattle.pdq_gather.proofs.Lists.{first_of, joined, joined-atmost, one-joined}
use Rattle.pdq_gather.proofs.Dividing.{Divided, divided}
use Rattle.pdq_gather.proofs.Coming.{all-given, no-more-given}

some_is : {m n : ℕ} → Some m ≡ Some n → m ≡ n
some_is e = cc

-- the rows that desks hold
abbrev held : List (Desk CollectorView) → List Row
held desks = flat_map (λ (k : KeptView). k.rows) (map (λ (desk : Desk CollectorView). desk.owner.out) desks)

held-joined : (ds : List (Desk CollectorView)) (parts : List (List Row)) → length parts ≡ length ds → ((i : ℕ) (d : Desk CollectorView) → i < length ds → (get_or ds i d).owner.out.rows ≡ get_or parts i []) → held ds ≡ joined parts
held-joined [] [] n h = refl
held-joined [] (p ∷ parts) n h = absurd (omega (arith, n))
held-joined (d ∷ ds) [] n h = absurd (omega (arith, n))
held-joined (d ∷ ds) (p ∷ parts) n h = ap₂ (λ (a b : List Row). a ++ b) (h 0 d (omega arith)) (held-joined ds parts (omega (arith, n)) (λ i e l. h (suc i) e (omega (arith, l))))

count-held : (ds : List (Desk CollectorView)) → length (held ds) ≡ sum_by (λ (desk : Desk CollectorView). length desk.owner.out.rows) ds
count-held [] = refl
count-held (d ∷ ds) = length-append d.owner.out.rows (held ds) ∙ (ap (λ (n : ℕ). length d.owner.out.rows + n) (count-held ds) ∙ sym (sum_by-cons (λ (desk : Desk CollectorView). length desk.owner.out.rows) d ds))

module _ {S : Type 0} (left : S → Coming) (width : ℕ) (keys : List ℕ) (lanes lanes_now : List (Lane S)) (d0 d1 : List (Desk CollectorView)) (some : 0 < length d0) (fresh : All (IsFreshDesk width) d0)
    (sent : WereSent left TakesRows (owner_of keys (length d0)) lanes lanes_now d0 d1) where
  abbrev owner : Row → ℕ
  owner = owner_of keys (length d0)

  n : length d1 ≡ length d0
  n = sent.are.same_desks

  parted : Divided owner TakesRows sent.given d0 d1
  parted = divided owner left TakesRows sent.given lanes lanes_now d0 d1 (λ row. owner_within keys (length d0) row some) sent.are

  -- an owner holds a front of its part
  in-part : (j : ℕ) (d : Desk CollectorView) → j < length d0 → length (get_or d1 j d).owner.out.rows ≤ length (get_or parted.parts j [])
  in-part j d l = by (get_or d1 j d).owner.full refl
    where
      t : TakesRows (get_or d0 j d).owner (get_or parted.parts j []) (get_or d1 j d).owner
      t = parted.took j d l

      by : (b : Bool) → (get_or d1 j d).owner.full ≡ b → length (get_or d1 j d).owner.out.rows ≤ length (get_or parted.parts j [])
      by true e =
          let front = t.part (fresh j d l).full e in
          let whole : length (get_or parted.parts j []) ≡ length (get_or d1 j d).owner.out.rows + length front.more = ap (λ (x : List Row). length (x ++ get_or parted.parts j [])) (sym (fresh j d l).rows) ∙ (ap (λ (x : List Row). length x) front.are ∙ length-append (get_or d1 j d).owner.out.rows front.more) in
          omega (arith, whole)
      by false e =
          let same : (get_or d1 j d).owner.out.rows ≡ get_or parted.parts j [] = t.took (fresh j d l).full e ∙ ap (λ (x : List Row). x ++ get_or parted.parts j []) (fresh j d l).rows in
          omega (arith, ap (λ (x : List Row). length x) same)

  -- where the owners stopped, too many rows were to come
  pub over : (rows : List Row) → Comes left lanes rows → (SomeFull (λ (c : CollectorView). c.full) d1 ⊎ HoldMore (λ (desk : Desk CollectorView). length desk.owner.out.rows) (Some 20000000) d1) → 20000000 < length rows
  over rows comes h =
      let sent-few = no-more-given left lanes lanes_now sent.given sent.are.one_each sent.are.same_lanes sent.are.gave rows comes in
      let parts-over : 20000000 < length (joined parted.parts) = ⊎_elim
      (λ full.
      let j = full.0 in
      let d = first_of d1 (omega (arith, full.1)) in
      let l : j < length d0 = omega (arith, full.1, n) in
      let t = parted.took j d l in
      let most : 20000001 ≡ length (get_or d1 j d).owner.out.rows = some_is (sym (t.most ∙ (fresh j d l).most) ∙ t.over (fresh j d l).full (full.2 d)) in
      omega (arith, most, in-part j d l, one-joined parted.parts j (omega (arith, l, parted.count))))
      (λ more. omega (arith, more, joined-atmost (λ (desk : Desk CollectorView). length desk.owner.out.rows) d1 parted.parts (parted.count ∙ sym n) (λ i d l. in-part i d (omega (arith, l, n))))) h in
      omega (arith, sent-few, parts-over, length_permutation (joined sent.given) (joined parted.parts) parted.same)

  -- else they hold all of them
  pub collected : (width_of : S → ℕ) → ((s : S) → IsComing (width_of s) (left s)) → All (λ lane. (left lane.scanner).count ≡ 0) lanes_now → All (λ (desk : Desk CollectorView). desk.owner.full ≡ false) d1 → HoldFew (λ (desk : Desk CollectorView). length desk.owner.out.rows) (Some 20000000) d1 →
      (rows : List Row) → Comes left lanes rows → Collected rows (map (λ (desk : Desk CollectorView). desk.owner.out) d1)
  collected width_of coming ended none_full few rows comes =
      let given = all-given left lanes lanes_now sent.given sent.are.one_each sent.are.same_lanes sent.are.gave rows comes width_of coming ended in
      let are : held d1 ≡ joined parted.parts = held-joined d1 parted.parts (parted.count ∙ sym n) (λ i d l.
      let m : i < length d0 = omega (arith, l, n) in
      (parted.took i d m).took (fresh i d m).full (none_full i d l) ∙ ap (λ (x : List Row). x ++ get_or parted.parts i []) (fresh i d m).rows) in
      let all : IsPermutation rows (held d1) = subst (λ (l : List Row). IsPermutation rows l) (sym are) (IsPermutation-trans _ _ _ given parted.same) in
      record { all = all; few = omega (arith, few, count-held d1, length_permutation rows (held d1) all) }

-- a desk that failed wanted memory
pub memory-failed : (width : ℕ) (d0 d1 : List (Desk CollectorView)) → length d1 ≡ length d0 → All (IsFreshDesk width) d0 → at_each d0 d1 (λ j old new. KeepsCollector old.owner new.owner) → (cause : ExecFault) → DeskFailed (λ (c : CollectorView). c.fault) d1 cause → cause ≡ Memory
memory-failed width d0 d1 n fresh kept cause h =
    let d = first_of d1 (omega (arith, h.1)) in
    let l : h.0 < length d0 = omega (arith, h.1, n) in
    (kept h.0 d l).cause cause (h.2 d) (fresh h.0 d l).fault

-- the widths stay
pub widths-kept : (width : ℕ) (d0 d1 : List (Desk CollectorView)) → length d1 ≡ length d0 → All (IsFreshDesk width) d0 → at_each d0 d1 (λ j old new. KeepsCollector old.owner new.owner) → All (λ (k : KeptView). k.width ≡ width) (map (λ (desk : Desk CollectorView). desk.owner.out) d1)
widths-kept width d0 d1 n fresh kept = All-map (λ (k : KeptView). k.width ≡ width) (λ (desk : Desk CollectorView). desk.owner.out) d1 (λ i d l. let m : i < length d0 = omega (arith, l, n) in (kept i d m).width ∙ (fresh i d m).width_is)

-- what the desks hold, behind nothing
pub kept-are : (kept old : List KeptView) (ds now : List (Desk CollectorView)) → kept ≡ old ++ map (λ desk. desk.owner.out) ds → old ≡ [] → ds ≡ now → kept ≡ map (λ desk. desk.owner.out) now
kept-are kept old ds now e none same = e ∙ (ap (λ (l : List KeptView). l ++ map (λ (desk : Desk CollectorView). desk.owner.out) ds) none ∙ ap (map (λ (desk : Desk CollectorView). desk.owner.out)) same)
