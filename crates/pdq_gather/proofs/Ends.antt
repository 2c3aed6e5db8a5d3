-- The ends of owners in turn.
use Rattle.std.proofs.Common.{◌≡◌, ℕ, List, [], ◌∷◌, ◌++◌, refl, sym, ap, ◌∙◌, subst, append_assoc, ⊎_elim}
use Rattle.std.specs.Prelude.{Option, Some, None}
use Rattle.std.proofs.lemmas.List.{append-nil}
use Rattle.pdq_spill.specs.Faults.{IsOfStore, IsOfStoreOrOut}
use Rattle.pdq_spill.specs.Rows.{with_more}
use Rattle.pdq_spill.specs.declared.faults.ExecFault.{ExecFault}
use Rattle.pdq_spill.specs.declared.faults.ExecFault.TheVariants.{SpillFault, Stopped, RowLimit, Memory}
use Rattle.pdq_exchange.specs.Batches.{Row}
use Rattle.pdq_exchange.specs.declared.desk.Desk.{Desk}
use Rattle.pdq_group.specs.Groups.{grouped_words}
use Rattle.pdq_owner.specs.Folders.{FolderView}
use Rattle.pdq_owner.specs.Keepers.{KeepsKept, KeptView}
use Rattle.pdq_gather.specs.Homes.{Each}
use Rattle.pdq_gather.specs.Groups.{IsOut, PutGroups, Ready, puts_of}

-- what is so of each, and of one more, is so of those and of that one
record Split {X Y : Type 0} (R : X → Y → Type 0) (xs us : List X) (zs : List Y) : Type 0 where
  first : List Y
  rest : List Y
  are : zs ≡ first ++ rest
  each : Each R xs first
  others : Each R us rest

more-split : {X Y : Type 0} (R : X → Y → Type 0) (x : X) (xs us : List X) (z : Y) (zs : List Y) → R x z → Split R xs us zs → Split R (x ∷ xs) us (z ∷ zs)
more-split R x xs us z zs r s = record { first = z ∷ s.first; rest = s.rest; are = ap (λ (l : List _). z ∷ l) s.are; each = (r, s.each); others = s.others }

Each-split : {X Y : Type 0} (R : X → Y → Type 0) (xs us : List X) (zs : List Y) → Each R (xs ++ us) zs → Split R xs us zs
Each-split R [] us zs h = record { first = []; rest = zs; are = refl; each = tt; others = h }
Each-split R (x ∷ xs) us [] h = absurd h
Each-split R (x ∷ xs) us (z ∷ zs) h = more-split R x xs us z zs h.0 (Each-split R xs us zs h.1)

puts-append : (fs us : List (Desk FolderView)) (xs ys : List (List Row)) → Each Ready fs xs → puts_of (fs ++ us) (xs ++ ys) ≡ puts_of fs xs ++ puts_of us ys
puts-append [] us [] ys h = refl
puts-append [] us (x ∷ xs) ys h = absurd h
puts-append (f ∷ fs) us [] ys h = absurd h
puts-append (f ∷ fs) us (x ∷ xs) ys h = ap (λ (l : List Row). grouped_words f.owner.grouper.table.keys f.owner.grouper.table.folds x ++ l) (puts-append fs us xs ys h.1) ∙ sym (append_assoc (grouped_words f.owner.grouper.table.keys f.owner.grouper.table.folds x) (puts_of fs xs) (puts_of us ys))

pub put-none : (rows : List Row) → PutGroups [] rows rows
put-none rows = record { put = λ xs h. sym (append-nil rows) }

-- owners after owners
pub put-more : (fs us : List (Desk FolderView)) (a b c : List Row) → PutGroups fs a b → PutGroups us b c → PutGroups (fs ++ us) a c
put-more fs us a b c h k = record {
  put = λ xs each.
      let s = Each-split Ready fs us xs each in
      k.put s.rest s.others
      ∙ (ap (λ (l : List Row). l ++ puts_of us s.rest) (h.put s.first s.each)
      ∙ (append_assoc a (puts_of fs s.first) (puts_of us s.rest)
      ∙ ap (λ (l : List Row). a ++ l) (sym (puts-append fs us s.first s.rest s.each) ∙ ap (puts_of (fs ++ us)) (sym s.are))));
}

some_is : {X : Type 0} {x y : X} → Some x ≡ Some y → x ≡ y
some_is e = cc

-- one owner
pub put-one : (f : Desk FolderView) (a b : List Row) → ((rows : List Row) → Ready f rows → Some b ≡ with_more (Some a) (grouped_words f.owner.grouper.table.keys f.owner.grouper.table.folds rows)) → PutGroups (f ∷ []) a b
put-one f a b h = record { put = one }
  where
    one : (xs : List (List Row)) → Each Ready (f ∷ []) xs → b ≡ a ++ puts_of (f ∷ []) xs
    one [] e = absurd e
    one (x ∷ []) e = some_is (h x e.0) ∙ ap (λ (l : List Row). a ++ l) (sym (append-nil (grouped_words f.owner.grouper.table.keys f.owner.grouper.table.folds x)))
    one (x ∷ y ∷ ys) e = absurd e.1

-- where groups are put stays so
is-out-by : (a b : KeptView) (o : Option ExecFault) → a.fault ≡ o → KeepsKept a b → IsOut a → IsOut b
is-out-by a b (Some f) e k h = subst (λ (x : KeptView). IsOut x) (sym (k.stays f e)) h
is-out-by a b None e k h = record {
  most = k.most ∙ h.most;
  fault = λ cause is. ⊎_elim (λ m. m) (λ r. let l : None ≡ Some _ = sym (k.most ∙ h.most) ∙ r.1 in absurd (cc)) (k.cause cause is e);
}

pub is-out : (a b : KeptView) → KeepsKept a b → IsOut a → IsOut b
is-out a b k h = is-out-by a b a.fault refl k h

-- so an end fails by its store, or since memory is wanting
pub of-store : (cause : ExecFault) (m n : ℕ) (out : KeptView) → IsOut out → IsOfStoreOrOut cause m n out.fault → IsOfStore cause m n
of-store SpillFault m n out h r = ⊎_elim (λ x. x) (λ e. let f : SpillFault ≡ Memory = h.fault SpillFault e in absurd (cc)) r
of-store (Stopped s) m n out h r = let f : Stopped s ≡ Memory = h.fault (Stopped s) r in absurd (cc)
of-store RowLimit m n out h r = let f : RowLimit ≡ Memory = h.fault RowLimit r in absurd (cc)
of-store Memory m n out h r = tt
