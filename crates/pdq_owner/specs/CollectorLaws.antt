-- What the laws of owners that keep rows rest on.
use Rattle.std.proofs.Common.{◌≡◌, List, [], ◌++◌, refl, sym, ap, ◌∙◌, subst, Bool, true, false, true≢false, append_assoc, ℤ}
use Rattle.std.specs.Prelude.{Option, Some, None}
use Rattle.std.proofs.lemmas.List.{append-nil}
use Rattle.pdq_spill.specs.declared.faults.ExecFault.{ExecFault}
use Rattle.pdq_owner.specs.FaultLaws.{differ}
use Rattle.pdq_owner.specs.Collectors.{CollectorView, HoldsFront, TakesRows, KeepsCollector}

never : {P : Type 0} (b : Bool) → b ≡ true → b ≡ false → P
never b e f = absurd (true≢false (sym e ∙ f))

pub rows-none : (a : CollectorView) → TakesRows a [] a
rows-none a = record { most = refl; stays = λ e. refl; took = λ e n. sym (append-nil a.out.rows); part = λ e n. never a.full n e; over = λ e n. never a.full n e }

longer : (old us vs new : List (List ℤ)) → HoldsFront old us new → HoldsFront old (us ++ vs) new
longer old us vs new h = record { more = h.more ++ vs; are = sym (append_assoc old us vs) ∙ (ap (λ (l : List (List ℤ)). l ++ vs) h.are ∙ append_assoc new h.more vs) }

later : (old us vs mid new : List (List ℤ)) → mid ≡ old ++ us → HoldsFront mid vs new → HoldsFront old (us ++ vs) new
later old us vs mid new e h = record { more = h.more; are = sym (append_assoc old us vs) ∙ (ap (λ (l : List (List ℤ)). l ++ vs) (sym e) ∙ h.are) }

rows-by : (a b c : CollectorView) (us vs : List (List ℤ)) (full : Bool) → b.full ≡ full → TakesRows a us b → TakesRows b vs c → TakesRows a (us ++ vs) c
rows-by a b c us vs true is h k = subst (λ (x : CollectorView). TakesRows a (us ++ vs) x) (sym (k.stays is)) (record {
  most = h.most;
  stays = h.stays;
  took = λ e n. never b.full is n;
  part = λ e n. longer a.out.rows us vs b.out.rows (h.part e n);
  over = h.over;
})
rows-by a b c us vs false is h k = record {
  most = k.most ∙ h.most;
  stays = λ e. k.stays (ap (λ (x : CollectorView). x.full) (h.stays e) ∙ e) ∙ h.stays e;
  took = λ e n. k.took is n ∙ (ap (λ (l : List (List ℤ)). l ++ vs) (h.took e is) ∙ append_assoc a.out.rows us vs);
  part = λ e n. later a.out.rows us vs b.out.rows c.out.rows (h.took e is) (k.part is n);
  over = λ e n. k.over is n;
}

pub rows-on : (a b c : CollectorView) (us vs : List (List ℤ)) → TakesRows a us b → TakesRows b vs c → TakesRows a (us ++ vs) c
rows-on a b c us vs h k = rows-by a b c us vs b.full refl h k

pub collector-none : (a : CollectorView) → KeepsCollector a a
collector-none a = record { width = refl; most = refl; cause = λ f e n. differ a.fault e n; stays = λ f e. refl }

collector-by : (a b c : CollectorView) (o : Option ExecFault) → b.fault ≡ o → KeepsCollector a b → KeepsCollector b c → KeepsCollector a c
collector-by a b c (Some f) e h k = subst (λ (x : CollectorView). KeepsCollector a x) (sym (k.stays f e)) h
collector-by a b c None e h k = record {
  width = k.width ∙ h.width;
  most = k.most ∙ h.most;
  cause = λ f is none. k.cause f is e;
  stays = λ f is. k.stays f (ap (λ (x : CollectorView). x.fault) (h.stays f is) ∙ is) ∙ h.stays f is;
}

pub collector-on : (a b c : CollectorView) → KeepsCollector a b → KeepsCollector b c → KeepsCollector a c
collector-on a b c h k = collector-by a b c b.fault refl h k
