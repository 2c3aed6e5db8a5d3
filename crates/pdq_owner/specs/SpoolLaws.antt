-- What the laws of spools rest on.
use Rattle.std.proofs.Common.{◌≡◌, ℕ, inl, inr, ⊎_elim, refl, sym, ap, ◌∙◌, subst}
use Rattle.std.specs.Prelude.{Option, Some, None, IfSome, List, ℤ, length}
use Rattle.pdq_spill.specs.declared.faults.ExecFault.{ExecFault}
use Rattle.pdq_owner.specs.FaultLaws.{of_store-before}
use Rattle.std.proofs.Math.Nat.{le_refl, le_trans}
use Rattle.pdq_owner.specs.Spools.{SpoolView, KeepsSpool, count_told}
use Rattle.pdq_owner.specs.FaultLaws.{differ}

pub spool-none : (s : SpoolView) → KeepsSpool s s
spool-none s = record { width = refl; most = refl; count = le_refl s.count; puts = le_refl s.store.puts; later = le_refl s.store.faults; told = λ t. t; cause = λ f e n. differ s.fault e n; stays = λ f e. refl }

spool-by : (a b c : SpoolView) (o : Option ExecFault) → b.fault ≡ o → KeepsSpool a b → KeepsSpool b c → KeepsSpool a c
spool-by a b c (Some f) e h k = subst (λ (x : SpoolView). KeepsSpool a x) (sym (k.stays f e)) h
spool-by a b c None e h k = record {
  width = k.width ∙ h.width;
  most = k.most ∙ h.most;
  count = le_trans h.count k.count;
  puts = le_trans h.puts k.puts;
  later = le_trans h.later k.later;
  told = λ t. k.told (h.told t);
  cause = λ f is none. ⊎_elim (λ r. inl (of_store-before f a.store.faults b.store.faults c.store.faults h.later r)) (λ r. inr r) (k.cause f is e);
  stays = λ f is. k.stays f (ap (λ (x : SpoolView). x.fault) (h.stays f is) ∙ is) ∙ h.stays f is;
}

pub spool-on : (a b c : SpoolView) → KeepsSpool a b → KeepsSpool b c → KeepsSpool a c
spool-on a b c h k = spool-by a b c b.fault refl h k

pub spool-counts : (o : Option (List (List ℤ))) (n : ℕ) → IfSome o (λ rows. length rows ≡ count_told o n)
spool-counts None n = tt
spool-counts (Some rows) n = refl
