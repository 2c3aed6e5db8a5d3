-- What the laws of rows in memory rest on.
use Rattle.std.proofs.Common.{◌≡◌, refl, sym, ap, ◌∙◌, subst}
use Rattle.std.specs.Prelude.{Option, Some, None, length}
use Rattle.pdq_spill.specs.declared.faults.ExecFault.{ExecFault}
use Rattle.std.proofs.Math.Nat.{le_refl, le_trans}
use Rattle.pdq_owner.specs.FaultLaws.{differ}
use Rattle.pdq_owner.specs.Keepers.{KeptView, KeepsKept}

pub kept-none : (k : KeptView) → KeepsKept k k
kept-none k = record { width = refl; most = refl; count = le_refl (length k.rows); cause = λ f e n. differ k.fault e n; stays = λ f e. refl }

kept-by : (a b c : KeptView) (o : Option ExecFault) → b.fault ≡ o → KeepsKept a b → KeepsKept b c → KeepsKept a c
kept-by a b c (Some f) e h k = subst (λ (x : KeptView). KeepsKept a x) (sym (k.stays f e)) h
kept-by a b c None e h k = record {
  width = k.width ∙ h.width;
  most = k.most ∙ h.most;
  count = le_trans h.count k.count;
  cause = λ f is none. k.cause f is e;
  stays = λ f is. k.stays f (ap (λ (x : KeptView). x.fault) (h.stays f is) ∙ is) ∙ h.stays f is;
}

pub kept-on : (a b c : KeptView) → KeepsKept a b → KeepsKept b c → KeepsKept a c
kept-on a b c h k = kept-by a b c b.fault refl h k
