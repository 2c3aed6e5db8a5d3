-- Faults of calls in a row.
use Rattle.std.proofs.Common.{◌≡◌, ℕ, ◌+◌, ◌-◌, ◌^◌, ◌≤◌, inl, inr, ⊎_elim}
use Rattle.std.specs.Prelude.{Option, Some, None}
use Rattle.std.proofs.Math.Nat.{add-le-add_iff_right, le-min, le_trans, min-le_left, min-le_right}
use Rattle.pdq_edge.specs.Causes.{Rose}
use Rattle.pdq_spill.specs.Faults.{IsOfStore, IsOfStoreOrOut}
use Rattle.pdq_spill.specs.declared.faults.ExecFault.{ExecFault}
use Rattle.pdq_spill.specs.declared.faults.ExecFault.TheVariants.{SpillFault, Stopped, RowLimit, Memory}

-- nothing was answered, and something was
pub differ : {A : Type 0} {x : A} {P : Type 0} (o : Option A) → o ≡ Some x → o ≡ None → P
differ (Some y) e f = absurd (never f)
  where
    never : {A : Type 0} {y : A} → Some y ≡ None → ⊥
    never e = cc e
differ None e f = absurd (never e)
  where
    never : {A : Type 0} {y : A} → None ≡ Some y → ⊥
    never e = cc e

rose-before : (m n o : ℕ) → m ≤ n → Rose n o → Rose m o
rose-before m n o l r =
    let most : ℕ = 2 ^ 64 - 1 in
    le_trans (le-min (le_trans (min-le_left (m + 1) most) ((add-le-add_iff_right 1 {n = m} {m = n}).1 l)) (min-le_right (m + 1) most)) r

-- a fault of the later calls is one of all
pub of_store-before : (f : ExecFault) (m n o : ℕ) → m ≤ n → IsOfStore f n o → IsOfStore f m o
of_store-before SpillFault m n o l r = rose-before m n o l r
of_store-before (Stopped s) m n o l r = r
of_store-before RowLimit m n o l r = r
of_store-before Memory m n o l r = r

pub of_out-before : (f : ExecFault) (m n o : ℕ) (answered : Option ExecFault) → m ≤ n → IsOfStoreOrOut f n o answered → IsOfStoreOrOut f m o answered
of_out-before SpillFault m n o answered l r = ⊎_elim (λ h. inl (rose-before m n o l h)) (λ e. inr e) r
of_out-before (Stopped s) m n o answered l r = r
of_out-before RowLimit m n o answered l r = r
of_out-before Memory m n o answered l r = r
