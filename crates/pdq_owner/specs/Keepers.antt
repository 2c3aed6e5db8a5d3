-- Rows in memory, as the callers see them.
use Rattle.std.specs.Prelude.{◌≡◌, ℕ, ◌≤◌, ◌⊎◌, ℤ, List, length, Option, Some, None}
use Rattle.pdq_spill.specs.declared.faults.ExecFault.{ExecFault}
use Rattle.pdq_spill.specs.declared.faults.ExecFault.TheVariants.{RowLimit, Memory}

-- the width of the rows, the rows, how many they may be, and the fault that it has answered
pub record KeptView : Type 0 where
  pub width : ℕ
  pub rows : List (List ℤ)
  pub most : Option ℕ
  pub fault : Option ExecFault

-- memory was wanting, or it holds as many rows as it may
abbrev pub IsOfKept : ExecFault → KeptView → Type 0
IsOfKept fault kept = (fault ≡ Memory) ⊎ ((fault ≡ RowLimit) × (kept.most ≡ Some (length kept.rows)))

-- what each call keeps
pub record KeepsKept (old new : KeptView) : Type 0 where
  pub width : new.width ≡ old.width
  pub most : new.most ≡ old.most
  pub count : length old.rows ≤ length new.rows
  pub cause : (fault : ExecFault) → new.fault ≡ Some fault → old.fault ≡ None → IsOfKept fault new
  pub stays : (fault : ExecFault) → old.fault ≡ Some fault → new ≡ old
