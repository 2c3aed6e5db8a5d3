-- Owners that keep rows as they come.
use Rattle.std.specs.Prelude.{◌≡◌, ℤ, List, ◌++◌, length, Bool, true, false, Option, Some, None}
use Rattle.pdq_spill.specs.declared.faults.ExecFault.{ExecFault}
use Rattle.pdq_spill.specs.declared.faults.ExecFault.TheVariants.{Memory}
use Rattle.pdq_owner.specs.Keepers.{KeptView}

-- its rows, whether it has stopped since it holds as many as it may, and the fault that it has answered
pub record CollectorView : Type 0 where
  pub out : KeptView
  pub full : Bool
  pub fault : Option ExecFault

-- what it holds is a front of these rows behind those that it held
pub record HoldsFront (old rows new : List (List ℤ)) : Type 0 where
  pub more : List (List ℤ)
  pub are : old ++ rows ≡ new ++ more

-- it keeps these rows, or has stopped at one of them, or had stopped before
pub record TakesRows (old : CollectorView) (rows : List (List ℤ)) (new : CollectorView) : Type 0 where
  pub most : new.out.most ≡ old.out.most
  pub stays : old.full ≡ true → new ≡ old
  pub took : old.full ≡ false → new.full ≡ false → new.out.rows ≡ old.out.rows ++ rows
  pub part : old.full ≡ false → new.full ≡ true → HoldsFront old.out.rows rows new.out.rows
  pub over : old.full ≡ false → new.full ≡ true → new.out.most ≡ Some (length new.out.rows)

-- what each call keeps
pub record KeepsCollector (old new : CollectorView) : Type 0 where
  pub width : new.out.width ≡ old.out.width
  pub most : new.out.most ≡ old.out.most
  pub cause : (fault : ExecFault) → new.fault ≡ Some fault → old.fault ≡ None → fault ≡ Memory
  pub stays : (fault : ExecFault) → old.fault ≡ Some fault → new ≡ old

-- as long as it has neither stopped nor answered a fault, its rows have not
pub record IsCollector (out : Option ExecFault) (full : Bool) (fault : Option ExecFault) : Type 0 where
  pub fine : full ≡ false → fault ≡ None → out ≡ None
