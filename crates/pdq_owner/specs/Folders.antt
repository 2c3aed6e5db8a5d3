-- Owners that group, as their callers see them.
use Rattle.std.specs.Prelude.{◌≡◌, ℕ, ◌+◌, ◌<◌, ℤ, List, ◌++◌, length, Bool, true, false, Option, Some, None}
use Rattle.pdq_spill.specs.Faults.{IsOfStore}
use Rattle.pdq_spill.specs.declared.faults.ExecFault.{ExecFault}
use Rattle.pdq_group.specs.Groupers.{GrouperView, KeepsShape, Took}

-- an owner that groups: its grouper, how many rows it took, whether it has stopped since they are too many, and the fault that it has answered
pub record FolderView : Type 0 where
  pub grouper : GrouperView
  pub rows : ℕ
  pub full : Bool
  pub fault : Option ExecFault

-- as long as it has answered no fault, it counts as its grouper does
pub record IsFolder (rows : ℕ) (g : GrouperView) (fault : Option ExecFault) : Type 0 where
  pub counted : fault ≡ None → rows ≡ g.rows

-- it took these rows, or has stopped at one of them, since they were too many, or had stopped before
pub record TakesFolds (old : FolderView) (rows : List (List ℤ)) (new : FolderView) : Type 0 where
  pub stays : old.full ≡ true → new ≡ old
  pub took_all : old.full ≡ false → new.full ≡ false → (before : List (List ℤ)) → Took old.grouper before → Took new.grouper (before ++ rows)
  pub count : old.full ≡ false → new.full ≡ false → new.rows ≡ old.rows + length rows
  pub over : old.full ≡ false → new.full ≡ true → 20000000 < old.rows + length rows

-- what each call keeps
pub record KeepsFolder (old new : FolderView) : Type 0 where
  pub shape : KeepsShape old.grouper new.grouper
  pub cause : (fault : ExecFault) → new.fault ≡ Some fault → old.fault ≡ None → IsOfStore fault old.grouper.store.faults new.grouper.store.faults
  pub stays : (fault : ExecFault) → old.fault ≡ Some fault → new ≡ old
