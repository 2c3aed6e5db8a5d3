-- Rows that are put into a partition, as the callers see them.
use Rattle.std.specs.Prelude.{◌≡◌, ℕ, ◌≤◌, ◌⊎◌, ℤ, List, length, false, Option, Some, None, IfSome, IsSome}
use Rattle.pdq_spill.specs.Faults.{IsOfStore}
use Rattle.pdq_spill.specs.Partitions.{PartitionView, Stands, rows_in}
use Rattle.pdq_spill.specs.declared.faults.ExecFault.{ExecFault}
use Rattle.pdq_spill.specs.declared.faults.ExecFault.TheVariants.{RowLimit}
use Rattle.pdq_spill.specs.Stores.{StoreView}

-- the width of the rows, those put so far, where they are told, how many they are and may be, the fault that it has answered, and its store
pub record SpoolView : Type 0 where
  pub width : ℕ
  pub rows : Option (List (List ℤ))
  pub count : ℕ
  pub most : Option ℕ
  pub fault : Option ExecFault
  pub store : StoreView

-- how many rows were put: a law of spools is said of every view, also of those that no spool has
abbrev pub count_told : Option (List (List ℤ)) → ℕ → ℕ
count_told None n = n
count_told (Some rows) n = length rows

-- what is kept of a spool: its partition is open and stands in the store, and what is told has the count
pub record IsSpool (p : PartitionView) (h : ℕ) (told : Option (List (List ℕ))) : Type 0 where
  pub open_yet : p.sealed ≡ false
  pub stands : Stands p h told
  pub counted : IfSome (rows_in p told) (λ rows. length rows ≡ p.rows)

-- a fault of a spool: of its store, or its limit, which it has reached
abbrev pub IsOfSpool : ExecFault → SpoolView → SpoolView → Type 0
IsOfSpool fault old new = IsOfStore fault old.store.faults new.store.faults ⊎ ((fault ≡ RowLimit) × (new.most ≡ Some new.count))

-- what each call keeps
pub record KeepsSpool (old new : SpoolView) : Type 0 where
  pub width : new.width ≡ old.width
  pub most : new.most ≡ old.most
  pub count : old.count ≤ new.count
  pub puts : old.store.puts ≤ new.store.puts
  pub later : old.store.faults ≤ new.store.faults
  pub told : IsSome old.store.blocks → IsSome new.store.blocks
  pub cause : (fault : ExecFault) → new.fault ≡ Some fault → old.fault ≡ None → IsOfSpool fault old new
  pub stays : (fault : ExecFault) → old.fault ≡ Some fault → new ≡ old
