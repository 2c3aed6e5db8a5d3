-- A scanner of a partition's rows, as its callers see it.
use Rattle.std.specs.Prelude.{◌≡◌, ℕ, suc, ◌+◌, ◌≤◌, ◌==◌, ℤ, List, [], ◌∷◌, length, drop, cond, Bool, true, Option, Some, None}
use Rattle.std.specs.List.{list_all}
use Rattle.pdq_spill.specs.Rows.{AreRows}
use Rattle.pdq_spill.specs.Faults.{IsOfStore}
use Rattle.pdq_spill.specs.Partitions.{PartitionView, Stands, held_by, with_front}
use Rattle.pdq_spill.specs.declared.faults.ExecFault.{ExecFault}
use Rattle.pdq_exchange.specs.Batches.{BatchView, with_row}
use Rattle.pdq_exchange.specs.Roles.{Coming}
use Rattle.pdq_spill.specs.Stores.{StoreView}
use Rattle.pdq_scan.specs.declared.picker.Picker.{Picker}
use Rattle.pdq_scan.specs.Pickers.{IsZeroFilled}

-- the rows of these blocks of n, from block k on
abbrev pub rows_from : ℕ → ℕ → ℕ → ℕ → List ℕ → ℕ
rows_from w last n k [] = 0
rows_from w last n k (place ∷ places) = held_by w last n k + rows_from w last n (k + 1) places

-- how many rows of a partition are still to be handed out
abbrev pub left_count : PartitionView → ℕ
left_count p = rows_from p.width p.last (length p.places) p.next (drop p.next p.places)

-- the width of the rows that it gives, how many of them are at hand, how many are still to be given, which, where they are told, the fault that it
-- has answered, and its store
pub record ReaderView : Type 0 where
  pub width : ℕ
  pub at_hand : ℕ
  pub count : ℕ
  pub rows : Option (List (List ℤ))
  pub fault : Option ExecFault
  pub store : StoreView

abbrev pub are_wide : ℕ → List (List ℤ) → Bool
are_wide w rows = list_all (λ row. length row == w) rows

-- rows to come, told where each has the width: a law of scanners is said of every view, also of those that no scanner has
abbrev pub guarded : ℕ → ℕ → Option (List (List ℤ)) → Coming
guarded w n None = record { count = n; rows = None }
guarded w n (Some rows) = cond (are_wide w rows) (record { count = length rows; rows = Some rows }) (record { count = n; rows = None })

abbrev pub coming_of : ReaderView → Coming
coming_of r = guarded r.width r.count r.rows

-- the rows as they are told
abbrev pub plain_coming : ReaderView → Coming
plain_coming r = record { count = r.count; rows = r.rows }

-- what is kept of a scanner of a partition: it is sealed and stands in the store, and some rows of the block that was read last are given
pub record IsReader (p : PartitionView) (h : ℕ) (told : Option (List (List ℕ))) (block : List (List ℤ)) (i : ℕ) (picker : Option Picker) : Type 0 where
  pub zeros : IsZeroFilled picker
  pub sealed : p.sealed ≡ true
  pub stands : Stands p h told
  pub within : i ≤ length block
  pub widths : AreRows p.width block

-- the same rows are to come
pub record SameLeft (old new : ReaderView) : Type 0 where
  pub width : new.width ≡ old.width
  pub count : new.count ≡ old.count
  pub rows : new.rows ≡ old.rows
  pub fault : new.fault ≡ old.fault

-- the next row went into a batch
pub record Moved (old : ReaderView) (batch : BatchView) (new : ReaderView) (batch_now : BatchView) : Type 0 where
  pub row : List ℤ
  pub batch_is : batch_now ≡ with_row batch row
  pub count : old.count ≡ suc new.count
  pub rows : old.rows ≡ with_front (row ∷ []) new.rows
  pub width : new.width ≡ old.width
  pub fault : new.fault ≡ old.fault
  pub store : new.store ≡ old.store

-- what each call keeps
pub record KeepsReader (old new : ReaderView) : Type 0 where
  pub blocks : new.store.blocks ≡ old.store.blocks
  pub held : new.store.held ≡ old.store.held
  pub puts : new.store.puts ≡ old.store.puts
  pub later : old.store.faults ≤ new.store.faults
  pub cause : (fault : ExecFault) → new.fault ≡ Some fault → old.fault ≡ None → IsOfStore fault old.store.faults new.store.faults
  pub stays : (fault : ExecFault) → old.fault ≡ Some fault → new ≡ old
