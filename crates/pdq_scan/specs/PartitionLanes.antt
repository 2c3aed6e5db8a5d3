-- Lanes over the partitions of owners.
use Rattle.std.specs.Prelude.{◌≡◌, ℕ, List, [], ◌∷◌, true, Option, option_map}
use Rattle.pdq_spill.specs.Partitions.{PartitionView, Stands, rows_in}
use Rattle.pdq_spill.specs.Stores.{StoreView}
use Rattle.pdq_exchange.specs.Roles.{Coming}
use Rattle.pdq_eval.specs.declared.picks.Pick.{Pick}
use Rattle.pdq_scan.specs.Lanes.{given}
use Rattle.pdq_scan.specs.Readers.{left_count}

-- a store as views show it
abbrev pub store_view : {S : Type 0} → (S → Option (List (List ℕ))) → (held puts faults : S → ℕ) → S → StoreView
store_view blocks held puts faults s = record { blocks = blocks s; held = held s; puts = puts s; faults = faults s }

-- a partition is sealed, no block of it was handed out, and it stands in this store
pub record IsReady {S : Type 0} (blocks : S → Option (List (List ℕ))) (held : S → ℕ) (p : PartitionView) (s : S) : Type 0 where
  pub sealed : p.sealed ≡ true
  pub next : p.next ≡ 0
  pub tail : p.tail ≡ []
  pub stands : Stands p (held s) (blocks s)

-- what a partition has to give: its rows, or what is picked of them, told where its store tells
abbrev pub coming_from : {S : Type 0} → (S → Option (List (List ℕ))) → Option (List Pick) → PartitionView → S → Coming
coming_from blocks picks p s = record { count = left_count p; rows = option_map (given picks) (rows_in p (blocks s)) }

-- what each partition has to give
abbrev pub comings_from : {S : Type 0} → (S → Option (List (List ℕ))) → Option (List Pick) → List PartitionView → List S → List Coming
comings_from blocks picks [] stores = []
comings_from blocks picks (p ∷ ps) [] = []
comings_from blocks picks (p ∷ ps) (s ∷ stores) = coming_from blocks picks p s ∷ comings_from blocks picks ps stores
