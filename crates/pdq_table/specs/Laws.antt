-- The laws of stored tables.
use Rattle.std.specs.Prelude.{ℕ, ◌<◌, List, length, slice_index_or}
use Rattle.pdq_value.specs.Tables.{no_table}
use Rattle.std.specs.List.{flat_map, range_with_len}
use Rattle.std.specs.List.Sorted.{IsPermutation}
use Rattle.pdq_schema.specs.Fragments.{fragment_count}
use Rattle.pdq_schema.specs.Schemas.{rounds}
use Rattle.pdq_table.specs.Storing.{IsStored, StoredView, fragment_of}

-- the numbers of a table's fragments
abbrev pub fragment_numbers : StoredView → ℕ → List ℕ
fragment_numbers s table = range_with_len 0 (fragment_count (slice_index_or s.schema.cuts table (rounds 1)))

-- the rows of a table's fragments, one fragment after another, are the rows of the table in some order: each stands in one fragment, once
abbrev pub FragmentsHoldTheRows : Type 0
FragmentsHoldTheRows = (s : StoredView) → IsStored s → (table : ℕ) → table < length s.schema.shapes →
    IsPermutation (flat_map (fragment_of s table) (fragment_numbers s table)) (slice_index_or s.tables table no_table).rows
