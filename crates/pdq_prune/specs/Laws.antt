-- The law of fragment elimination.
use Rattle.std.specs.Prelude.{◌≡◌, ℕ, ◌<◌, List, [], true, Contains, filter, length, slice_index_or}
use Rattle.std.specs.List.{enumerate_from, list_all}
use Rattle.pdq_value.specs.declared.shapes.Value.{Value}
use Rattle.pdq_value.specs.Tables.{TableView, cells_of, no_table}
use Rattle.pdq_schema.specs.Fragments.{StandsIn}
use Rattle.pdq_query.specs.Conditions.{Choice, passes}
use Rattle.pdq_query.specs.Fits.{Fits}
use Rattle.pdq_query.specs.Plans.{Filtered, reads}
use Rattle.pdq_query.specs.Queries.{QueryView}
use Rattle.pdq_table.specs.Storing.{IsStored, StoredView}
use Rattle.pdq_prune.specs.Elimination.{cut_at, fragments_left}

-- the table at a place in FROM
abbrev pub table_at : StoredView → QueryView → ℕ → TableView
table_at s q place = slice_index_or s.tables (slice_index_or q.tables place 0) no_table

-- a choice with this row of the table at a place, which meets the filters on that table
pub record MeetsFilters (s : StoredView) (q : QueryView) (place : ℕ) (row : List Value) (c : Choice) : Type 0 where
  pub chosen : c place ≡ cells_of (table_at s q place).shape.columns row
  pub met : list_all (passes c) (filter (λ f. reads place (Filtered f)) q.filters) ≡ true

-- each row that meets the filters on its table stands in a fragment that is left
abbrev pub LeftFragmentsHoldTheRows : Type 0
LeftFragmentsHoldTheRows = (s : StoredView) → IsStored s → (q : QueryView) → Fits s.schema.shapes q → (place : ℕ) → place < length q.tables →
    (n : ℕ) (row : List Value) → Contains (enumerate_from 0 (table_at s q place).rows) (n, row) → (c : Choice) → MeetsFilters s q place row c →
    (fragment : ℕ) → StandsIn (cut_at s.schema q place) (table_at s q place).rows n row fragment →
    Contains (slice_index_or (fragments_left s.schema q) place []) fragment
