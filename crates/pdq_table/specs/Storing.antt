-- Stored tables: those of a schema, within the limits, in fragments.
use Rattle.std.specs.Prelude.{◌≡◌, ℕ, ◌<◌, ◌≤◌, List, All, IfSome, length, map, slice_index_or}
use Rattle.std.specs.List.{slice_get}
use Rattle.pdq_dict.specs.Dictionary.{cell_limit, cells_in}
use Rattle.pdq_schema.specs.Fragments.{fragment_count, fragment_rows}
use Rattle.pdq_schema.specs.Schemas.{IsSchema, SchemaView, rounds}
use Rattle.pdq_value.specs.declared.shapes.Value.{Value}
use Rattle.pdq_value.specs.PlainTable.{most_rows}
use Rattle.pdq_value.specs.Tables.{IsDatabase, ShapeView, TableView, no_table}

-- the tables of a schema, each with its rows in the order of the file
pub record StoredView : Type 0 where
  pub schema : SchemaView
  pub tables : List TableView

abbrev pub shapes_of : List TableView → List ShapeView
shapes_of tables = map (λ (t : TableView). t.shape) tables

-- tables of a schema's shapes, with rows of their kinds, within the limits on rows and cells
pub record AreTablesOf (shapes : List ShapeView) (tables : List TableView) : Type 0 where
  pub same : shapes_of tables ≡ shapes
  pub database : IsDatabase tables
  pub rows : All (λ (t : TableView). length t.rows ≤ most_rows) tables
  pub cells : cells_in tables ≤ cell_limit

-- what stored tables always are
pub record IsStored (s : StoredView) : Type 0 where
  pub schema : IsSchema s.schema
  pub tables : AreTablesOf s.schema.shapes s.tables

-- how many rows a table has
abbrev pub rows_of : StoredView → ℕ → ℕ
rows_of s table = length (slice_index_or s.tables table no_table).rows

-- a table has a fragment of this number
abbrev pub HasFragment : StoredView → ℕ → ℕ → Type 0
HasFragment s table fragment = IfSome (slice_get (map fragment_count s.schema.cuts) table) (λ n. fragment < n)

-- how many columns a table has
abbrev pub width_at : StoredView → ℕ → ℕ
width_at s table = length (slice_index_or s.tables table no_table).shape.columns

-- the rows of a fragment of a table, in the order of the file
abbrev pub fragment_of : StoredView → ℕ → ℕ → List (List Value)
fragment_of s table fragment = fragment_rows (slice_index_or s.schema.cuts table (rounds 1)) fragment (slice_index_or s.tables table no_table).rows
