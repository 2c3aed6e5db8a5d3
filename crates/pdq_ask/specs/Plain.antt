-- A plain table as stored tables.
use Rattle.std.specs.Prelude.{◌≤◌, [], ◌∷◌, length}
use Rattle.pdq_schema.specs.Schemas.{IsNamed, SchemaView, rounds}
use Rattle.pdq_table.specs.Storing.{StoredView}
use Rattle.pdq_value.specs.PlainTable.{most_rows}
use Rattle.pdq_value.specs.Tables.{IsShape, IsTable, ShapeView, TableView}

-- the schema of a plain table: one fragment, and no file
abbrev pub plain_schema : ShapeView → SchemaView
plain_schema shape = record { shapes = shape ∷ []; files = [] ∷ []; cuts = rounds 1 ∷ [] }

abbrev pub plain_stored : TableView → StoredView
plain_stored table = record { schema = plain_schema table.shape; tables = table ∷ [] }

-- a plain table that can be stored
pub record IsStorable (t : TableView) : Type 0 where
  pub shape : IsShape t.shape
  pub named : IsNamed t.shape
  pub table : IsTable t
  pub few : length t.rows ≤ most_rows
