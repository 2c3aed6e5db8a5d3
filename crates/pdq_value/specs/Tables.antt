-- Rows of a table's kinds, tables and databases.
use Rattle.std.specs.Prelude.{⊤, ℕ, ◌<◌, ◌≤◌, ◌^◌, ◌≡◌, List, [], ◌∷◌, true, map, nat_abs, All, AllPairs, length, ◌≢◌}
use Rattle.std.specs.Str.{is_utf8}
use Rattle.pdq_value.specs.declared.cells.Cell.{Cell}
use Rattle.pdq_value.specs.declared.shapes.Column.{Column}
use Rattle.pdq_value.specs.declared.shapes.Db.{Db}
use Rattle.pdq_value.specs.declared.shapes.Kind.{Kind}
use Rattle.pdq_value.specs.declared.shapes.Kind.TheVariants as kind
use Rattle.pdq_value.specs.declared.shapes.Table.{Table}
use Rattle.pdq_value.specs.declared.shapes.TableShape.{TableShape}
use Rattle.pdq_value.specs.declared.shapes.Value.{Value}
use Rattle.pdq_value.specs.declared.shapes.Value.TheVariants as value
use Rattle.pdq_value.specs.Cells.{cell_of}

-- a shape and a table, with plain lists
pub record ShapeView : Type 0 where
  pub name : List ℕ
  pub columns : List Column

pub record TableView : Type 0 where
  pub shape : ShapeView
  -- in the order of the file
  pub rows : List (List Value)

-- what is read past the last table
abbrev pub no_table : TableView
no_table = record { shape = record { name = []; columns = [] }; rows = [] }

abbrev pub shape_of : TableShape → ShapeView
shape_of s = record { name = s.name; columns = s.columns.items }

abbrev pub table_of : Table → TableView
table_of t = record { shape = shape_of t.shape; rows = t.rows.items }

abbrev pub tables_of : Db → List TableView
tables_of db = map table_of db.tables.items

-- numbers have 0 to 6 decimal places
abbrev pub IsKind : Kind → Type 0
IsKind (kind.Number s) = s ≤ 6
IsKind kind.Words = ⊤

-- no value for every column, a number below 10^18 in magnitude for a column of numbers, UTF-8 for a column of texts
abbrev pub IsValueOf : Kind → Value → Type 0
IsValueOf (kind.Number s) value.Null = ⊤
IsValueOf (kind.Number s) (value.Number z) = nat_abs z < 10 ^ 18
IsValueOf kind.Words (value.Words t) = is_utf8 t ≡ true
IsValueOf (kind.Number s) (value.Words t) = ⊥
IsValueOf kind.Words value.Null = ⊤
IsValueOf kind.Words (value.Number z) = ⊥

-- as many values as columns, each of its column's kind
abbrev pub IsRowOf : List Column → List Value → Type 0
IsRowOf [] [] = ⊤
IsRowOf [] (v ∷ vs) = ⊥
IsRowOf (c ∷ cs) [] = ⊥
IsRowOf (c ∷ cs) (v ∷ vs) = IsValueOf c.kind v × IsRowOf cs vs

-- one to sixteen columns, whose names differ
pub record IsShape (s : ShapeView) : Type 0 where
  pub some_column : 1 ≤ length s.columns
  pub sixteen_columns : length s.columns ≤ 16
  pub names_differ : AllPairs (λ (c : Column) (d : Column). c.name ≢ d.name) s.columns
  pub kinds : All (λ (c : Column). IsKind c.kind) s.columns

pub record IsTable (t : TableView) : Type 0 where
  pub kinds : All (λ (c : Column). IsKind c.kind) t.shape.columns
  pub rows : All (IsRowOf t.shape.columns) t.rows

abbrev pub IsDatabase : List TableView → Type 0
IsDatabase tables = All IsTable tables

-- the cells of a row
abbrev pub cells_of : List Column → List Value → List Cell
cells_of [] vs = []
cells_of (c ∷ cs) [] = []
cells_of (c ∷ cs) (v ∷ vs) = cell_of c.kind v ∷ cells_of cs vs

-- the rows of a table, as rows of cells
abbrev pub cell_rows : TableView → List (List Cell)
cell_rows t = map (cells_of t.shape.columns) t.rows
