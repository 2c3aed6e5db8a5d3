-- The cells of a database are small.
use Rattle.std.proofs.Common.{◌≤◌, ◌^◌, ℕ, zero, suc, List, [], ◌∷◌, arith, map, All, nat_abs, Option, Some, None, option_and_then, unwrap_or, le_of_lt}
use Rattle.std.specs.List.{slice_get}
use Rattle.std.proofs.lemmas.List.Elements.{All-head, All-tail}
use Rattle.pdq_value.specs.declared.cells.Cell.{Cell}
use Rattle.pdq_value.specs.declared.shapes.Column.{Column}
use Rattle.pdq_value.specs.declared.shapes.Kind.{Kind}
use Rattle.pdq_value.specs.declared.shapes.Kind.TheVariants as kind
use Rattle.pdq_value.specs.declared.shapes.Value.{Value}
use Rattle.pdq_value.specs.declared.shapes.Value.TheVariants as value
use Rattle.pdq_value.specs.Cells.{cell_at, cell_of, number_of, scale_of}
use Rattle.pdq_value.specs.Tables.{IsDatabase, IsKind, IsRowOf, IsTable, IsValueOf, TableView, cell_rows, cells_of}
use Rattle.pdq_query.specs.declared.query.At.{At}
use Rattle.pdq_query.specs.Queries.{QueryView}
use Rattle.pdq_query.specs.Conditions.{cell_in}
use Rattle.pdq_mean.specs.Loops.{chosen, row_numbered}

pub record IsSmall (c : Cell) : Type 0 where
  pub size : nat_abs (number_of c) ≤ 10 ^ 18
  pub places : scale_of c ≤ 6

abbrev HasSmallCells : List Cell → Type 0
HasSmallCells row = (i : ℕ) → IsSmall (cell_at i row)

small_value : (k : Kind) (v : Value) → IsKind k → IsValueOf k v → IsSmall (cell_of k v)
small_value (kind.Number s) value.Null h k = record { size = omega arith; places = omega arith }
small_value kind.Words value.Null h k = record { size = omega arith; places = omega arith }
small_value (kind.Number s) (value.Number z) h k = record { size = le_of_lt k; places = h }
small_value (kind.Number s) (value.Words t) h k = absurd k
small_value kind.Words (value.Number z) h k = absurd k
small_value kind.Words (value.Words t) h k = record { size = omega arith; places = omega arith }

nothing_small : HasSmallCells []
nothing_small i = record { size = omega arith; places = omega arith }

pub small_row : (columns : List Column) (values : List Value) → All (λ (c : Column). IsKind c.kind) columns → IsRowOf columns values → HasSmallCells (cells_of columns values)
small_row [] values h k i = nothing_small i
small_row (c ∷ columns) [] h k i = nothing_small i
small_row (c ∷ columns) (v ∷ values) h k zero = small_value c.kind v (All-head (λ (c : Column). IsKind c.kind) c columns h) k.0
small_row (c ∷ columns) (v ∷ values) h k (suc i) = small_row columns values (All-tail (λ (c : Column). IsKind c.kind) c columns h) k.1 i

small_rows : (columns : List Column) (rows : List (List Value)) → All (λ (c : Column). IsKind c.kind) columns → All (IsRowOf columns) rows → (n : ℕ) → HasSmallCells (unwrap_or (slice_get (map (cells_of columns) rows) n) [])
small_rows columns [] h k n i = nothing_small i
small_rows columns (row ∷ rows) h k zero i = small_row columns row h (All-head (IsRowOf columns) row rows k) i
small_rows columns (row ∷ rows) h k (suc n) i = small_rows columns rows h (All-tail (IsRowOf columns) row rows k) n i

small_tables : (tables : List TableView) → IsDatabase tables → (m n : ℕ) → HasSmallCells (unwrap_or (option_and_then (λ (table : TableView). slice_get (cell_rows table) n) (slice_get tables m)) [])
small_tables [] h m n = nothing_small
small_tables (t ∷ tables) h zero n = let here = All-head IsTable t tables h in small_rows t.shape.columns t.rows here.kinds here.rows n
small_tables (t ∷ tables) h (suc m) n = small_tables tables (All-tail IsTable t tables h) m n

small_place : (tables : List TableView) → IsDatabase tables → (o : Option ℕ) (n : ℕ) → HasSmallCells (unwrap_or (option_and_then (λ (table : TableView). slice_get (cell_rows table) n) (option_and_then (slice_get tables) o)) [])
small_place tables h None n = nothing_small
small_place tables h (Some m) n = small_tables tables h m n

small_number : (tables : List TableView) (q : QueryView) → IsDatabase tables → (place : ℕ) (o : Option ℕ) → HasSmallCells (unwrap_or (option_and_then (row_numbered tables q place) o) [])
small_number tables q h place None = nothing_small
small_number tables q h place (Some n) = small_place tables h (slice_get q.tables place) n

-- a cell of a choice is below 10^18 in magnitude, with at most 6 decimal places
pub small_cell : (tables : List TableView) (q : QueryView) → IsDatabase tables → (numbers : List ℕ) (at : At) → IsSmall (cell_in (chosen tables q numbers) at)
unfolding chosen
small_cell tables q h numbers at = small_number tables q h at.table (slice_get numbers at.table) at.column
