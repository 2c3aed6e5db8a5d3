-- A row as it is printed, and as it is read back.
use Rattle.std.specs.Prelude.{⊤, ◌≡◌, ◌<◌, ◌≤◌, ◌^◌, length, nat_abs, ℕ, List, [], ◌∷◌, ◌==◌, if◌then◌else◌, map, flat_map, Option, None, Some, option_map, option_and_then, Ok, codes}
use Rattle.std.specs.List.{join_with_byte}
use Rattle.std.specs.Str.{bytes_eq}
use Rattle.pdq_value.specs.declared.cells.Cell.{Cell}
use Rattle.pdq_value.specs.declared.cells.Cell.TheVariants.{Nothing, Number, Words}
use Rattle.pdq_value.specs.declared.shapes.Kind.{Kind}
use Rattle.pdq_value.specs.declared.shapes.Kind.TheVariants as kind
use Rattle.pdq_value.specs.declared.shapes.Column.{Column}
use Rattle.pdq_value.specs.declared.shapes.Value.{Value}
use Rattle.pdq_value.specs.Numbers.{number_of_text, number_text}
use Rattle.pdq_value.specs.PlainTable.{row_of}
use Rattle.pdq_value.specs.Tables.{IsRowOf, cells_of}
use Rattle.pdq_value.specs.RowLines.{backslash, bar, nothing_text, plain_text, raw_cells}

-- a byte of a text: a backslash, a bar, byte 10 and byte 13 get a backslash in front
abbrev pub escaped : ℕ → List ℕ
escaped b =
    if b == backslash then codes "\\\\"
    else (if b == bar then codes "\\|"
    else (if b == 10 then codes "\\n"
    else (if b == 13 then codes "\\r" else b ∷ [])))

abbrev pub escaped_text : List ℕ → List ℕ
escaped_text text = flat_map escaped text

unfoldable pub cell_text : Cell → List ℕ
cell_text Nothing = nothing_text
cell_text (Number number scale) = number_text number scale
cell_text (Words text) = escaped_text text

-- the cells with a bar between each two
abbrev pub row_text : List Cell → List ℕ
row_text cells = join_with_byte bar (map cell_text cells)

-- the cell that a text says in a column of this kind
abbrev pub cell_of_text : Kind → List ℕ → Option Cell
cell_of_text (kind.Number scale) text = option_map (λ number. Number number scale) (number_of_text scale text)
cell_of_text kind.Words text = Some (Words text)

-- the cell that a raw cell says in a column of this kind; None where it says none
unfoldable pub cell_read : Kind → List ℕ → Option Cell
cell_read k raw = if bytes_eq raw nothing_text then Some Nothing else option_and_then (cell_of_text k) (plain_text raw)

unfoldable pub cells_read : List Kind → List (List ℕ) → Option (List Cell)
cells_read [] [] = Some []
cells_read [] (raw ∷ raws) = None
cells_read (k ∷ ks) [] = None
cells_read (k ∷ ks) (raw ∷ raws) = option_and_then (λ c. option_map (λ cs. c ∷ cs) (cells_read ks raws)) (cell_read k raw)

-- the cells that a row line says in columns of these kinds
abbrev pub row_read : List Kind → List ℕ → Option (List Cell)
row_read kinds line = cells_read kinds (raw_cells line)

-- nothing, a number of 128 bits at the kind's scale, or a text
abbrev pub IsCellOf : Kind → Cell → Type 0
IsCellOf k Nothing = ⊤
IsCellOf (kind.Number scale) (Number number s) = (s ≡ scale) × (nat_abs number < 2 ^ 128)
IsCellOf (kind.Number scale) (Words text) = ⊥
IsCellOf kind.Words (Number number s) = ⊥
IsCellOf kind.Words (Words text) = ⊤

abbrev pub AreCellsOf : List Kind → List Cell → Type 0
AreCellsOf [] [] = ⊤
AreCellsOf [] (c ∷ cs) = ⊥
AreCellsOf (k ∷ ks) [] = ⊥
AreCellsOf (k ∷ ks) (c ∷ cs) = IsCellOf k c × AreCellsOf ks cs

-- a row of a table that is printed is read back as the row, whichever line of a plain table it stands in
abbrev pub RowsAreReadBack : Type 0
RowsAreReadBack = (columns : List Column) (row : ℕ) (values : List Value) → 1 ≤ length columns → IsRowOf columns values → row_of columns row (row_text (cells_of columns values)) ≡ Ok values

-- what is printed of any cells, sums and averages beyond the values of tables among them, says the cells
abbrev pub RowsSayTheirCells : Type 0
RowsSayTheirCells = (kinds : List Kind) (cells : List Cell) → 1 ≤ length cells → AreCellsOf kinds cells → row_read kinds (row_text cells) ≡ Some cells
