-- The text of a plain table: a header, then one row line for each row.
use Rattle.std.specs.Prelude.{◌≡◌, ◌⊎◌, ℕ, ◌+◌, List, [], ◌∷◌, Bool, true, false, ◌==◌, nat_lt, if◌then◌else◌, ℤ, Option, None, Some, Result, Ok, Err, length, map}
use Rattle.std.specs.Str.{bytes_eq, is_utf8}
use Rattle.pdq_base.specs.Lines.{InputLine, lines_of, without_return}
use Rattle.pdq_value.specs.declared.loading.LoadFault.{LoadFault}
use Rattle.pdq_value.specs.declared.loading.LoadFault.TheVariants.{Memory, Wrong}
use Rattle.pdq_value.specs.declared.loading.LoadWhy.{LoadWhy}
use Rattle.pdq_value.specs.declared.loading.LoadWhy.TheVariants.{TooLong, TooManyRows, NotUtf8, WrongFields, WrongHeader, BadNumber, BadText}
use Rattle.pdq_value.specs.declared.numbers.NumberFault.{NumberFault}
use Rattle.pdq_value.specs.declared.shapes.Column.{Column}
use Rattle.pdq_value.specs.declared.shapes.Kind.{Kind}
use Rattle.pdq_value.specs.declared.shapes.Kind.TheVariants as kind
use Rattle.pdq_value.specs.declared.shapes.Value.{Value}
use Rattle.pdq_value.specs.declared.shapes.Value.TheVariants as value
use Rattle.pdq_value.specs.Header.{header_shape}
use Rattle.pdq_value.specs.Numbers.{number_read}
use Rattle.pdq_value.specs.RowLines.{nothing_text, plain_text, raw_cells}
use Rattle.pdq_value.specs.Tables.{ShapeView, TableView}

-- the most bytes of a plain table, and the most rows of a table
abbrev pub most_bytes : ℕ
most_bytes = 16777216

abbrev pub most_rows : ℕ
most_rows = 2000000

-- a fault of the one table, in this row and column
abbrev pub fault : LoadWhy → ℕ → ℕ → LoadFault
fault why row column = Wrong why 1 row column

-- an answer for want of memory, or the fault of this definition
abbrev pub Refuses : {X : Type 0} → Result X LoadFault → LoadFault → Type 0
Refuses meant e = (e ≡ Memory) ⊎ (meant ≡ Err e)

-- the raw cells of what stands behind a bar, where one is there
abbrev pub cells_of : Option (List ℕ) → List (List ℕ)
cells_of None = []
cells_of (Some line) = raw_cells line

abbrev pub value_of_number : ℕ → ℕ → Result ℤ NumberFault → Result Value LoadFault
value_of_number row column (Ok number) = Ok (value.Number number)
value_of_number row column (Err why) = Err (fault BadNumber row column)

abbrev pub value_of_text : Kind → ℕ → ℕ → Option (List ℕ) → Result Value LoadFault
value_of_text k row column None = Err (fault BadText row column)
value_of_text kind.Words row column (Some text) = Ok (value.Words text)
value_of_text (kind.Number scale) row column (Some text) = value_of_number row column (number_read text scale)

-- the value of a raw cell in a column of this kind; none where the cell is `\N` and no more
unfoldable pub value_of : Kind → ℕ → ℕ → List ℕ → Result Value LoadFault
value_of k row column cell = if bytes_eq cell nothing_text then Ok value.Null else value_of_text k row column (plain_text cell)

abbrev pub with_value : Result Value LoadFault → Result (List Value) LoadFault → Result (List Value) LoadFault
with_value (Ok v) (Ok vs) = Ok (v ∷ vs)
with_value (Ok v) (Err e) = Err e
with_value (Err e) vs = Err e

-- the values of the cells from this column on, or the first fault
abbrev pub values_of : List Column → ℕ → ℕ → List (List ℕ) → Result (List Value) LoadFault
values_of [] row column cells = Ok []
values_of (c ∷ cs) row column [] = Ok []
values_of (c ∷ cs) row column (cell ∷ cells) = with_value (value_of c.kind row column cell) (values_of cs row (column + 1) cells)

-- the first cell from this column on that is not UTF-8
abbrev pub not_utf8_at : ℕ → List (List ℕ) → Option ℕ
not_utf8_at column [] = None
not_utf8_at column (cell ∷ cells) = if is_utf8 cell then not_utf8_at (column + 1) cells else Some column

abbrev pub is_words : Kind → Bool
is_words kind.Words = true
is_words (kind.Number scale) = false

abbrev pub is_one_text : List Column → Bool
is_one_text [] = false
is_one_text (c ∷ []) = is_words c.kind
is_one_text (c ∷ d ∷ cs) = false

-- as many cells as columns; a line without any byte is a row of one empty text alone
abbrev pub has_fields : List Column → List ℕ → Bool
has_fields columns [] = is_one_text columns
has_fields columns (b ∷ line) = length (raw_cells (b ∷ line)) == length columns

abbrev pub row_where : Option ℕ → List Column → ℕ → List ℕ → Result (List Value) LoadFault
row_where (Some column) columns row line = Err (fault NotUtf8 row column)
row_where None columns row line = if has_fields columns line then values_of columns row 1 (raw_cells line) else Err (fault WrongFields row 0)

-- the row that a line says, or its first fault
unfoldable pub row_of : List Column → ℕ → List ℕ → Result (List Value) LoadFault
row_of columns row line = row_where (not_utf8_at 1 (raw_cells line)) columns row line

abbrev pub with_row : Result (List Value) LoadFault → Result (List (List Value)) LoadFault → Result (List (List Value)) LoadFault
with_row (Ok r) (Ok rs) = Ok (r ∷ rs)
with_row (Ok r) (Err e) = Err e
with_row (Err e) rs = Err e

-- the rows that these lines say from this number on, or the first fault
abbrev pub rows_from : List Column → ℕ → List (List ℕ) → Result (List (List Value)) LoadFault
rows_from columns row [] = Ok []
rows_from columns row (line ∷ lines) =
    if nat_lt most_rows row then Err (fault TooManyRows row 0)
    else with_row (row_of columns row line) (rows_from columns (row + 1) lines)

abbrev pub with_rows : ShapeView → Result (List (List Value)) LoadFault → Result TableView LoadFault
with_rows shape (Ok rows) = Ok (record { shape = shape; rows = rows })
with_rows shape (Err e) = Err e

abbrev pub table_with : Option ShapeView → List (List ℕ) → Result TableView LoadFault
table_with None lines = Err (fault WrongHeader 0 0)
table_with (Some shape) lines = with_rows shape (rows_from shape.columns 1 lines)

abbrev pub table_of_lines : List (List ℕ) → Result TableView LoadFault
table_of_lines [] = Err (fault WrongHeader 0 0)
table_of_lines (line ∷ lines) = table_with (header_shape line) lines

abbrev pub line_text : InputLine → List ℕ
line_text line = without_return line.bytes

-- the table that the bytes say, or the first fault
unfoldable pub plain_table_of : List ℕ → Result TableView LoadFault
plain_table_of bytes = if nat_lt most_bytes (length bytes) then Err (fault TooLong 0 0) else table_of_lines (map line_text (lines_of bytes))
