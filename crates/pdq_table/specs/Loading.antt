-- Tables from CSV files: the tables of a schema, or the first fault.
use Rattle.std.specs.Prelude.{ℕ, ◌+◌, ◌*◌, List, [], ◌∷◌, nat_lt, if◌then◌else◌, ◌==◌, ℤ, Option, None, Some, Result, Ok, Err, codes, length, map, Bool, ◌||◌}
use Rattle.std.specs.Char.{to_ascii_lowercase}
use Rattle.std.specs.Global.{Vec}
use Rattle.std.specs.Str.{bytes_eq}
use Rattle.csv.specs.Reading.{default_config, records, strip_bom}
use Rattle.pdq_dict.specs.Dictionary.{cell_limit}
use Rattle.pdq_value.specs.declared.loading.LoadFault.{LoadFault}
use Rattle.pdq_value.specs.declared.loading.LoadFault.TheVariants.{Wrong}
use Rattle.pdq_value.specs.declared.loading.LoadWhy.TheVariants.{TooLong, TooManyRows, TooManyCells, NotUtf8, WrongFields, WrongHeader, BadNumber}
use Rattle.pdq_value.specs.declared.numbers.NumberFault.{NumberFault}
use Rattle.pdq_value.specs.declared.shapes.Column.{Column}
use Rattle.pdq_value.specs.declared.shapes.Kind.{Kind}
use Rattle.pdq_value.specs.declared.shapes.Kind.TheVariants as kind
use Rattle.pdq_value.specs.declared.shapes.Value.{Value}
use Rattle.pdq_value.specs.declared.shapes.Value.TheVariants as value
use Rattle.pdq_value.specs.Numbers.{number_read}
use Rattle.pdq_value.specs.PlainTable.{most_rows, not_utf8_at, with_row, with_rows, with_value}
use Rattle.pdq_value.specs.Tables.{ShapeView, TableView}

-- the most bytes of a file
abbrev pub most_bytes : ℕ
most_bytes = 134217728

-- the records of a file, each the list of its fields: CSV as the `csv` crate reads it, behind one byte order mark
abbrev pub records_of : List ℕ → List (List (List ℕ))
records_of bytes = records default_config (strip_bom bytes)

-- where a record stands: its table, from 1, and its row; row 0 is the header
pub record Place : Type 0 where
  pub table : ℕ
  pub row : ℕ

abbrev pub value_of_number : Place → ℕ → Result ℤ NumberFault → Result Value LoadFault
value_of_number p column (Ok z) = Ok (value.Number z)
value_of_number p column (Err e) = Err (Wrong BadNumber p.table p.row column)

-- a field that says Null in every column
abbrev pub null_field : List ℕ
null_field = codes "\\N"

-- the value of a field that says one
abbrev pub value_said : Kind → Place → ℕ → List ℕ → Result Value LoadFault
value_said kind.Words p column field = Ok (value.Words field)
value_said (kind.Number scale) p column field = value_of_number p column (number_read field scale)

-- an empty field says Null in a column of numbers, and the empty text in a column of texts
abbrev pub is_null_field : Kind → List ℕ → Bool
is_null_field kind.Words field = bytes_eq field null_field
is_null_field (kind.Number scale) field = bytes_eq field null_field || length field == 0

-- the value of a field in a column of this kind
abbrev pub value_of : Kind → Place → ℕ → List ℕ → Result Value LoadFault
value_of k p column field = if is_null_field k field then Ok value.Null else value_said k p column field

-- the values of the fields from this column on, or the first fault
abbrev pub values_of : List Column → Place → ℕ → List (List ℕ) → Result (List Value) LoadFault
values_of [] p column fields = Ok []
values_of (c ∷ cs) p column [] = Ok []
values_of (c ∷ cs) p column (field ∷ fields) = with_value (value_of c.kind p column field) (values_of cs p (column + 1) fields)

-- the first field from this column on that is not the column's name, in lower case
abbrev pub misnamed_at : ℕ → List Column → List (List ℕ) → Option ℕ
misnamed_at column [] fields = None
misnamed_at column (c ∷ cs) [] = None
misnamed_at column (c ∷ cs) (field ∷ fields) = if bytes_eq (map to_ascii_lowercase field) c.name then misnamed_at (column + 1) cs fields else Some column

-- the fault of a record whose fields are not texts, or not as many as the columns
abbrev pub fields_fault : List Column → Place → List (List ℕ) → Option ℕ → Option LoadFault
fields_fault columns p fields (Some column) = Some (Wrong NotUtf8 p.table p.row column)
fields_fault columns p fields None = if length fields == length columns then None else Some (Wrong WrongFields p.table p.row 0)

abbrev pub header_with : List Column → ℕ → List (List ℕ) → Option LoadFault → Option ℕ → Option LoadFault
header_with columns table fields (Some fault) column = Some fault
header_with columns table fields None (Some column) = Some (Wrong WrongHeader table 0 column)
header_with columns table fields None None = None

-- the first fault of the header of a table
unfoldable pub header_fault : List Column → ℕ → List (List ℕ) → Option LoadFault
header_fault columns table fields = header_with columns table fields (fields_fault columns (record { table = table; row = 0 }) fields (not_utf8_at 1 fields)) (misnamed_at 1 columns fields)

abbrev pub row_with : List Column → Place → List (List ℕ) → Option LoadFault → Result (List Value) LoadFault
row_with columns p fields (Some fault) = Err fault
row_with columns p fields None = values_of columns p 1 fields

-- the row that a record says, where all tables have so many cells before it; or the first fault
unfoldable pub row_of : List Column → Place → ℕ → List (List ℕ) → Result (List Value) LoadFault
row_of columns p cells fields =
    if nat_lt most_rows p.row then Err (Wrong TooManyRows p.table p.row 0)
    else (if nat_lt cell_limit (cells + length columns) then Err (Wrong TooManyCells p.table p.row 0)
    else row_with columns p fields (fields_fault columns p fields (not_utf8_at 1 fields)))

-- the rows that these records say from this place on, or the first fault
abbrev pub rows_from : List Column → ℕ → ℕ → ℕ → List (List (List ℕ)) → Result (List (List Value)) LoadFault
rows_from columns table row cells [] = Ok []
rows_from columns table row cells (fields ∷ more) =
    with_row (row_of columns (record { table = table; row = row }) cells fields) (rows_from columns table (row + 1) (cells + length columns) more)

abbrev pub rows_below : List Column → ℕ → ℕ → Option LoadFault → List (List (List ℕ)) → Result (List (List Value)) LoadFault
rows_below columns table cells (Some fault) more = Err fault
rows_below columns table cells None more = rows_from columns table 1 cells more

abbrev pub rows_in : List Column → ℕ → ℕ → List (List (List ℕ)) → Result (List (List Value)) LoadFault
rows_in columns table cells [] = Err (Wrong WrongFields table 0 0)
rows_in columns table cells (header ∷ more) = rows_below columns table cells (header_fault columns table header) more

-- the table with this number that a file says, where the tables before it have so many cells; or the first fault
unfoldable pub table_from : ℕ → ℕ → ShapeView → List ℕ → Result TableView LoadFault
table_from table cells shape bytes = with_rows shape (rows_in shape.columns table cells (records_of bytes))

abbrev pub with_table : Result TableView LoadFault → (TableView → Result (List TableView) LoadFault) → Result (List TableView) LoadFault
with_table (Err fault) more = Err fault
with_table (Ok t) more = more t

abbrev pub onto : TableView → Result (List TableView) LoadFault → Result (List TableView) LoadFault
onto t (Ok ts) = Ok (t ∷ ts)
onto t (Err fault) = Err fault

-- the tables of these shapes from this number on, each from its file, or the first fault
abbrev pub tables_from : ℕ → ℕ → List ShapeView → List (List ℕ) → Result (List TableView) LoadFault
tables_from table cells [] files = Ok []
tables_from table cells (shape ∷ shapes) [] = Ok []
tables_from table cells (shape ∷ shapes) (bytes ∷ files) =
    with_table (table_from table cells shape bytes) (λ t. onto t (tables_from (table + 1) (cells + length t.rows * length shape.columns) shapes files))

-- the first file from this number on that is longer than a file may be
abbrev pub too_long_at : ℕ → List (List ℕ) → Option ℕ
too_long_at table [] = None
too_long_at table (bytes ∷ files) = if nat_lt most_bytes (length bytes) then Some table else too_long_at (table + 1) files

abbrev pub tables_unless : List ShapeView → List (List ℕ) → Option ℕ → Result (List TableView) LoadFault
tables_unless shapes files (Some table) = Err (Wrong TooLong table 0 0)
tables_unless shapes files None = tables_from 1 0 shapes files

-- the tables of these shapes that the files say, in the order of the schema, or the first fault: a file that is too long before all others
unfoldable pub tables_loaded : List ShapeView → List (List ℕ) → Result (List TableView) LoadFault
tables_loaded shapes files = tables_unless shapes files (too_long_at 1 files)

abbrev pub contents_of : List (Vec ℕ) → List (List ℕ)
contents_of files = map (λ (v : Vec ℕ). v.items) files
