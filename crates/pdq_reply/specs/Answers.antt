-- The text of an answer, and of what refuses a question, a table or a schema. Each line ends with byte 10.
use Rattle.std.specs.Prelude.{ℕ, List, [], ◌∷◌, ◌++◌, Option, None, Some, codes, decimal, flat_map, length}
use Rattle.pdq_value.specs.declared.cells.Cell.{Cell}
use Rattle.pdq_value.specs.declared.loading.LoadFault.{LoadFault}
use Rattle.pdq_value.specs.declared.loading.LoadFault.TheVariants.{Wrong, Memory}
use Rattle.pdq_value.specs.declared.loading.LoadWhy.{LoadWhy}
use Rattle.pdq_value.specs.declared.loading.LoadWhy.TheVariants as load
use Rattle.pdq_value.specs.RowText.{row_text}
use Rattle.pdq_schema.specs.declared.faults.SchemaFault.{SchemaFault}
use Rattle.pdq_schema.specs.declared.faults.SchemaFault.TheVariants as schema_fault
use Rattle.pdq_schema.specs.declared.faults.SchemaWhy.{SchemaWhy}
use Rattle.pdq_schema.specs.declared.faults.SchemaWhy.TheVariants as schema
use Rattle.pdq_sql.specs.declared.faults.SqlFault.{SqlFault}
use Rattle.pdq_sql.specs.declared.faults.SqlWhy.{SqlWhy}
use Rattle.pdq_sql.specs.declared.faults.SqlWhy.TheVariants as sql

-- the number and the words of a refused select; want of memory has no place and is not printed so
abbrev pub select_number : SqlWhy → ℕ
select_number sql.BadLine = 1
select_number sql.UnknownTable = 2
select_number sql.UnknownColumn = 3
select_number sql.Ambiguous = 4
select_number sql.KindsDiffer = 5
select_number sql.NotJoined = 6
select_number sql.NotGrouped = 7
select_number sql.CountOverJoin = 8
select_number sql.TooMany = 9
select_number sql.Memory = 17

abbrev pub select_words : SqlWhy → List ℕ
select_words sql.BadLine = codes "bad line"
select_words sql.UnknownTable = codes "unknown table"
select_words sql.UnknownColumn = codes "unknown column"
select_words sql.Ambiguous = codes "ambiguous name"
select_words sql.KindsDiffer = codes "kinds differ"
select_words sql.NotJoined = codes "tables not joined"
select_words sql.NotGrouped = codes "column not grouped"
select_words sql.CountOverJoin = codes "count over a join"
select_words sql.TooMany = codes "too many"
select_words sql.Memory = codes "want of memory"

-- a select is refused
abbrev pub refused_select : SqlFault → List ℕ
refused_select f = codes "ERROR " ++ decimal (select_number f.why) ++ codes " " ++ select_words f.why ++ codes " AT " ++ decimal f.place ++ 10 ∷ []

abbrev pub load_words : LoadWhy → List ℕ
load_words load.TooLong = codes "too long"
load_words load.TooManyRows = codes "too many rows"
load_words load.TooManyCells = codes "too many cells"
load_words load.NotUtf8 = codes "not utf-8"
load_words load.WrongFields = codes "wrong fields"
load_words load.WrongHeader = codes "wrong header"
load_words load.BadNumber = codes "bad number"
load_words load.BadText = codes "bad text"

abbrev pub load_place : ℕ → ℕ → ℕ → List ℕ
load_place table row column = codes " TABLE " ++ decimal table ++ codes " ROW " ++ decimal row ++ codes " COLUMN " ++ decimal column ++ 10 ∷ []

-- the text of a table is refused; want of memory has no line
abbrev pub refused_table : LoadFault → List ℕ
refused_table (Wrong why table row column) = codes "FAULT DATA " ++ load_words why ++ load_place table row column
refused_table Memory = []

abbrev pub schema_words : SchemaWhy → List ℕ
schema_words schema.NotToml = codes "not toml"
schema_words schema.UnknownKey = codes "unknown key"
schema_words schema.MissingKey = codes "missing key"
schema_words schema.TooMany = codes "too many"
schema_words schema.BadName = codes "bad name"
schema_words schema.TwoNames = codes "two names"
schema_words schema.BadKind = codes "bad kind"
schema_words schema.BadFragment = codes "bad fragment"

abbrev pub schema_place : ℕ → ℕ → List ℕ
schema_place table column = codes " TABLE " ++ decimal table ++ codes " COLUMN " ++ decimal column ++ 10 ∷ []

-- a schema file is refused; want of memory has no line
abbrev pub refused_schema : SchemaFault → List ℕ
refused_schema (schema_fault.Wrong why table column) = codes "FAULT SCHEMA " ++ schema_words why ++ schema_place table column
refused_schema schema_fault.Memory = []

-- a row and its line end
abbrev pub row_line : List Cell → List ℕ
row_line cells = row_text cells ++ 10 ∷ []

abbrev pub count_line : ℕ → List ℕ
count_line count = codes "ROWS " ++ decimal count ++ 10 ∷ []

-- the number of the rows, then the rows
abbrev pub rows_text : List (List Cell) → List ℕ
rows_text rows = count_line (length rows) ++ flat_map row_line rows

abbrev pub too_many_rows : List ℕ
too_many_rows = codes "ERROR 23 too many rows" ++ 10 ∷ []

-- an answer; None where the question has more choices than the row limit
abbrev pub answer_text : Option (List (List Cell)) → List ℕ
answer_text None = too_many_rows
answer_text (Some rows) = rows_text rows
