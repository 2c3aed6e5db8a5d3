-- What a reader of a file has left: its records, each the list of its fields.
use Rattle.std.specs.Borrow.{Bor}
use Rattle.std.specs.Prelude.{◌≡◌, ℕ, ◌+◌, ◌≤◌, List, [], ◌∷◌, All, Bool, true, false, Option, None, Some, length}
use Rattle.csv.specs.Reading.{Ready, default_config, records_from, source_of}
use Rattle.csv.specs.declared.parser.State.{State}
use Rattle.csv.specs.declared.reader.Reader.{Reader}
use Rattle.csv.specs.declared.reader.Trim.TheVariants as trim
use Rattle.pdq_dict.specs.Dictionary.{cell_limit}
use Rattle.pdq_value.specs.declared.shapes.Column.{Column}
use Rattle.pdq_value.specs.PlainTable.{most_rows, not_utf8_at}
use Rattle.pdq_table.specs.Loading.{Place, most_bytes, row_of, values_of}

abbrev pub FileReader : Type 0
FileReader = Reader (Bor (List ℕ))

-- the bytes that are left, where no read has failed
abbrev pub bytes_left : FileReader → Option (List ℕ)
bytes_left r = source_of (λ (s : Bor (List ℕ)). Some s.now) r

abbrev pub records_after : State → Option (List ℕ) → List (List (List ℕ))
records_after s None = []
records_after s (Some bytes) = records_from default_config (length bytes + 1) s bytes

-- the records that are left
unfoldable pub records_left : FileReader → List (List (List ℕ))
records_left r = records_after r.state (bytes_left r)

-- there are so many bytes at most
abbrev pub AreAtMost : ℕ → Option (List ℕ) → Type 0
AreAtMost n None = ⊥
AreAtMost n (Some bytes) = length bytes ≤ n

-- a reader of records alone, with the settings of CSV, of which no read has failed
pub record IsReading (r : FileReader) : Type 0 where
  pub trim : r.trim ≡ trim.None
  pub ready : Ready r
  pub config : r.config ≡ default_config
  pub short : AreAtMost most_bytes (bytes_left r)

-- fields of a file: no longer, and not many more, than a file has bytes
pub record AreShort (fields : List (List ℕ)) : Type 0 where
  pub few : length fields ≤ most_bytes + 1
  pub each : All (λ field. length field ≤ most_bytes) fields

-- the first of the records that were left was taken
pub record TakesOne (old : FileReader) (fields : List (List ℕ)) (new : FileReader) : Type 0 where
  pub first : records_left old ≡ fields ∷ records_left new
  pub short : AreShort fields
  pub reading : IsReading new

-- a record was taken, or none was left
abbrev pub Takes : Bool → FileReader → List (List ℕ) → FileReader → Type 0
Takes true old fields new = TakesOne old fields new
Takes false old fields new = records_left old ≡ []

-- a record of texts, one for each column, within the limits: its row is what its fields say
pub record IsWhole (columns : List Column) (p : Place) (cells : ℕ) (fields : List (List ℕ)) : Type 0 where
  pub said : row_of columns p cells fields ≡ values_of columns p 1 fields
  pub utf8 : not_utf8_at 1 fields ≡ None
  pub count : length fields ≡ length columns
  pub rows : p.row ≤ most_rows
  pub room : cells + length columns ≤ cell_limit
