-- The first line of a plain table: `table`, its name and its columns, with one blank between.
use Rattle.std.specs.Prelude.{ℕ, zero, suc, ◌+◌, ◌-◌, List, [], ◌∷◌, Bool, true, not, ◌&&◌, ◌==◌, nat_le, nat_lt, if◌then◌else◌, Option, None, Some, codes, length, take, drop, position, slice_index}
use Rattle.std.specs.List.{list_any, slice_split}
use Rattle.std.specs.Str.{bytes_eq}
use Rattle.pdq_base.specs.Lines.{is_blank}
use Rattle.pdq_value.specs.declared.shapes.Column.{Column}
use Rattle.pdq_value.specs.declared.shapes.Kind.{Kind}
use Rattle.pdq_value.specs.declared.shapes.Kind.TheVariants.{Number, Words}
use Rattle.pdq_value.specs.Names.{is_name}
use Rattle.pdq_value.specs.Tables.{ShapeView}

abbrev pub is_colon : ℕ → Bool
is_colon b = b == 58

-- `number:` and one digit from 0 to 6
abbrev pub is_number_kind : List ℕ → Bool
is_number_kind bytes = length bytes == 8 && bytes_eq (take 7 bytes) (codes "number:") && nat_le 48 (slice_index bytes 7) && nat_le (slice_index bytes 7) 54

-- the kind that stands behind a column's name: `text`, or `number:` and the number of decimal places
unfoldable pub kind_of : List ℕ → Option Kind
kind_of bytes =
    if bytes_eq bytes (codes "text") then Some Words
    else if is_number_kind bytes then Some (Number (slice_index bytes 7 - 48))
    else None

-- a column of this name
abbrev pub with_name : List ℕ → Option Kind → Option Column
with_name name (Some k) = Some (record { name = name; kind = k })
with_name name None = None

abbrev pub column_cut : List ℕ → Option ℕ → Option Column
column_cut part None = None
column_cut part (Some end) = if is_name (take end part) then with_name (take end part) (kind_of (drop (end + 1) part)) else None

-- a name, a colon, and its kind
unfoldable pub column_of : List ℕ → Option Column
column_of part = column_cut part (position is_colon part)

-- the parts of what follows a blank, where one is there
abbrev pub parts_of : Option (List ℕ) → List (List ℕ)
parts_of None = []
parts_of (Some rest) = slice_split is_blank rest

abbrev pub with_column : Option Column → Option (List Column) → Option (List Column)
with_column (Some c) (Some cs) = Some (c ∷ cs)
with_column c cs = None

-- each part is a column, and they are at most so many
abbrev pub columns_of : ℕ → List (List ℕ) → Option (List Column)
columns_of most [] = Some []
columns_of zero (part ∷ parts) = None
columns_of (suc most) (part ∷ parts) = with_column (column_of part) (columns_of most parts)

-- no two columns have one name
abbrev pub names_differ : List Column → Bool
names_differ [] = true
names_differ (c ∷ cs) = not (list_any (λ (d : Column). bytes_eq d.name c.name) cs) && names_differ cs

abbrev pub shape_with : List ℕ → Option (List Column) → Option ShapeView
shape_with name (Some columns) = if nat_lt 0 (length columns) && names_differ columns then Some (record { name = name; columns = columns }) else None
shape_with name None = None

abbrev pub shape_of_parts : List (List ℕ) → Option ShapeView
shape_of_parts [] = None
shape_of_parts (word ∷ []) = None
shape_of_parts (word ∷ name ∷ columns) = if bytes_eq word (codes "table") && is_name name then shape_with name (columns_of 16 columns) else None

-- the shape that the line says: one to sixteen columns, whose names differ; None where it is no such line
unfoldable pub header_shape : List ℕ → Option ShapeView
header_shape line = shape_of_parts (slice_split is_blank line)
