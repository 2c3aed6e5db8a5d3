-- A plain table that is read is a table of its schema.
use Rattle.std.proofs.Common.{◌≡◌, ◌≢◌, ℕ, zero, suc, ◌+◌, ◌*◌, ◌≤◌, Bool, true, false, cond, List, [], ◌∷◌, length, refl, ap, subst, arith, Option, Some, None, All, AllPairs, codes}
use Rattle.std.specs.Prelude.{position, take, drop, ◌&&◌, nat_lt, map, sum_by, IfOk, Result, Ok, Err}
use Rattle.std.specs.List.{slice_split}
use Rattle.std.specs.Str.{bytes_eq}
use Rattle.std.proofs.lemmas.Bool.{false≢true}
use Rattle.std.proofs.lemmas.Bool.Decides.{nat_tests}
use Rattle.std.proofs.lemmas.List.Elements.{All-cons, All-head, All-nil, All-tail}
use Rattle.std.proofs.lemmas.List.Kept.{AllPairs-cons}
use Rattle.std.proofs.lemmas.List.Sums.{sum_by-cons}
use Rattle.pdq_base.specs.Lines.{is_blank}
use Rattle.pdq_value.specs.declared.loading.LoadFault.{LoadFault}
use Rattle.pdq_value.specs.declared.loading.LoadWhy.TheVariants.{TooLong, TooManyRows}
use Rattle.pdq_value.specs.declared.shapes.Column.{Column}
use Rattle.pdq_value.specs.declared.shapes.Kind.{Kind}
use Rattle.pdq_value.specs.declared.shapes.Table.{Table}
use Rattle.pdq_value.specs.declared.shapes.Value.{Value}
use Rattle.pdq_value.specs.Header.{column_cut, column_of, columns_of, header_shape, is_colon, kind_of, names_differ, shape_of_parts, shape_with, with_column, with_name}
use Rattle.pdq_value.specs.Names.{is_name}
use Rattle.pdq_value.specs.PlainTable.{fault, most_rows, plain_table_of, row_of, rows_from, table_of_lines, table_with, with_row, with_rows}
use Rattle.pdq_value.specs.Tables.{IsRowOf, IsShape, IsTable, ShapeView, TableView, shape_of, table_of}
use Rattle.pdq_value.proofs.HeaderShapes.{If}
use Rattle.pdq_schema.specs.Schemas.{IsNamed, IsSchema, SchemaView}
use Rattle.pdq_table.specs.Storing.{IsStored}
use Rattle.pdq_ask.specs.Plain.{IsStorable, plain_schema, plain_stored}

either : {X : Type 0} (P : X → Type 0) (b : Bool) (x y : Option X) → (b ≡ true → If P x) → If P y → If P (cond b x y)
either P true x y h k = h refl
either P false x y h k = k

last_true : (a b : Bool) → (a && b) ≡ true → b ≡ true
last_true true b e = e
last_true false b e = absurd (false≢true e)

abbrev HasName : Column → Type 0
HasName c = is_name c.name ≡ true

named_is : (name : List ℕ) (k : Option Kind) → is_name name ≡ true → If HasName (with_name name k)
named_is name None is = tt
named_is name (Some k) is = is

cut_is : (part : List ℕ) (end : Option ℕ) → If HasName (column_cut part end)
cut_is part None = tt
cut_is part (Some end) = either HasName (is_name (take end part)) _ None (λ is. named_is (take end part) (kind_of (drop (end + 1) part)) is) tt

column_is : (part : List ℕ) → If HasName (column_of part)
unfolding column_of
column_is part = cut_is part (position is_colon part)

more_is : (c : Option Column) (cs : Option (List Column)) → If HasName c → If (All HasName) cs → If (All HasName) (with_column c cs)
more_is None None h k = tt
more_is None (Some cs) h k = tt
more_is (Some c) None h k = tt
more_is (Some c) (Some cs) h k = All-cons HasName c cs h k

columns_are : (most : ℕ) (parts : List (List ℕ)) → If (All HasName) (columns_of most parts)
columns_are most [] = All-nil HasName
columns_are zero (part ∷ parts) = tt
columns_are (suc most) (part ∷ parts) = more_is (column_of part) (columns_of most parts) (column_is part) (columns_are most parts)

shape_is : (name : List ℕ) (cs : Option (List Column)) → is_name name ≡ true → If (All HasName) cs → If IsNamed (shape_with name cs)
shape_is name None is h = tt
shape_is name (Some columns) is h = either IsNamed (nat_lt 0 (length columns) && names_differ columns) _ None (λ _. record { table = is; columns = h }) tt

parts_are : (parts : List (List ℕ)) → If IsNamed (shape_of_parts parts)
parts_are [] = tt
parts_are (word ∷ []) = tt
parts_are (word ∷ name ∷ columns) = either IsNamed (bytes_eq word (codes "table") && is_name name) _ None (λ is. shape_is name (columns_of 16 columns) (last_true _ _ is) (columns_are 16 columns)) tt

header_is : (line : List ℕ) → If IsNamed (header_shape line)
unfolding header_shape
header_is line = parts_are (slice_split is_blank line)

-- what is known of a table that is read
record IsRead (t : TableView) : Type 0 where
  pub named : IsNamed t.shape
  pub few : length t.rows ≤ most_rows

either_ok : {X : Type 0} (P : X → Type 0) (b : Bool) (x y : Result X LoadFault) → IfOk x P → (b ≡ false → IfOk y P) → IfOk (cond b x y) P
either_ok P true x y h k = h
either_ok P false x y h k = k refl

-- so many rows from this number on are within the limit
abbrev AreFewFrom : ℕ → List (List Value) → Type 0
AreFewFrom row rows = row + length rows ≤ 2000001

one_more : (row : ℕ) (r : Result (List Value) LoadFault) (rs : Result (List (List Value)) LoadFault) → IfOk rs (AreFewFrom (row + 1)) → IfOk (with_row r rs) (AreFewFrom row)
one_more row (Ok r) (Ok rs) h = omega (arith, h)
one_more row (Ok r) (Err e) h = tt
one_more row (Err e) (Ok rs) h = tt
one_more row (Err e) (Err d) h = tt

next_row : (row : ℕ) → nat_lt 2000000 row ≡ false → row + 1 ≤ 2000001
next_row row within = grind (arith, nat_tests, within)

rows_few : (columns : List Column) (row : ℕ) (lines : List (List ℕ)) → row ≤ 2000001 → IfOk (rows_from columns row lines) (AreFewFrom row)
rows_few columns row [] h = omega (arith, h)
rows_few columns row (line ∷ lines) h = either_ok (AreFewFrom row) (nat_lt 2000000 row) (Err (fault TooManyRows row 0)) _ tt (λ within. one_more row (row_of columns row line) (rows_from columns (row + 1) lines) (rows_few columns (row + 1) lines (next_row row within)))

with_is : (shape : ShapeView) (rows : Result (List (List Value)) LoadFault) → IsNamed shape → IfOk rows (AreFewFrom 1) → IfOk (with_rows shape rows) IsRead
with_is shape (Ok rows) named few = record { named = named; few = omega (arith, few) }
with_is shape (Err e) named few = tt

table_is : (shape : Option ShapeView) (lines : List (List ℕ)) → If IsNamed shape → IfOk (table_with shape lines) IsRead
table_is None lines named = tt
table_is (Some shape) lines named = with_is shape (rows_from shape.columns 1 lines) named (rows_few shape.columns 1 lines (omega arith))

lines_are : (lines : List (List ℕ)) → IfOk (table_of_lines lines) IsRead
lines_are [] = tt
lines_are (line ∷ lines) = table_is (header_shape line) lines (header_is line)

plain_is : (bytes : List ℕ) → IfOk (plain_table_of bytes) IsRead
unfolding plain_table_of
plain_is bytes = either_ok IsRead (nat_lt 16777216 (length bytes)) (Err (fault TooLong 0 0)) _ tt (λ _. lines_are _)

-- a plain table that is read can be stored
pub plain_is_storable : (bytes : List ℕ) (t : TableView) → plain_table_of bytes ≡ Ok t → IsShape t.shape → IsTable t → IsStorable t
plain_is_storable bytes t reads shape table =
    let P : Result TableView LoadFault → Type 0 = λ r. IfOk r IsRead in
    let read : IsRead t = subst P reads (plain_is bytes) in
    record { shape = shape; named = read.named; table = table; few = read.few }

row_length : (columns : List Column) (values : List Value) → IsRowOf columns values → length values ≡ length columns
row_length [] [] h = refl
row_length [] (v ∷ vs) h = absurd h
row_length (c ∷ cs) [] h = absurd h
row_length (c ∷ cs) (v ∷ vs) h = ap suc (row_length cs vs h.1)

rows_cells : (columns : List Column) (rows : List (List Value)) → length columns ≤ 16 → All (IsRowOf columns) rows → sum_by length rows ≤ 16 * length rows
rows_cells columns [] few are = omega arith
rows_cells columns (row ∷ rows) few are =
    let one : length row ≡ length columns = row_length columns row (All-head (IsRowOf columns) row rows are) in
    let rest : sum_by length rows ≤ 16 * length rows = rows_cells columns rows few (All-tail (IsRowOf columns) row rows are) in
    omega (arith, one, rest, few, sum_by-cons length row rows)

abbrev TablesDiffer : ShapeView → ShapeView → Type 0
TablesDiffer a b = a.name ≢ b.name

none_paired : AllPairs TablesDiffer []
none_paired i j d below within = absurd (omega arith)

pub plain_is_schema : (shape : ShapeView) → IsShape shape → IsNamed shape → IsSchema (plain_schema shape)
plain_is_schema shape is named = record {
  some_table = omega arith;
  sixteen_tables = omega arith;
  shapes = All-cons IsShape shape [] is (All-nil IsShape);
  names = All-cons IsNamed shape [] named (All-nil IsNamed);
  names_differ = AllPairs-cons TablesDiffer shape [] (All-nil (TablesDiffer shape)) none_paired;
  a_file_each = refl;
  a_cut_each = refl;
  cuts = ((omega arith, omega arith), tt);
}

abbrev HasFewRows : TableView → Type 0
HasFewRows t = length t.rows ≤ most_rows

pub plain_is_stored : (t : TableView) → IsStorable t → IsStored (plain_stored t)
plain_is_stored t h = record {
  schema = plain_is_schema t.shape h.shape h.named;
  tables = record {
    same = refl;
    database = All-cons IsTable t [] h.table (All-nil IsTable);
    rows = All-cons HasFewRows t [] h.few (All-nil HasFewRows);
    cells = omega (arith, rows_cells t.shape.columns t.rows h.shape.sixteen_columns h.table.rows, h.few);
  };
}

-- the same of the parts that are stored
pub parts_are_stored : (s : SchemaView) (tables : List Table) (t : Table) → s ≡ plain_schema (shape_of t.shape) → tables ≡ t ∷ [] → IsStorable (table_of t) → IsStored (record { schema = s; tables = map table_of tables })
parts_are_stored s tables t same one h = rw (same, one) (plain_is_stored (table_of t) h)
