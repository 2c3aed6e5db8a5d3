-- The rows of a file that are read have its columns' kinds.
use Rattle.std.proofs.Common.{ℕ, ◌≡◌, ◌<◌, ◌+◌, Bool, true, false, cond, List, [], ◌∷◌, length, refl, subst, arith, Option, Some, None, Result, Ok, Err, All}
use Rattle.std.specs.Prelude.{⊤, ◌^◌, ℤ, nat_abs, nat_lt}
use Rattle.std.specs.Str.{is_utf8}
use Rattle.std.proofs.lemmas.Bool.Decides.{nat_tests}
use Rattle.std.proofs.lemmas.List.Elements.{All-cons, All-nil}
use Rattle.pdq_dict.specs.Dictionary.{cell_limit}
use Rattle.pdq_value.specs.declared.loading.LoadFault.{LoadFault}
use Rattle.pdq_value.specs.declared.numbers.NumberFault.{NumberFault}
use Rattle.pdq_value.specs.declared.shapes.Column.{Column}
use Rattle.pdq_value.specs.declared.shapes.Kind.{Kind}
use Rattle.pdq_value.specs.declared.shapes.Kind.TheVariants as kind
use Rattle.pdq_value.specs.declared.shapes.Value.{Value}
use Rattle.pdq_value.specs.declared.shapes.Value.TheVariants.{Null}
use Rattle.pdq_value.specs.Numbers.{number_read}
use Rattle.pdq_value.specs.PlainTable.{most_rows, not_utf8_at, with_row, with_value}
use Rattle.pdq_value.specs.Tables.{IsRowOf, IsValueOf}
use Rattle.pdq_value.proofs.NumberBounds.{number_read-small}
use Rattle.pdq_table.specs.Loading.{Place, fields_fault, header_fault, is_null_field, row_of, row_with, rows_below, rows_from, rows_in, value_of, value_of_number, value_said, values_of}

-- what is read, is so
abbrev Reads : {X E : Type 0} → (X → Type 0) → Result X E → Type 0
Reads P (Ok x) = P x
Reads P (Err e) = ⊤

unless : {X E : Type 0} (P : X → Type 0) (b : Bool) (e : E) (y : Result X E) → Reads P y → Reads P (cond b (Err e) y)
unless P true e y k = tt
unless P false e y k = k

-- a number that is read is below 10^18
abbrev IsSmall : ℤ → Type 0
IsSmall z = nat_abs z < 10 ^ 18

small : (r : Result ℤ NumberFault) (text : List ℕ) (scale : ℕ) → number_read text scale ≡ r → Reads IsSmall r
small (Ok z) text scale reads = number_read-small text scale z reads
small (Err e) text scale reads = tt

number_is : (scale : ℕ) (p : Place) (column : ℕ) (r : Result ℤ NumberFault) → Reads IsSmall r → Reads (IsValueOf (kind.Number scale)) (value_of_number p column r)
number_is scale p column (Ok z) h = h
number_is scale p column (Err e) h = tt

said_is : (k : Kind) (p : Place) (column : ℕ) (field : List ℕ) → is_utf8 field ≡ true → Reads (IsValueOf k) (value_said k p column field)
said_is kind.Words p column field good = good
said_is (kind.Number scale) p column field good = number_is scale p column _ (small _ field scale refl)

null_is : (k : Kind) → IsValueOf k Null
null_is kind.Words = tt
null_is (kind.Number scale) = tt

-- a choice of two that are so
either : {X E : Type 0} (P : X → Type 0) (b : Bool) (x y : Result X E) → Reads P x → Reads P y → Reads P (cond b x y)
either P true x y h k = h
either P false x y h k = k

value_is : (k : Kind) (p : Place) (column : ℕ) (field : List ℕ) → is_utf8 field ≡ true → Reads (IsValueOf k) (value_of k p column field)
value_is k p column field good = either (IsValueOf k) (is_null_field k field) _ _ (null_is k) (said_is k p column field good)

-- each of the fields is UTF-8
abbrev AreUtf8 : List (List ℕ) → Type 0
AreUtf8 [] = ⊤
AreUtf8 (field ∷ fields) = (is_utf8 field ≡ true) × AreUtf8 fields

none_at : (b : Bool) (n : Option ℕ) (column : ℕ) → cond b n (Some column) ≡ None → (b ≡ true) × (n ≡ None)
none_at true n column e = (refl, e)
none_at false n column e = absurd (grind (arith, e))

-- the first of some fields that are UTF-8, and those after it
pub first_is_utf8 : (column : ℕ) (field : List ℕ) (fields : List (List ℕ)) → not_utf8_at column (field ∷ fields) ≡ None → is_utf8 field ≡ true
first_is_utf8 column field fields none = (none_at _ _ column none).0

pub others_are_utf8 : (column : ℕ) (field : List ℕ) (fields : List (List ℕ)) → not_utf8_at column (field ∷ fields) ≡ None → not_utf8_at (column + 1) fields ≡ None
others_are_utf8 column field fields none = (none_at _ _ column none).1

are_utf8 : (column : ℕ) (fields : List (List ℕ)) → not_utf8_at column fields ≡ None → AreUtf8 fields
are_utf8 column [] none = tt
are_utf8 column (field ∷ fields) none = let t = none_at _ _ column none in (t.0, are_utf8 (column + 1) fields t.1)

with_is : (c : Column) (cs : List Column) (v : Result Value LoadFault) (vs : Result (List Value) LoadFault)
    → Reads (IsValueOf c.kind) v → Reads (IsRowOf cs) vs → Reads (IsRowOf (c ∷ cs)) (with_value v vs)
with_is c cs (Ok v) (Ok vs) h k = (h, k)
with_is c cs (Ok v) (Err e) h k = tt
with_is c cs (Err e) vs h k = tt

values_are : (cs : List Column) (p : Place) (column : ℕ) (fields : List (List ℕ)) → length fields ≡ length cs → AreUtf8 fields → Reads (IsRowOf cs) (values_of cs p column fields)
values_are [] p column fields e good = tt
values_are (c ∷ cs) p column [] e good = absurd (omega (arith, e))
values_are (c ∷ cs) p column (field ∷ fields) e good =
    with_is c cs _ _ (value_is c.kind p column field good.0) (values_are cs p (column + 1) fields (omega (arith, e)) good.1)

-- fields without a fault are texts, as many as the columns
no_fault : (columns : List Column) (p : Place) (fields : List (List ℕ)) (o : Option ℕ) → fields_fault columns p fields o ≡ None → (o ≡ None) × (length fields ≡ length columns)
no_fault columns p fields (Some column) e = absurd (grind (arith, e))
no_fault columns p fields None e = (refl, grind (arith, nat_tests, e))

-- fields without a fault are UTF-8
pub utf8_where_no_fault : (columns : List Column) (p : Place) (fields : List (List ℕ)) (o : Option ℕ) → fields_fault columns p fields o ≡ None → o ≡ None
utf8_where_no_fault columns p fields o e = (no_fault columns p fields o e).0

row_with_is : (columns : List Column) (p : Place) (fields : List (List ℕ)) (o : Option LoadFault)
    → fields_fault columns p fields (not_utf8_at 1 fields) ≡ o → Reads (IsRowOf columns) (row_with columns p fields o)
row_with_is columns p fields (Some fault) e = tt
row_with_is columns p fields None e =
    let t = no_fault columns p fields (not_utf8_at 1 fields) e in
    values_are columns p 1 fields t.1 (are_utf8 1 fields t.0)

row_is : (columns : List Column) (p : Place) (cells : ℕ) (fields : List (List ℕ)) → Reads (IsRowOf columns) (row_of columns p cells fields)
unfolding row_of
row_is columns p cells fields =
    unless (IsRowOf columns) (nat_lt most_rows p.row) _ _
    (unless (IsRowOf columns) (nat_lt cell_limit (cells + length columns)) _ _ (row_with_is columns p fields _ refl))

-- a row that is read is of the columns' kinds
pub row_read : (columns : List Column) (p : Place) (cells : ℕ) (fields : List (List ℕ)) (row : List Value) → row_of columns p cells fields ≡ Ok row → IsRowOf columns row
row_read columns p cells fields row reads = subst (Reads (IsRowOf columns)) reads (row_is columns p cells fields)

one_more : (columns : List Column) (r : Result (List Value) LoadFault) (rs : Result (List (List Value)) LoadFault)
    → Reads (IsRowOf columns) r → Reads (All (IsRowOf columns)) rs → Reads (All (IsRowOf columns)) (with_row r rs)
one_more columns (Ok r) (Ok rs) h k = All-cons (IsRowOf columns) r rs h k
one_more columns (Ok r) (Err e) h k = tt
one_more columns (Err e) rs h k = tt

rows_are : (columns : List Column) (table row cells : ℕ) (records : List (List (List ℕ))) → Reads (All (IsRowOf columns)) (rows_from columns table row cells records)
rows_are columns table row cells [] = All-nil (IsRowOf columns)
rows_are columns table row cells (fields ∷ more) =
    one_more columns _ _ (row_is columns (record { table = table; row = row }) cells fields) (rows_are columns table (row + 1) (cells + length columns) more)

below_are : (columns : List Column) (table cells : ℕ) (o : Option LoadFault) (records : List (List (List ℕ))) → Reads (All (IsRowOf columns)) (rows_below columns table cells o records)
below_are columns table cells (Some fault) records = tt
below_are columns table cells None records = rows_are columns table 1 cells records

in_are : (columns : List Column) (table cells : ℕ) (records : List (List (List ℕ))) → Reads (All (IsRowOf columns)) (rows_in columns table cells records)
in_are columns table cells [] = tt
in_are columns table cells (header ∷ more) = below_are columns table cells (header_fault columns table header) more

-- rows that are read are of the columns' kinds
pub rows_read : (columns : List Column) (table cells : ℕ) (records : List (List (List ℕ))) (rows : List (List Value))
    → rows_in columns table cells records ≡ Ok rows → All (IsRowOf columns) rows
rows_read columns table cells records rows reads = subst (Reads (All (IsRowOf columns))) reads (in_are columns table cells records)
