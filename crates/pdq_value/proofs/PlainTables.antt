-- The rows of a plain table that are read have its columns' kinds.
use Rattle.std.proofs.Common.{ℕ, ◌≡◌, ◌<◌, ◌+◌, Bool, true, false, cond, List, [], ◌∷◌, length, refl, subst, arith, Option, Some, None, Result, Ok, Err, All}
use Rattle.std.specs.Prelude.{⊤, ◌^◌, ℤ, nat_abs, nat_lt}
use Rattle.std.specs.Str.{bytes_eq, is_utf8}
use Rattle.std.proofs.lemmas.Bool.{false≢true}
use Rattle.std.proofs.lemmas.Bool.Decides.{nat_tests}
use Rattle.std.proofs.lemmas.List.Elements.{All-cons, All-nil}
use Rattle.pdq_value.specs.declared.loading.LoadFault.{LoadFault}
use Rattle.pdq_value.specs.declared.numbers.NumberFault.{NumberFault}
use Rattle.pdq_value.specs.declared.shapes.Column.{Column}
use Rattle.pdq_value.specs.declared.shapes.Kind.{Kind}
use Rattle.pdq_value.specs.declared.shapes.Kind.TheVariants as kind
use Rattle.pdq_value.specs.declared.shapes.Value.{Value}
use Rattle.pdq_value.specs.declared.shapes.Value.TheVariants as value
use Rattle.pdq_value.specs.Numbers.{number_read}
use Rattle.pdq_value.specs.PlainTable.{has_fields, not_utf8_at, row_of, row_where, rows_from, value_of, value_of_number, value_of_text, values_of, with_row, with_value}
use Rattle.pdq_value.specs.RowLines.{nothing_text, plain_text, raw_cells, raw_cells_after}
use Rattle.pdq_value.specs.Tables.{IsRowOf, IsValueOf}
use Rattle.pdq_value.proofs.NumberBounds.{number_read-small}
use Rattle.pdq_value.proofs.Utf8Texts.{plain_text-is_utf8}

-- what is read, is so
abbrev Reads : {X E : Type 0} → (X → Type 0) → Result X E → Type 0
Reads P (Ok x) = P x
Reads P (Err e) = ⊤

if_reads : {X E : Type 0} (P : X → Type 0) (b : Bool) (x y : Result X E) → (b ≡ true → Reads P x) → Reads P y → Reads P (cond b x y)
if_reads P true x y h k = h refl
if_reads P false x y h k = k

-- a number that is read is below 10^18
abbrev IsSmall : ℤ → Type 0
IsSmall z = nat_abs z < 10 ^ 18

small : (r : Result ℤ NumberFault) (text : List ℕ) (scale : ℕ) → number_read text scale ≡ r → Reads IsSmall r
small (Ok z) text scale reads = number_read-small text scale z reads
small (Err e) text scale reads = tt

number_is : (scale row column : ℕ) (r : Result ℤ NumberFault) → Reads IsSmall r → Reads (IsValueOf (kind.Number scale)) (value_of_number row column r)
number_is scale row column (Ok z) h = h
number_is scale row column (Err e) h = tt

text_is : (k : Kind) (row column : ℕ) (cell : List ℕ) (o : Option (List ℕ)) → is_utf8 cell ≡ true → plain_text cell ≡ o → Reads (IsValueOf k) (value_of_text k row column o)
text_is k row column cell None good says = tt
text_is kind.Words row column cell (Some text) good says = plain_text-is_utf8 cell text good says
text_is (kind.Number scale) row column cell (Some text) good says = number_is scale row column _ (small _ text scale refl)

null_is : (k : Kind) → IsValueOf k value.Null
null_is (kind.Number scale) = tt
null_is kind.Words = tt

value_is : (k : Kind) (row column : ℕ) (cell : List ℕ) → is_utf8 cell ≡ true → Reads (IsValueOf k) (value_of k row column cell)
unfolding value_of
value_is k row column cell good = if_reads (IsValueOf k) (bytes_eq cell nothing_text) _ _ (λ _. null_is k) (text_is k row column cell _ good refl)

-- each of the cells is UTF-8
abbrev AreUtf8 : List (List ℕ) → Type 0
AreUtf8 [] = ⊤
AreUtf8 (cell ∷ cells) = (is_utf8 cell ≡ true) × AreUtf8 cells

pub none_at : (b : Bool) (n : Option ℕ) (column : ℕ) → cond b n (Some column) ≡ None → (b ≡ true) × (n ≡ None)
none_at true n column e = (refl, e)
none_at false n column e = absurd (grind (arith, e))

are_utf8 : (column : ℕ) (cells : List (List ℕ)) → not_utf8_at column cells ≡ None → AreUtf8 cells
are_utf8 column [] none = tt
are_utf8 column (cell ∷ cells) none = let t = none_at _ _ column none in (t.0, are_utf8 (column + 1) cells t.1)

with_is : (c : Column) (cs : List Column) (v : Result Value LoadFault) (vs : Result (List Value) LoadFault) → Reads (IsValueOf c.kind) v → Reads (IsRowOf cs) vs → Reads (IsRowOf (c ∷ cs)) (with_value v vs)
with_is c cs (Ok v) (Ok vs) h k = (h, k)
with_is c cs (Ok v) (Err e) h k = tt
with_is c cs (Err e) vs h k = tt

values_are : (cs : List Column) (row column : ℕ) (cells : List (List ℕ)) → length cells ≡ length cs → AreUtf8 cells → Reads (IsRowOf cs) (values_of cs row column cells)
values_are [] row column cells e good = tt
values_are (c ∷ cs) row column [] e good = absurd (omega (arith, e))
values_are (c ∷ cs) row column (cell ∷ cells) e good = with_is c cs _ _ (value_is c.kind row column cell good.0) (values_are cs row (column + 1) cells (omega (arith, e)) good.1)

-- a line that has its fields has as many cells as there are columns
same_length : (columns : List Column) (line : List ℕ) → has_fields columns line ≡ true → length (raw_cells line) ≡ length columns
unfolding raw_cells_after
same_length [] [] told = absurd (false≢true told)
same_length (c ∷ []) [] told = refl
same_length (c ∷ d ∷ cs) [] told = absurd (false≢true told)
same_length columns (b ∷ line) told = grind (arith, nat_tests, told)

row_is_where : (columns : List Column) (row : ℕ) (line : List ℕ) (o : Option ℕ) → not_utf8_at 1 (raw_cells line) ≡ o → Reads (IsRowOf columns) (row_where o columns row line)
row_is_where columns row line (Some column) at = tt
row_is_where columns row line None at = if_reads (IsRowOf columns) (has_fields columns line) _ _ (λ told. values_are columns row 1 (raw_cells line) (same_length columns line told) (are_utf8 1 (raw_cells line) at)) tt

row_is : (columns : List Column) (row : ℕ) (line : List ℕ) → Reads (IsRowOf columns) (row_of columns row line)
unfolding row_of
row_is columns row line = row_is_where columns row line _ refl

one_more : (columns : List Column) (r : Result (List Value) LoadFault) (rs : Result (List (List Value)) LoadFault) → Reads (IsRowOf columns) r → Reads (All (IsRowOf columns)) rs → Reads (All (IsRowOf columns)) (with_row r rs)
one_more columns (Ok r) (Ok rs) h k = All-cons (IsRowOf columns) r rs h k
one_more columns (Ok r) (Err e) h k = tt
one_more columns (Err e) rs h k = tt

rows_are : (columns : List Column) (row : ℕ) (lines : List (List ℕ)) → Reads (All (IsRowOf columns)) (rows_from columns row lines)
rows_are columns row [] = All-nil (IsRowOf columns)
rows_are columns row (line ∷ lines) = if_reads (All (IsRowOf columns)) (nat_lt 2000000 row) _ _ (λ _. tt) (one_more columns _ _ (row_is columns row line) (rows_are columns (row + 1) lines))

-- rows that are read are of the columns' kinds
pub rows_read : (columns : List Column) (row : ℕ) (lines : List (List ℕ)) (rows : List (List Value)) → rows_from columns row lines ≡ Ok rows → All (IsRowOf columns) rows
rows_read columns row lines rows reads = subst (Reads (All (IsRowOf columns))) reads (rows_are columns row lines)
