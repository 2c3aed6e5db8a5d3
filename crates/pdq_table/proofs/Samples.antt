-- The tables of the tests.
use Rattle.std.proofs.Common.{ℕ, zero, suc, ◌≡◌, ◌<◌, ◌≤◌, ◌∙◌, ◌*◌, true, List, [], ◌∷◌, ◌++◌, length, map, ap, subst, sym, take, arith, get_or, Some, All}
use Rattle.std.specs.Prelude.{IfSome, Option, slice_get, sum_by}
use Rattle.std.specs.Str.{IsUtf8, is_utf8}
use Rattle.std.proofs.lemmas.List.Elements.{All-cons, All-head, All-nil, All-tail}
use Rattle.std.proofs.lemmas.List.Sums.{sum_by-cons}
use Rattle.std.proofs.lemmas.Str.{is_utf8-from_IsUtf8}
use Rattle.pdq_value.specs.declared.shapes.Column.{Column}
use Rattle.pdq_value.specs.declared.shapes.TableShape.{TableShape}
use Rattle.pdq_value.specs.declared.shapes.Value.{Value}
use Rattle.pdq_value.specs.PlainTable.{most_rows}
use Rattle.pdq_value.specs.Tables.{shape_of, IsRowOf, IsShape, IsTable, IsValueOf, ShapeView, TableView}
use Rattle.pdq_schema.specs.Fragments.{fragment_count}
use Rattle.pdq_table.specs.Storing.{AreTablesOf, HasFragment, StoredView}
use Rattle.pdq_table.proofs.Stores.{row_length}

pub text_is_utf8 : (text : List ℕ) → IsUtf8 text → is_utf8 text ≡ true
text_is_utf8 text is = is_utf8-from_IsUtf8 text is

-- one more value of its column
pub row_more : (columns : List Column) (i : ℕ) (vs : List Value) (c : Column) (v : Value) → i < length columns → c ≡ get_or columns i c → IsRowOf (take i columns) vs →
    IsValueOf c.kind v →
    IsRowOf (take (suc i) columns) (vs ++ v ∷ [])
row_more [] i vs c v within at is value = absurd (omega (arith, within))
row_more (d ∷ ds) zero [] c v within at is value = (subst (λ (e : Column). IsValueOf e.kind v) at value, tt)
row_more (d ∷ ds) zero (w ∷ ws) c v within at is value = absurd is
row_more (d ∷ ds) (suc i) [] c v within at is value = absurd is
row_more (d ∷ ds) (suc i) (w ∷ ws) c v within at is value = (is.0, row_more ds i ws c v (omega (arith, within)) at is.1 value)

few_cells : (columns : List Column) (rows : List (List Value)) → length columns ≤ 16 → All (IsRowOf columns) rows → sum_by length rows ≤ 16 * length rows
few_cells columns [] few are = omega arith
few_cells columns (r ∷ rs) few are = omega (
  arith,
  few,
  sum_by-cons (length {A = Value}) r rs,
  row_length columns r (All-head
      (IsRowOf columns) r rs are),
  few_cells columns rs few (All-tail (IsRowOf columns) r rs are),
)

-- a table of few rows is one of its shape
pub one_table : (s : ShapeView) (t : TableView) → t.shape ≡ s → IsShape s → All (IsRowOf s.columns) t.rows → length t.rows ≤ 16 → AreTablesOf (s ∷ []) (t ∷ [])
one_table s t same is rows few = record {
  same = ap (λ (u : ShapeView). u ∷ []) same;
  database = All-cons IsTable t [] (subst (λ (u : ShapeView). IsTable (record { shape = u; rows = t.rows })) (sym same) (record { kinds = is.kinds; rows = rows })) (All-nil IsTable);
  rows = All-cons (λ (u : TableView). length u.rows ≤ most_rows) t [] (omega (arith, few)) (All-nil (λ (u : TableView). length u.rows ≤ most_rows));
  cells = grind (arith, few, few_cells s.columns t.rows is.sixteen_columns rows);
}

pub has_fragment : (s : StoredView) (table fragment count : ℕ) → slice_get (map fragment_count s.schema.cuts) table ≡ Some count → fragment < count → HasFragment s table fragment
has_fragment s table fragment count at less = subst (λ (o : Option ℕ). IfSome o (λ n. fragment < n)) (sym at) less

-- the shapes of a schema of one table
pub sole_shape : (shapes : List TableShape) (s : TableShape) (views : List ShapeView) → 1 ≤ length shapes → length shapes < 2 → s ≡ get_or shapes 0 s → map shape_of shapes ≡ views →
    views ≡ shape_of s ∷ []
sole_shape [] s views low high at same = absurd (omega (arith, low))
sole_shape (x ∷ []) s views low high at same = sym same ∙ ap (λ (y : TableShape). shape_of y ∷ []) (sym at)
sole_shape (x ∷ y ∷ ys) s views low high at same = absurd (omega (arith, high))
