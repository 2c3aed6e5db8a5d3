-- The tables of a schema as they are stored.
use Rattle.std.proofs.Common.{ℕ, zero, suc, ◌≡◌, ◌<◌, ◌≤◌, ◌∙◌, List, [], ◌∷◌, length, map, refl, ap, ap₂, sym, subst, arith, get_or, Some, All}
use Rattle.std.specs.Prelude.{IfSome, Option, option_map, slice_get}
use Rattle.std.specs.List.{AllZip}
use Rattle.std.proofs.lemmas.List.{get_or-map, length-map}
use Rattle.std.proofs.lemmas.List.Elements.{All-cons, All-get_or, All-head, All-nil, All-tail, All-weaker}
use Rattle.std.proofs.lemmas.Option.{same_Some, slice_get-get_or, slice_get-map}
use Rattle.pdq_value.specs.declared.shapes.Column.{Column}
use Rattle.pdq_value.specs.declared.shapes.Table.{Table}
use Rattle.pdq_value.specs.declared.shapes.Value.{Value}
use Rattle.pdq_value.specs.PlainTable.{most_rows}
use Rattle.pdq_value.specs.Tables.{IsRowOf, IsShape, IsTable, ShapeView, TableView, shape_of, table_of, no_table}
use Rattle.pdq_schema.specs.Fragments.{CutsRow, fragment_count, fragment_rows}
use Rattle.pdq_schema.specs.Schemas.{AreCutsOf, CutView, IsCutOf, SchemaView, rounds, ranges}
use Rattle.pdq_table.specs.declared.stored_table.StoredTable.{StoredTable}
use Rattle.pdq_dict.specs.Coding.{decoded_row}
use Rattle.pdq_table.specs.declared.stored_table.Spot.{Spot}
use Rattle.pdq_table.specs.Layout.{AreStored, HoldsRow, HoldsRows, HoldsWords, IsCutBy, coded_fragment, decoded_fragment, decoded_fragments, fragment_at, row_at, row_words_at, rows_at, table_stored, view_of, width_of, words_at}
use Rattle.pdq_table.specs.Storing.{HasFragment, IsStored, StoredView, fragment_of, width_at}
use Rattle.pdq_table.specs.Words.{FragmentView, no_rows}

pub row_length : (columns : List Column) (row : List Value) → IsRowOf columns row → length row ≡ length columns
row_length [] [] is = refl
row_length [] (v ∷ vs) is = absurd is
row_length (c ∷ cs) [] is = absurd is
row_length (c ∷ cs) (v ∷ vs) is = omega (arith, row_length cs vs is.1)

-- a row of the table's kinds suits its cut
pub row_suits : (columns : List Column) (cut : CutView) → IsCutOf columns cut → (row : List Value) → IsRowOf columns row → CutsRow cut row
row_suits columns (rounds count) is_cut row is_row = is_cut
row_suits columns (ranges column rs) is_cut row is_row = (omega (arith, is_cut.0, row_length columns row is_row), is_cut.2)

no_shape : ShapeView
no_shape = record { name = []; columns = [] }

pub cut_is : (ss : List ShapeView) (cuts : List CutView) (i : ℕ) (cut : CutView) (d : ShapeView) → AreCutsOf ss cuts → slice_get cuts i ≡ Some cut → IsCutOf (get_or ss i d).columns cut
cut_is ss [] i cut d are at = cc
cut_is [] (c ∷ cs) i cut d are at = absurd are
cut_is (s ∷ ss) (c ∷ cs) zero cut d are at = subst (IsCutOf s.columns) (same_Some _ _ at) are.0
cut_is (s ∷ ss) (c ∷ cs) (suc i) cut d are at = cut_is ss cs i cut d are.1 at

shape_at : (tables : List TableView) (i : ℕ) (d : TableView) → i < length tables → get_or (map (λ (t : TableView). t.shape) tables) i d.shape ≡ (get_or tables i d).shape
shape_at tables i d within = get_or-map (λ (t : TableView). t.shape) tables i d d.shape within

-- the rows of a table suit its cut
pub rows_suit : (s : StoredView) → IsStored s → (i : ℕ) (cut : CutView) (t : TableView) → slice_get s.schema.cuts i ≡ Some cut → i < length s.tables →
    t ≡ get_or s.tables i t → All (CutsRow cut) t.rows
rows_suit s is i cut t at within here =
    let table : IsTable (get_or s.tables i t) = All-get_or IsTable s.tables i t within is.tables.database in
    let its : IsTable t = subst IsTable (sym here) table in
    let shapes : IsCutOf (get_or s.schema.shapes i t.shape).columns cut = cut_is s.schema.shapes s.schema.cuts i cut t.shape is.schema.cuts at in
    let same : get_or s.schema.shapes i t.shape ≡ t.shape = ap (λ (ss : List ShapeView). get_or ss i t.shape) (sym is.tables.same) ∙ shape_at s.tables i t within
    ∙ ap (λ (u : TableView). u.shape) (sym here) in
    let its_cut : IsCutOf t.shape.columns cut = subst (λ (u : ShapeView). IsCutOf u.columns cut) same shapes in
    All-weaker (IsRowOf t.shape.columns) (CutsRow cut) (row_suits t.shape.columns cut its_cut) t.rows its.rows

-- a table has few rows
pub few_at : (s : StoredView) → IsStored s → (i : ℕ) (t : TableView) → i < length s.tables → t ≡ get_or s.tables i t → length t.rows ≤ most_rows
few_at s is i t within here =
    subst (λ (u : TableView). length u.rows ≤ most_rows) (sym here) (All-get_or (λ (u : TableView). length u.rows ≤ most_rows) s.tables i t within is.tables.rows)

module _ (texts : List (List ℕ)) where
  cut_at : (cuts : List CutView) (ts : List StoredTable) → AllZip (IsCutBy texts) cuts ts → (i : ℕ) (d : CutView) (e : StoredTable) → i < length ts → IsCutBy texts (get_or cuts i d) (get_or ts i e)
  cut_at [] [] are i d e within = absurd (omega (arith, within))
  cut_at [] (t ∷ ts) are i d e within = absurd are
  cut_at (c ∷ cs) [] are i d e within = absurd are
  cut_at (c ∷ cs) (t ∷ ts) are zero d e within = are.0
  cut_at (c ∷ cs) (t ∷ ts) are (suc i) d e within = cut_at cs ts are.1 i d e (omega (arith, within))

-- words stand at the spot of a decoded row
spot_held : (texts : List (List ℕ)) (columns : List Column) (fragments : List FragmentView) (spot : Spot) → HoldsRow (map (decoded_fragment texts columns) fragments) spot → HoldsWords fragments spot
spot_held texts columns fragments spot held =
    let within : spot.fragment < length fragments = omega (arith, held.fragment, length-map fragments (decoded_fragment texts columns)) in
    record {
      fragment = within;
      place = omega (
        arith,
        held.place,
        ap length (get_or-map (decoded_fragment texts columns) fragments spot.fragment (no_rows 0) [] within),
        length-map (words_at fragments spot.fragment).rows (decoded_row texts columns),
      );
    }

-- each spot of the tables holds words
pub rows_held : (texts : List (List ℕ)) (cuts : List CutView) (ts : List StoredTable) → AllZip (IsCutBy texts) cuts ts → All HoldsRows ts
rows_held texts [] [] are = All-nil HoldsRows
rows_held texts [] (t ∷ ts) are = absurd are
rows_held texts (c ∷ cs) [] are = absurd are
rows_held texts (c ∷ cs) (t ∷ ts) are = All-cons HoldsRows t ts
    (All-weaker (HoldsRow (decoded_fragments texts t)) (HoldsWords t.fragments.items) (spot_held texts t.shape.columns.items t.fragments.items) t.spots.items are.0.layout.held) (rows_held texts cs ts are.1)

-- the words at a spot decode to the row there
pub row_decoded : (texts : List (List ℕ)) (columns : List Column) (fragments : List FragmentView) (spot : Spot) → HoldsWords fragments spot →
    row_at (map (decoded_fragment texts columns) fragments) spot ≡ decoded_row texts columns (row_words_at fragments spot)
row_decoded texts columns fragments spot held =
    ap (λ (rows : List (List Value)). get_or rows spot.place []) (get_or-map (decoded_fragment texts columns) fragments spot.fragment (no_rows 0) [] held.fragment)
    ∙ get_or-map (decoded_row texts columns) (words_at fragments spot.fragment).rows spot.place [] [] held.place

pub rows_decoded : (texts : List (List ℕ)) (columns : List Column) (fragments : List FragmentView) (spots : List Spot) → All (HoldsWords fragments) spots →
    map (λ (s : Spot). decoded_row texts columns (row_words_at fragments s)) spots ≡ rows_at (map (decoded_fragment texts columns) fragments) spots
rows_decoded texts columns fragments [] all = refl
rows_decoded texts columns fragments (s ∷ ss) all =
    ap₂ (λ (r : List Value) (rs : List (List Value)). r ∷ rs) (sym (row_decoded texts columns fragments s (All-head (HoldsWords fragments) s ss all)))
    (rows_decoded texts columns fragments ss (All-tail (HoldsWords fragments) s ss all))

abbrev table_with : ShapeView → List (List Value) → TableView
table_with s rs = record { shape = s; rows = rs }

-- a table of these rows
pub decoded_table : (texts : List (List ℕ)) (t : StoredTable) (shape : ShapeView) (rows : List (List Value)) → shape ≡ shape_of t.shape → HoldsRows t →
    rows ≡ map (λ (s : Spot). decoded_row texts t.shape.columns.items (row_words_at t.fragments.items s)) t.spots.items → record { shape = shape; rows = rows } ≡ table_stored texts t
decoded_table texts t shape rows same held are = ap₂ table_with same (are ∙ rows_decoded texts t.shape.columns.items t.fragments.items t.spots.items held)

module _ (texts : List (List ℕ)) where
  pub as_many : (schema : SchemaView) (ts : List StoredTable) → IsStored (view_of schema texts ts) → length ts ≡ length schema.shapes
  as_many schema ts is = omega (arith, ap length is.tables.same, length-map (map (table_stored texts) ts) (λ (t : TableView). t.shape), length-map ts (table_stored texts))

  table_at : (ts : List StoredTable) (i : ℕ) (t : StoredTable) (d : TableView) → i < length ts → t ≡ get_or ts i t → get_or (map (table_stored texts) ts) i d ≡ table_stored texts t
  table_at ts i t d within here = get_or-map (table_stored texts) ts i t d within ∙ ap (table_stored texts) (sym here)

  -- a stored table has few rows
  pub few_spots : (schema : SchemaView) (ts : List StoredTable) → IsStored (view_of schema texts ts) → (i : ℕ) (t : StoredTable) → i < length ts → t ≡ get_or ts i t →
      length t.spots.items ≤ most_rows
  few_spots schema ts is i t within here =
      omega (
        arith,
        few_at (view_of schema texts ts) is i (table_stored texts t) (omega (arith, within, length-map ts (table_stored texts))) (sym (table_at ts i t (table_stored texts t) within here)),
        length-map t.spots.items (row_at (decoded_fragments texts t)),
      )

-- a fragment that a table has, of coded rows
pub record IsFragmentAt (texts : List (List ℕ)) (s : StoredView) (i f : ℕ) (t : StoredTable) : Type 0 where
  pub within : f < length t.fragments.items
  pub words : words_at t.fragments.items f ≡ coded_fragment texts (width_at s i) (fragment_of s i f)

count_at : (cuts : List CutView) (i : ℕ) → i < length cuts → slice_get (map fragment_count cuts) i ≡ Some (fragment_count (get_or cuts i (rounds 1)))
count_at cuts i within = slice_get-map fragment_count cuts i ∙ ap (option_map fragment_count) (slice_get-get_or cuts i (rounds 1) within)

pub fragment_is : (schema : SchemaView) (texts : List (List ℕ)) (ts : List StoredTable) → AreStored schema texts ts → (i f : ℕ) (t : StoredTable) →
    i < length schema.shapes → t ≡ get_or ts i t →
    HasFragment (view_of schema texts ts) i f → IsFragmentAt texts (view_of schema texts ts) i f t
fragment_is schema texts ts are i f t within here has =
    let s : StoredView = view_of schema texts ts in
    let inside : i < length ts = omega (arith, within, as_many texts schema ts are.stored) in
    let inside_cuts : i < length schema.cuts = omega (arith, within, are.stored.schema.a_cut_each) in
    let cut : CutView = get_or schema.cuts i (rounds 1) in
    let is : IsCutBy texts cut t = subst (IsCutBy texts cut) (sym here) (cut_at texts schema.cuts ts are.cuts i (rounds 1) t inside) in
    let less : f < fragment_count cut = subst (λ (o : Option ℕ). IfSome o (λ n. f < n)) (count_at schema.cuts i inside_cuts) has in
    let decoded : f < length (decoded_fragments texts t) = omega (arith, is.layout.count, less) in
    let there : f < length t.fragments.items = omega (arith, decoded, length-map t.fragments.items (decoded_fragment texts t.shape.columns.items)) in
    let view : get_or s.tables i no_table ≡ table_stored texts t = table_at texts ts i t no_table inside here in
    let rows : fragment_at (decoded_fragments texts t) f ≡ fragment_of s i f = is.layout.rows f decoded ∙ ap (λ (u : TableView). fragment_rows cut f u.rows) (sym view) in
    record {
      within = there;
      words = ap (λ (fs : List FragmentView). words_at fs f) is.coded ∙ get_or-map (coded_fragment texts (width_of t)) (decoded_fragments texts t) f [] (no_rows 0) decoded
          ∙ ap₂ (coded_fragment texts) (ap (λ (u : TableView). length u.shape.columns) (sym view)) rows;
    }

-- the table at this number
pub record IsTableAt (items : List Table) (i : ℕ) (t : Table) : Type 0 where
  pub within : i < length (map table_of items)
  pub here : table_of t ≡ get_or (map table_of items) i (table_of t)

pub next_table : (items : List Table) (i n : ℕ) (t : Table) → i ≡ n → n < length items → t ≡ get_or items n t → IsTableAt items i t
next_table items i n t same inside is = record {
  within = omega (arith, same, inside, length-map items table_of);
  here = ap table_of is ∙ sym (get_or-map table_of items n t (table_of t) inside) ∙ ap (λ (k : ℕ). get_or (map table_of items) k (table_of t)) (sym same);
}

-- a table of some is of its columns' kinds
pub is_table_at : (s : StoredView) → IsStored s → (i : ℕ) (t : TableView) → i < length s.tables → t ≡ get_or s.tables i t → IsTable t
is_table_at s is i t within here = subst IsTable (sym here) (All-get_or IsTable s.tables i t within is.tables.database)

-- it is one of the schema
pub table_inside : (s : StoredView) → IsStored s → (i : ℕ) → i < length s.tables → i < length s.schema.shapes
table_inside s is i within = omega (arith, within, ap length is.tables.same, length-map s.tables (λ (u : TableView). u.shape))

-- its columns are few
pub columns_at : (s : StoredView) → IsStored s → (i : ℕ) (t : TableView) → i < length s.tables → t ≡ get_or s.tables i t → length t.shape.columns ≤ 16
columns_at s is i t within here =
    let same : get_or s.schema.shapes i t.shape ≡ t.shape = ap (λ (ss : List ShapeView). get_or ss i t.shape) (sym is.tables.same) ∙ shape_at s.tables i t within
    ∙ ap (λ (u : TableView). u.shape) (sym here) in
    let inside : i < length s.schema.shapes = omega (arith, within, ap length is.tables.same, length-map s.tables (λ (u : TableView). u.shape)) in
    let its : IsShape (get_or s.schema.shapes i t.shape) = All-get_or IsShape s.schema.shapes i t.shape inside is.schema.shapes in
    (subst IsShape same its).sixteen_columns
