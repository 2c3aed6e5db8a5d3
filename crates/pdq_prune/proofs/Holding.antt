-- Each row that meets the filters on its table stands in a fragment that is left.
use Rattle.std.proofs.Common.{◌≡◌, ℕ, zero, suc, ◌<◌, ◌==◌, List, [], ◌∷◌, Bool, true, false, not, ◌&&◌, ◌||◌, cond, length, filter, refl, sym, ap, ap₂, ◌∙◌, subst, arith, All, Contains, true≢false, eqb-true, Option, Some}
use Rattle.std.specs.Prelude.{option_and_then, option_map, slice_get, slice_index_or}
use Rattle.std.specs.List.{enumerate_from, list_all, list_any, range_with_len}
use Rattle.std.proofs.lemmas.Option.{same_Some, slice_get-get_or, slice_get-map}
use Rattle.std.proofs.lemmas.List.{length-map}
use Rattle.std.proofs.lemmas.List.Elements.{All-contains, All-head, All-tail, filter_passes}
use Rattle.std.proofs.lemmas.List.FromFn.{get_or-enumerate_from, length-enumerate_from}
use Rattle.pdq_value.specs.declared.cells.Cell.{Cell}
use Rattle.pdq_value.specs.declared.shapes.Column.{Column}
use Rattle.pdq_value.specs.declared.shapes.Kind.{Kind}
use Rattle.pdq_value.specs.declared.shapes.Value.{Value}
use Rattle.pdq_value.specs.Cells.{cell_at, cell_of}
use Rattle.pdq_value.specs.Tables.{IsRowOf, IsValueOf, ShapeView, TableView, cells_of, no_table}
use Rattle.pdq_schema.specs.Fragments.{fragment_count, fragment_number, range_number, stands_in, value_at}
use Rattle.pdq_schema.specs.Schemas.{AreCutsOf, CutView, IsCutOf, ranges, rounds}
use Rattle.pdq_schema.proofs.FragmentLaws.{number-within}
use Rattle.pdq_query.specs.declared.query.At.{At}
use Rattle.pdq_query.specs.declared.query.Compare.{Compare}
use Rattle.pdq_query.specs.declared.query.Filter.{Filter}
use Rattle.pdq_query.specs.declared.query.Filter.TheVariants.{Literal, Columns}
use Rattle.pdq_query.specs.Conditions.{Choice, compares, passes}
use Rattle.pdq_query.specs.Fits.{FilterFits, column_at}
use Rattle.pdq_query.specs.Plans.{Filtered, reads}
use Rattle.pdq_table.specs.Storing.{shapes_of}
use Rattle.pdq_prune.specs.Elimination.{cut_at, excludes, filter_excludes, fragments_left, left_of}
use Rattle.pdq_prune.specs.Laws.{LeftFragmentsHoldTheRows, table_at}
use Rattle.pdq_prune.proofs.Exclusion.{not_excluded}
use Rattle.pdq_prune.proofs.Leaving.{fragments_left-at, number_there, passes_kept}
use Rattle.pdq_prune.proofs.ValueOrder.{Compares, compares-values}

both_true : (a b : Bool) → (a && b) ≡ true → (a ≡ true) × (b ≡ true)
both_true true b e = (refl, e)
both_true false b e = absurd (true≢false (sym e))

-- a row's cell in a column
record HasCell (row : List Value) (cells : List Cell) (i : ℕ) (c : Column) : Type 0 where
  cell : cell_at i cells ≡ cell_of c.kind (value_at i row)
  value : IsValueOf c.kind (value_at i row)

cell_there : (cs : List Column) (row : List Value) → IsRowOf cs row → (i : ℕ) (c : Column) → slice_get cs i ≡ Some c → HasCell row (cells_of cs row) i c
cell_there [] row h i c e = cc
cell_there (d ∷ cs) [] h i c e = absurd h
cell_there (d ∷ cs) (v ∷ vs) h zero c e = subst (λ (x : Column). HasCell (v ∷ vs) (cells_of (d ∷ cs) (v ∷ vs)) zero x) (same_Some d c e) (record { cell = refl; value = h.0 })
cell_there (d ∷ cs) (v ∷ vs) h (suc i) c e = let more = cell_there cs vs h.1 i c e in record { cell = more.cell; value = more.value }

cut_there : (ss : List ShapeView) (cuts : List CutView) → AreCutsOf ss cuts → (t : ℕ) (s : ShapeView) → slice_get ss t ≡ Some s → IsCutOf s.columns (slice_index_or cuts t (rounds 1))
cut_there [] cuts are t s e = cc
cut_there (r ∷ ss) [] are t s e = absurd are
cut_there (r ∷ ss) (cut ∷ cuts) are zero s e = subst (λ (x : ShapeView). IsCutOf x.columns cut) (same_Some r s e) are.0
cut_there (r ∷ ss) (cut ∷ cuts) are (suc t) s e = cut_there ss cuts are.1 t s e

-- a row of a table, in the fragment where it stands
module _ (shapes : List ShapeView) (tables : List ℕ) (place : ℕ) (shape : ShapeView) (row : List Value) (is_row : IsRowOf shape.columns row) (cut : CutView) (n : ℕ) (c : Choice)
    (row_is : c place ≡ cells_of shape.columns row)
    (column_is : (a : At) → a.table ≡ place → column_at shapes tables a ≡ slice_get shape.columns a.column) where
  -- a literal that a choice with this row meets
  literal_met : (a : At) (test : Compare) (v : Value) → a.table ≡ place → FilterFits shapes tables (Literal a test v) → passes c (Literal a test v) ≡ true → Compares test (value_at a.column row) v
  literal_met a test v here fits met =
      let k : Kind = fits.0 in
      let col : Column = fits.1.0 in
      let there = cell_there shape.columns row is_row a.column col (sym (column_is a here) ∙ fits.1.1) in
      let kind_is : col.kind ≡ k = fits.1.2 in
      let cell_is : cell_at a.column (c a.table) ≡ cell_of k (value_at a.column row) =
      ap (λ (t : ℕ). cell_at a.column (c t)) here ∙ (ap (cell_at a.column) row_is ∙ (there.cell ∙ ap (λ (x : Kind). cell_of x (value_at a.column row)) kind_is)) in
      compares-values test k (value_at a.column row) v (subst (λ (x : Kind). IsValueOf x (value_at a.column row)) kind_is there.value) fits.2 (sym (ap (λ (x : Cell). compares test x v) cell_is) ∙ met)

  -- no filter that is met excludes the fragment
  not_by_filter : (cut : CutView) (f : Filter) → FilterFits shapes tables f → (reads place (Filtered f) ≡ true → passes c f ≡ true) → filter_excludes cut place (fragment_number cut n row) f ≡ false
  not_by_filter (rounds count) f fits met = refl
  not_by_filter (ranges column rs) (Columns a b) fits met = refl
  not_by_filter (ranges column rs) (Literal a test v) fits met = by (a.table == place) refl (a.column == column) refl
    where
      by : (b : Bool) → (a.table == place) ≡ b → (d : Bool) → (a.column == column) ≡ d → ((b && d) && excludes rs test v (range_number rs (value_at column row))) ≡ false
      by false e d g = refl
      by true e false g = refl
      by true e true g = not_excluded (value_at column row) v rs test (subst (λ (i : ℕ). Compares test (value_at i row) v) (eqb-true a.column column g) (literal_met a test v (eqb-true a.table place e) fits (met e)))

  none_excludes : (fs : List Filter) → All (FilterFits shapes tables) fs → list_all (passes c) (filter (λ f. reads place (Filtered f)) fs) ≡ true → list_any (filter_excludes cut place (fragment_number cut n row)) fs ≡ false
  none_excludes [] fits met = refl
  none_excludes (f ∷ fs) fits met = by (none_excludes fs (All-tail (FilterFits shapes tables) f fs fits)) (reads place (Filtered f)) refl met
    where
      Rest : Type 0
      Rest = list_all (passes c) (filter (λ f. reads place (Filtered f)) fs) ≡ true → list_any (filter_excludes cut place (fragment_number cut n row)) fs ≡ false

      first : (reads place (Filtered f) ≡ true → passes c f ≡ true) → filter_excludes cut place (fragment_number cut n row) f ≡ false
      first = not_by_filter cut f (All-head (FilterFits shapes tables) f fs fits)

      by : Rest → (b : Bool) → reads place (Filtered f) ≡ b → list_all (passes c) (cond b (f ∷ filter (λ f. reads place (Filtered f)) fs) (filter (λ f. reads place (Filtered f)) fs)) ≡ true → list_any (filter_excludes cut place (fragment_number cut n row)) (f ∷ fs) ≡ false
      by rest true e g = let both = both_true (passes c f) (list_all (passes c) (filter (λ f. reads place (Filtered f)) fs)) g in ap₂ (λ a b. a || b) (first (λ _. both.0)) (rest both.1)
      by rest false e g = ap₂ (λ a b. a || b) (first (λ r. absurd (true≢false (sym r ∙ e)))) (rest g)

pub left_fragments_hold_the_rows : LeftFragmentsHoldTheRows
left_fragments_hold_the_rows s stored q fits place within n row there c meets fragment stands =
    subst (λ (f : ℕ). Contains (slice_index_or (fragments_left s.schema q) place []) f) stands_there (subst (λ (fs : List ℕ). Contains fs (fragment_number cut n row)) (sym (fragments_left-at s.schema q place [] within)) left)
  where
    number : ℕ
    number = slice_index_or q.tables place 0

    table : TableView
    table = table_at s q place

    cut : CutView
    cut = cut_at s.schema q place

    below : number < length s.tables
    below =
        let known : number < length s.schema.shapes = fits.tables place 0 within in
        let same : length (shapes_of s.tables) ≡ length s.schema.shapes = ap (λ (ss : List ShapeView). length ss) stored.tables.same in
        omega (arith, length-map s.tables (λ (t : TableView). t.shape))

    shape_is : slice_get s.schema.shapes number ≡ Some table.shape
    shape_is =
        ap (λ (ss : List ShapeView). slice_get ss number) (sym stored.tables.same)
        ∙ (slice_get-map (λ (t : TableView). t.shape) s.tables number ∙ ap (option_map (λ (t : TableView). t.shape)) (slice_get-get_or s.tables number no_table below))

    column_is : (a : At) → a.table ≡ place → column_at s.schema.shapes q.tables a ≡ slice_get table.shape.columns a.column
    column_is a here =
        ap (λ (o : Option ℕ). option_and_then (λ (shape : ShapeView). slice_get shape.columns a.column) (option_and_then (slice_get s.schema.shapes) o)) (ap (slice_get q.tables) here ∙ slice_get-get_or q.tables place 0 within)
        ∙ ap (option_and_then (λ (shape : ShapeView). slice_get shape.columns a.column)) shape_is

    is_row : IsRowOf table.shape.columns row
    is_row =
        let long : length (enumerate_from 0 table.rows) ≡ length table.rows = length-enumerate_from 0 table.rows in
        let low : there.0 < length table.rows = omega (arith, there.1) in
        let is = sym (get_or-enumerate_from 0 table.rows there.0 (n, row) low) ∙ there.2 in
        All-contains (IsRowOf table.shape.columns) table.rows row (stored.tables.database number no_table below).rows (there.0, low, ap (λ (p : ℕ × List Value). p.1) is)

    is_cut : IsCutOf table.shape.columns cut
    is_cut = cut_there s.schema.shapes s.schema.cuts stored.schema.cuts number table.shape shape_is

    stands_there : fragment_number cut n row ≡ fragment
    stands_there = eqb-true (fragment_number cut n row) fragment (All-contains (λ (p : ℕ × List Value). stands_in cut fragment p ≡ true) _ (n, row) (filter_passes (stands_in cut fragment) (enumerate_from 0 table.rows)) stands)

    left : Contains (left_of cut place q.filters) (fragment_number cut n row)
    left =
        passes_kept (λ f. not (list_any (filter_excludes cut place f) q.filters)) (range_with_len 0 (fragment_count cut)) (fragment_number cut n row)
        (ap not (none_excludes s.schema.shapes q.tables place table.shape row is_row cut n c meets.chosen column_is q.filters fits.filters meets.met))
        (number_there (fragment_count cut) (fragment_number cut n row) (number-within table.shape.columns cut is_cut n row))
