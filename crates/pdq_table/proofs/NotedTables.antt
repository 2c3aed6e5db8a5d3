-- Tables while files are read, and once their texts have codes.
use Rattle.std.proofs.Common.{ℕ, zero, suc, ◌≡◌, ◌<◌, ◌≤◌, ◌∙◌, List, [], ◌∷◌, ◌++◌, All, map, length, replicate, set, refl, ap, ap₂, sym, subst, arith, fold, Some}
use Rattle.std.specs.Prelude.{slice_get}
use Rattle.std.specs.List.{AllZip}
use Rattle.std.proofs.lemmas.List.{get_or-map, length-map, map-set, map_push}
use Rattle.std.proofs.lemmas.List.Elements.{All-get_or, All-head, All-nil, All-push, All-replicate, All-set, All-tail, All-weaker}
use Rattle.std.proofs.lemmas.Option.{same_Some}
use Rattle.pdq_value.specs.declared.shapes.Column.{Column}
use Rattle.pdq_value.specs.declared.shapes.TableShape.{TableShape}
use Rattle.pdq_value.specs.declared.shapes.Value.{Value}
use Rattle.pdq_value.specs.Tables.{IsRowOf, ShapeView, TableView, shape_of}
use Rattle.pdq_dict.specs.Coding.{coded_row, decoded_row}
use Rattle.pdq_dict.specs.Dictionary.{AreCodesOf, texts_of_row}
use Rattle.pdq_dict.specs.Texts.{noted}
use Rattle.pdq_dict.proofs.Rising.{Rises}
use Rattle.pdq_schema.specs.Fragments.{fragment_count, fragment_number}
use Rattle.pdq_schema.specs.Schemas.{CutView}
use Rattle.pdq_table.specs.declared.stored_table.StoredTable.{StoredTable}
use Rattle.pdq_table.specs.Layout.{AreNotedTables, Fragments, IsCutBy, IsCutInto, IsNotedRow, IsNotedTable, IsNotedView, IsOpenTable, IsPushed, IsRecoded, coded_fragment, decoded_fragment, decoded_fragments, fragment_at, noted_fragment, rows_at, table_stored, width_of, words_at}
use Rattle.pdq_table.specs.NotedWords.{IsNoted, noted_row, recoded}
use Rattle.pdq_table.specs.Words.{FragmentView, no_rows, with_row, with_words}
use Rattle.pdq_table.proofs.Layouts.{cut_empty, cut_more, few_rows, rows_more, spot_next, with_more}
use Rattle.pdq_table.proofs.NotedLaws.{IsNoted-kept, Keeps, decoded-coded_row, keeps-noted, noted_rows-kept, recoded-noted_row}

map_replicate : {X Y : Type 0} (f : X → Y) (n : ℕ) (x : X) → map f (replicate n x) ≡ replicate n (f x)
map_replicate f zero x = refl
map_replicate f (suc n) x = ap (λ (ys : List _). f x ∷ ys) (map_replicate f n x)

-- a table with no rows
pub noted_table-empty : (notes : List (List ℕ)) (cut : CutView) (t : StoredTable) (n : ℕ) → t.fragments.items ≡ replicate n (no_rows (width_of t)) → n ≡ fragment_count cut → t.spots.items ≡ [] →
    IsNotedTable notes cut t []
noted_table-empty notes cut t n empty count none = record {
  fragments = replicate n [];
  words = empty ∙ sym (map_replicate (noted_fragment notes (width_of t)) n []);
  noted = All-replicate (All (IsNotedRow notes t.shape.columns.items)) n [] (All-nil (IsNotedRow notes t.shape.columns.items));
  layout = subst (IsCutInto cut (replicate n [])) (sym none) (cut_empty cut n count);
  order = ap (rows_at (replicate n [])) none;
}

module _ (notes more : List (List ℕ)) (keeps : Keeps notes more) where
  row-kept : (columns : List Column) (row : List Value) → IsNotedRow notes columns row → IsNotedRow more columns row
  row-kept columns row is = record { kinds = is.kinds; noted = All-weaker (IsNoted notes) (IsNoted more) (IsNoted-kept notes more keeps) row is.noted }

  rows-kept : (columns : List Column) (fs : Fragments) → All (All (IsNotedRow notes columns)) fs → All (All (IsNotedRow more columns)) fs
  rows-kept columns fs all =
      All-weaker (All (IsNotedRow notes columns)) (All (IsNotedRow more columns)) (λ rows are. All-weaker (IsNotedRow notes columns) (IsNotedRow more columns) (row-kept columns) rows are) fs all

  words_of_rows : (columns : List Column) (rows : List (List Value)) → All (IsNotedRow notes columns) rows → All (All (IsNoted notes)) rows
  words_of_rows columns rows all = All-weaker (IsNotedRow notes columns) (All (IsNoted notes)) (λ row is. is.noted) rows all

  fragments-kept : (columns : List Column) (width : ℕ) (fs : Fragments) → All (All (IsNotedRow notes columns)) fs → map (noted_fragment more width) fs ≡ map (noted_fragment notes width) fs
  fragments-kept columns width [] all = refl
  fragments-kept columns width (rows ∷ fs) all =
      ap₂ (λ (words : List (List _)) (gs : List FragmentView). record { width = width; rows = words } ∷ gs)
      (noted_rows-kept notes more keeps rows (words_of_rows columns rows (All-head (All (IsNotedRow notes columns)) rows fs all)))
      (fragments-kept columns width fs (All-tail (All (IsNotedRow notes columns)) rows fs all))

  -- a table stays while more texts are noted
  pub noted_table-kept : (cut : CutView) (t : StoredTable) (rows : List (List Value)) → IsNotedTable notes cut t rows → IsNotedTable more cut t rows
  noted_table-kept cut t rows is = record {
    fragments = is.fragments;
    words = is.words ∙ sym (fragments-kept t.shape.columns.items (width_of t) is.fragments is.noted);
    noted = rows-kept t.shape.columns.items is.fragments is.noted;
    layout = is.layout;
    order = is.order;
  }

  pub noted_tables-kept : (cuts : List CutView) (ts : List StoredTable) (us : List TableView) → AreNotedTables notes cuts ts us → AreNotedTables more cuts ts us
  noted_tables-kept cuts [] [] are = tt
  noted_tables-kept cuts [] (u ∷ us) are = absurd are
  noted_tables-kept [] (t ∷ ts) us are = absurd are
  noted_tables-kept (c ∷ cs) (t ∷ ts) [] are = absurd are
  noted_tables-kept (c ∷ cs) (t ∷ ts) (u ∷ us) are = (record { shape = are.0.shape; table = noted_table-kept c t u.rows are.0.table }, noted_tables-kept cs ts us are.1)

  -- one row more in a fragment
  pushed_words : (width number : ℕ) (fs : Fragments) (row : List Value) → number < length fs →
      set (map (noted_fragment more width) fs) number (with_row (words_at (map (noted_fragment more width) fs) number) (noted_row more row)) ≡ map (noted_fragment more width) (with_more fs number row)
  pushed_words width number fs row within =
      let F : List (List Value) → FragmentView = noted_fragment more width in
      ap (λ (f : FragmentView). set (map F fs) number (with_row f (noted_row more row))) (get_or-map F fs number [] (no_rows 0) within)
      ∙ ap (λ (words : List (List _)). set (map F fs) number (record { width = width; rows = words })) (sym (map_push (noted_row more) (fragment_at fs number) row))
      ∙ sym (map-set F fs number (fragment_at fs number ++ row ∷ []))

  pub noted_table-more : (cut : CutView) (t new : StoredTable) (rows : List (List Value)) (row : List Value) (number : ℕ) → IsNotedTable notes cut t rows → number < length t.fragments.items →
      number ≡ fragment_number cut (length t.spots.items) row → IsNotedRow more t.shape.columns.items row → IsPushed t number (noted_row more row) new → IsNotedTable more cut new (rows ++ row ∷ [])
  noted_table-more cut t new rows row number is within at noted pushed =
      let columns : List Column = t.shape.columns.items in
      let width : ℕ = width_of t in
      let fs : Fragments = is.fragments in
      let inside : number < length fs = omega (arith, within, ap length is.words, length-map fs (noted_fragment notes width)) in
      let words : t.fragments.items ≡ map (noted_fragment more width) fs = is.words ∙ sym (fragments-kept columns width fs is.noted) in
      let same_width : width_of new ≡ width = ap (λ (s : TableShape). length s.columns.items) pushed.shape in
      let after : new.fragments.items ≡ map (noted_fragment more width) (with_more fs number row) =
      pushed.fragments ∙ ap (λ (gs : List FragmentView). set gs number (with_row (words_at gs number) (noted_row more row))) words ∙ pushed_words width number fs row inside in
      let place : length (words_at t.fragments.items number).rows ≡ length (fragment_at fs number) =
      ap (λ (gs : List FragmentView). length (words_at gs number).rows) words ∙ ap (λ (f : FragmentView). length f.rows) (get_or-map (noted_fragment more width) fs number [] (no_rows 0) inside)
      ∙ length-map (fragment_at fs number) (noted_row more) in
      let spots : new.spots.items ≡ t.spots.items ++ spot_next fs number ∷ [] =
      pushed.spots ∙ ap (λ (p : ℕ). t.spots.items ++ record { fragment = number; place = p } ∷ []) place in
      let before : All (All (IsNotedRow more columns)) fs = rows-kept columns fs is.noted in
      let all : All (All (IsNotedRow more columns)) (with_more fs number row) = All-set (All (IsNotedRow more columns)) fs number (fragment_at fs number ++ row ∷ [])
      (All-push (IsNotedRow more columns) (fragment_at fs number) row (All-get_or (All (IsNotedRow more columns)) fs number [] inside before) noted) before in
      record {
        fragments = with_more fs number row;
        words = after ∙ ap (λ (w : ℕ). map (noted_fragment more w) (with_more fs number row)) (sym same_width);
        noted = subst (λ (s : TableShape). All (All (IsNotedRow more s.columns.items)) (with_more fs number row)) (sym pushed.shape) all;
        layout = subst (IsCutInto cut (with_more fs number row)) (sym spots) (cut_more cut fs t.spots.items number row is.layout inside at);
        order = ap (rows_at (with_more fs number row)) spots ∙ rows_more fs t.spots.items number row inside is.layout.held ∙ ap (λ (rs : List (List Value)). rs ++ row ∷ []) is.order;
      }

-- what is known of a table that takes rows
module _ (notes : List (List ℕ)) (cut : CutView) (t : StoredTable) (is : IsOpenTable notes cut t) where
  counted : length t.fragments.items ≡ length is.table.fragments
  counted = ap length is.table.words ∙ length-map is.table.fragments (noted_fragment notes (width_of t))

  pub open_count : length t.fragments.items ≡ fragment_count cut
  open_count = counted ∙ is.table.layout.count

  at_number : (number : ℕ) → number < length t.fragments.items → words_at t.fragments.items number ≡ noted_fragment notes (width_of t) (fragment_at is.table.fragments number)
  at_number number within = ap (λ (gs : List FragmentView). words_at gs number) is.table.words ∙ get_or-map (noted_fragment notes (width_of t)) is.table.fragments number [] (no_rows 0) (omega (arith, within, counted))

  pub open_width : (number : ℕ) → number < length t.fragments.items → (words_at t.fragments.items number).width ≡ width_of t
  open_width number within = ap (λ (f : FragmentView). f.width) (at_number number within)

  pub open_few : (number : ℕ) → number < length t.fragments.items → length (words_at t.fragments.items number).rows ≤ length t.spots.items
  open_few number within =
      omega (
        arith,
        ap (λ (f : FragmentView). length f.rows) (at_number number within),
        length-map (fragment_at is.table.fragments number) (noted_row notes),
        few_rows cut is.table.fragments t.spots.items number is.table.layout (omega (arith, within, counted)),
      )

-- a row that is taken in is behind the others
pub row_taken : (notes more : List (List ℕ)) (cut : CutView) (t new : StoredTable) (row : List Value) (number : ℕ) → more ≡ fold noted notes (texts_of_row row) → All (IsNoted more) row →
    IsRowOf t.shape.columns.items row → number ≡ fragment_number cut (length t.spots.items) row → number < length t.fragments.items → IsPushed t number (noted_row more row) new →
    (rows : List (List Value)) → IsNotedTable notes cut t rows → IsNotedTable more cut new (rows ++ row ∷ [])
row_taken notes more cut t new row number texts each kinds at within pushed rows is =
    noted_table-more notes more (keeps-noted notes more (texts_of_row row) texts) cut t new rows row number is within at (record { kinds = kinds; noted = each }) pushed

-- one table more
pub noted_tables-more : (notes : List (List ℕ)) (cuts : List CutView) (ts : List StoredTable) (us : List TableView) (cut : CutView) (t : StoredTable) (u : TableView) →
    AreNotedTables notes cuts ts us → slice_get cuts (length ts) ≡ Some cut → IsNotedView notes cut t u → AreNotedTables notes cuts (ts ++ t ∷ []) (us ++ u ∷ [])
noted_tables-more notes [] [] us cut t u are at is = absurd (cc)
noted_tables-more notes (c ∷ cs) [] [] cut t u are at is = (subst (λ (x : CutView). IsNotedView notes x t u) (sym (same_Some c cut at)) is, tt)
noted_tables-more notes (c ∷ cs) [] (v ∷ us) cut t u are at is = absurd are
noted_tables-more notes [] (s ∷ ts) us cut t u are at is = absurd are
noted_tables-more notes (c ∷ cs) (s ∷ ts) [] cut t u are at is = absurd are
noted_tables-more notes (c ∷ cs) (s ∷ ts) (v ∷ us) cut t u are at is = (are.0, noted_tables-more notes cs ts us cut t u are.1 at is)

-- as many tables stand there as there are
pub length-noted_tables : (notes : List (List ℕ)) (cuts : List CutView) (ts : List StoredTable) (us : List TableView) → AreNotedTables notes cuts ts us → length ts ≡ length us
length-noted_tables notes cuts [] [] are = refl
length-noted_tables notes cuts [] (u ∷ us) are = absurd are
length-noted_tables notes [] (t ∷ ts) us are = absurd are
length-noted_tables notes (c ∷ cs) (t ∷ ts) [] are = absurd are
length-noted_tables notes (c ∷ cs) (t ∷ ts) (u ∷ us) are = omega (arith, length-noted_tables notes cs ts us are.1)

-- tables of coded rows in the fragments of their cuts, which are these
pub record AreCodedTables (texts : List (List ℕ)) (cuts : List CutView) (ts : List StoredTable) (us : List TableView) : Type 0 where
  pub cut_tables : AllZip (IsCutBy texts) cuts ts
  pub same : map (table_stored texts) ts ≡ us

module _ (notes texts : List (List ℕ)) (codes : List ℕ) (rises : Rises texts) (are : AreCodesOf notes texts codes) where
  recoded_rows : (columns : List Column) (rows : List (List Value)) → All (IsNotedRow notes columns) rows → map (map (recoded codes)) (map (noted_row notes) rows) ≡ map (coded_row texts) rows
  recoded_rows columns [] all = refl
  recoded_rows columns (row ∷ rows) all =
      ap₂ (λ (a : List _) (l : List (List _)). a ∷ l) (recoded-noted_row notes texts codes rises are row (All-head (IsNotedRow notes columns) row rows all).noted)
      (recoded_rows columns rows (All-tail (IsNotedRow notes columns) row rows all))

  recoded_fragments : (columns : List Column) (width : ℕ) (fs : Fragments) → All (All (IsNotedRow notes columns)) fs →
      map (with_words (recoded codes)) (map (noted_fragment notes width) fs) ≡ map (coded_fragment texts width) fs
  recoded_fragments columns width [] all = refl
  recoded_fragments columns width (rows ∷ fs) all =
      ap₂ (λ (words : List (List _)) (gs : List FragmentView). record { width = width; rows = words } ∷ gs) (recoded_rows columns rows (All-head (All (IsNotedRow notes columns)) rows fs all))
      (recoded_fragments columns width fs (All-tail (All (IsNotedRow notes columns)) rows fs all))

  decoded_rows : (columns : List Column) (rows : List (List Value)) → All (IsNotedRow notes columns) rows → map (decoded_row texts columns) (map (coded_row texts) rows) ≡ rows
  decoded_rows columns [] all = refl
  decoded_rows columns (row ∷ rows) all =
      let h : IsNotedRow notes columns row = All-head (IsNotedRow notes columns) row rows all in
      ap₂ (λ (a : List Value) (l : List (List Value)). a ∷ l) (decoded-coded_row notes texts codes rises are columns row h.kinds h.noted)
      (decoded_rows columns rows (All-tail (IsNotedRow notes columns) row rows all))

  decoded_coded : (columns : List Column) (width : ℕ) (fs : Fragments) → All (All (IsNotedRow notes columns)) fs → map (decoded_fragment texts columns) (map (coded_fragment texts width) fs) ≡ fs
  decoded_coded columns width [] all = refl
  decoded_coded columns width (rows ∷ fs) all =
      ap₂ (λ (a : List (List Value)) (l : Fragments). a ∷ l) (decoded_rows columns rows (All-head (All (IsNotedRow notes columns)) rows fs all))
      (decoded_coded columns width fs (All-tail (All (IsNotedRow notes columns)) rows fs all))

  -- a table, once its texts have codes
  record IsCodedAs (cut : CutView) (t : StoredTable) (u : TableView) : Type 0 where
    is : IsCutBy texts cut t
    same : table_stored texts t ≡ u

  coded_table : (cut : CutView) (t new : StoredTable) (u : TableView) → IsNotedView notes cut t u → IsRecoded codes t new → IsCodedAs cut new u
  coded_table cut t new u view recode =
      let is = view.table in
      let columns : List Column = t.shape.columns.items in
      let coded : new.fragments.items ≡ map (coded_fragment texts (width_of t)) is.fragments =
      recode.fragments ∙ ap (map (with_words (recoded codes))) is.words ∙ recoded_fragments columns (width_of t) is.fragments is.noted in
      let decoded : decoded_fragments texts new ≡ is.fragments =
      ap (λ (s : TableShape). map (decoded_fragment texts s.columns.items) new.fragments.items) recode.shape ∙ ap (map (decoded_fragment texts columns)) coded
      ∙ decoded_coded columns (width_of t) is.fragments is.noted in
      let same_width : width_of t ≡ width_of new = sym (ap (λ (s : TableShape). length s.columns.items) recode.shape) in
      let cut_into : IsCutInto cut (decoded_fragments texts new) new.spots.items =
      subst (λ (fs : Fragments). IsCutInto cut fs new.spots.items) (sym decoded) (subst (IsCutInto cut is.fragments) (sym recode.spots) is.layout) in
      let rows : rows_at (decoded_fragments texts new) new.spots.items ≡ u.rows = ap₂ rows_at decoded recode.spots ∙ is.order in
      let shape : shape_of new.shape ≡ u.shape = ap shape_of recode.shape ∙ view.shape in
      record {
        is = record { coded = coded ∙ ap₂ (λ (w : ℕ) (fs : Fragments). map (coded_fragment texts w) fs) same_width (sym decoded); layout = cut_into };
        same = ap₂ (λ (s : ShapeView) (rs : List (List Value)). record { shape = s; rows = rs }) shape rows;
      }

  pub coded_tables : (cuts : List CutView) (ts news : List StoredTable) (us : List TableView) → length cuts ≡ length us → AreNotedTables notes cuts ts us → AllZip (IsRecoded codes) ts news →
      AreCodedTables texts cuts news us
  coded_tables [] [] [] [] many views recodes = record { cut_tables = tt; same = refl }
  coded_tables (c ∷ cs) [] news [] many views recodes = absurd (omega (arith, many))
  coded_tables cuts [] news (u ∷ us) many views recodes = absurd views
  coded_tables cuts [] (n ∷ news) [] many views recodes = absurd recodes
  coded_tables [] (t ∷ ts) news us many views recodes = absurd views
  coded_tables (c ∷ cs) (t ∷ ts) news [] many views recodes = absurd views
  coded_tables (c ∷ cs) (t ∷ ts) [] (u ∷ us) many views recodes = absurd recodes
  coded_tables (c ∷ cs) (t ∷ ts) (n ∷ news) (u ∷ us) many views recodes =
      let first : IsCodedAs c n u = coded_table c t n u views.0 recodes.0 in
      let rest : AreCodedTables texts cs news us = coded_tables cs ts news us (omega (arith, many)) views.1 recodes.1 in
      record { cut_tables = (first.is, rest.cut_tables); same = ap₂ (λ (a : TableView) (l : List TableView). a ∷ l) first.same rest.same }
