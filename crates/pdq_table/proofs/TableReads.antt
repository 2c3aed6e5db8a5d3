-- Rows and tables, read one after another.
use Rattle.std.proofs.Common.{ℕ, ◌≡◌, ◌<◌, ◌≤◌, ◌∙◌, ◌+◌, ◌*◌, Bool, true, false, cond, List, [], ◌∷◌, ◌++◌, All, length, length-append, drop, take, get_or, add-one, suc-mul, zero-mul, ap, ap₂, sym, refl, append_assoc, arith, Option, Some, None, Result, Ok, Err, fold, flat_map, subst, inl, inr}
use Rattle.std.specs.Prelude.{nat_lt, slice_get, sum_by}
use Rattle.std.specs.Global.{Vec}
use Rattle.std.proofs.lemmas.Bool.Decides.{nat_tests}
use Rattle.std.proofs.lemmas.List.{append-nil, length-map, map-append, take_more}
use Rattle.std.proofs.lemmas.List.Elements.{All-append, All-cons, All-head, All-nil, All-tail}
use Rattle.std.proofs.lemmas.List.Sums.{sum_by-cons, sum_by_push}
use Rattle.std.proofs.Math.Seq.{drop-cons}
use Rattle.pdq_value.specs.declared.loading.LoadFault.{LoadFault}
use Rattle.pdq_value.specs.declared.shapes.Column.{Column}
use Rattle.pdq_value.specs.declared.shapes.Value.{Value}
use Rattle.pdq_dict.specs.Dictionary.{cell_limit, cells_in}
use Rattle.pdq_value.specs.PlainTable.{most_rows, with_row, with_rows, Refuses}
use Rattle.pdq_value.specs.Tables.{IsKind, IsRowOf, IsTable, ShapeView, TableView, shape_of}
use Rattle.pdq_table.specs.Loading.{contents_of, header_fault, most_bytes, onto, records_of, row_of, rows_below, rows_from, rows_in, table_from, tables_from, too_long_at}
use Rattle.pdq_dict.specs.Dictionary.{texts_of, texts_of_row, texts_of_table}
use Rattle.pdq_dict.specs.Texts.{noted}
use Rattle.pdq_dict.proofs.Noting.{fold_noted_push}
use Rattle.pdq_schema.specs.Schemas.{CutView, IsSchema, SchemaView}
use Rattle.pdq_table.specs.declared.stored_table.StoredTable.{StoredTable}
use Rattle.pdq_table.specs.Layout.{AreNotedTables, AreReadRows, AreReadTables, IsNotedTable, IsReadTable, TakesRow, row_at}
use Rattle.pdq_table.specs.Storing.{AreTablesOf}
use Rattle.pdq_table.proofs.NotedLaws.{keeps-noted}
use Rattle.pdq_table.proofs.NotedTables.{noted_tables-kept, noted_tables-more}
use Rattle.pdq_table.proofs.RowKinds.{rows_read}

-- these values and then those, or the fault
abbrev pub after_values : List Value → Result (List Value) LoadFault → Result (List Value) LoadFault
after_values vs (Ok us) = Ok (vs ++ us)
after_values vs (Err e) = Err e

-- these rows and then those, or the fault
abbrev pub after_rows : List (List Value) → Result (List (List Value)) LoadFault → Result (List (List Value)) LoadFault
after_rows rows (Ok more) = Ok (rows ++ more)
after_rows rows (Err e) = Err e

more_rows : (rows : List (List Value)) (row : List Value) (r : Result (List (List Value)) LoadFault) → after_rows rows (with_row (Ok row) r) ≡ after_rows (rows ++ (row ∷ [])) r
more_rows rows row (Ok more) = ap Ok (sym (append_assoc rows (row ∷ []) more))
more_rows rows row (Err e) = refl

-- one more row that was read
module _ (all : Result (List (List Value)) LoadFault) (columns : List Column) (table row_no cells : ℕ) (rows : List (List Value)) (left : List (List (List ℕ)))
    (so_far : all ≡ after_rows rows (rows_from columns table row_no cells left)) where
  pub one_row : (row : List Value) (fields : List (List ℕ)) (more : List (List (List ℕ)))
      → left ≡ fields ∷ more → row_of columns (record { table = table; row = row_no }) cells fields ≡ Ok row
      → all ≡ after_rows (rows ++ (row ∷ [])) (rows_from columns table (row_no + 1) (cells + length columns) more)
  one_row row fields more taken reads =
      so_far ∙ ap (λ ls. after_rows rows (rows_from columns table row_no cells ls)) taken
      ∙ rw reads (more_rows rows row (rows_from columns table (row_no + 1) (cells + length columns) more))

-- the cells of one row more
pub one_row_cells : (n m : ℕ) → n * m + m ≡ (n + 1) * m
one_row_cells n m = grind arith

-- these tables and then those, or the fault
abbrev pub after_tables : List TableView → Result (List TableView) LoadFault → Result (List TableView) LoadFault
after_tables ts (Ok more) = Ok (ts ++ more)
after_tables ts (Err e) = Err e

more_tables : (ts : List TableView) (t : TableView) (r : Result (List TableView) LoadFault) → after_tables ts (onto t r) ≡ after_tables (ts ++ (t ∷ [])) r
more_tables ts t (Ok more) = ap Ok (sym (append_assoc ts (t ∷ []) more))
more_tables ts t (Err e) = refl

-- one more table that was read
module _ (all : Result (List TableView) LoadFault) (table cells : ℕ) (tables : List TableView) (shapes : List ShapeView) (files : List (List ℕ))
    (so_far : all ≡ after_tables tables (tables_from table cells shapes files)) where
  pub one_table : (t : TableView) (shape : ShapeView) (bytes : List ℕ) (more_shapes : List ShapeView) (more_files : List (List ℕ))
      → shapes ≡ shape ∷ more_shapes → files ≡ bytes ∷ more_files → table_from table cells shape bytes ≡ Ok t
      → all ≡ after_tables (tables ++ (t ∷ [])) (tables_from (table + 1) (cells + length t.rows * length shape.columns) more_shapes more_files)
  one_table t shape bytes more_shapes more_files e f reads =
      so_far ∙ ap (after_tables tables) (rw (e, f) (rw reads refl))
      ∙ more_tables tables t (tables_from (table + 1) (cells + length t.rows * length shape.columns) more_shapes more_files)

-- a table that is refused
pub table_refused : (all : Result (List TableView) LoadFault) (table cells : ℕ) (tables : List TableView) (shapes : List ShapeView) (files : List (List ℕ)) →
    all ≡ after_tables tables (tables_from table cells shapes files) → (shape : ShapeView) (bytes : List ℕ) (more_shapes : List ShapeView) (more_files : List (List ℕ)) →
    shapes ≡ shape ∷ more_shapes → files ≡ bytes ∷ more_files → (e : LoadFault) → Refuses (table_from table cells shape bytes) e → Refuses all e
table_refused all table cells tables shapes files so_far shape bytes more_shapes more_files here there e (inl memory) = inl memory
table_refused all table cells tables shapes files so_far shape bytes more_shapes more_files here there e (inr said) =
    let refused : tables_from table cells shapes files ≡ Err e = rw (here, there) (rw said refl) in
    inr (so_far ∙ ap (after_tables tables) refused)

-- a row has as many values as there are columns
row_length : (columns : List Column) (row : List Value) → IsRowOf columns row → length row ≡ length columns
row_length [] [] h = refl
row_length [] (v ∷ vs) h = absurd h
row_length (c ∷ cs) [] h = absurd h
row_length (c ∷ cs) (v ∷ vs) h = let t = row_length cs vs h.1 in omega (arith, t)

rows_cells : (columns : List Column) (rows : List (List Value)) → All (IsRowOf columns) rows → sum_by (λ (row : List Value). length row) rows ≡ length rows * length columns
rows_cells columns [] h = omega (arith, zero-mul (length columns))
rows_cells columns (row ∷ rows) h =
    let r = row_length columns row (All-head (IsRowOf columns) row rows h) in
    let more = rows_cells columns rows (All-tail (IsRowOf columns) row rows h) in
    sum_by-cons (λ (r : List Value). length r) row rows ∙ omega (arith, r, more, suc-mul (length rows) (length columns))

-- the cells of one table more
pub cells_more : (ts : List TableView) (t : TableView) → IsTable t → cells_in (ts ++ (t ∷ [])) ≡ cells_in ts + length t.rows * length t.shape.columns
cells_more ts t h =
    sum_by_push (λ (u : TableView). sum_by (λ (row : List Value). length row) u.rows) ts t ∙ ap (λ (n : ℕ). cells_in ts + n) (rows_cells t.shape.columns t.rows h.rows)

abbrev HasRows : TableView → Type 0
HasRows t = length t.rows ≤ most_rows

-- tables of the schema's first shapes, and one table more
pub tables_more : (shapes : List ShapeView) (ts : List TableView) (t : TableView) (shape : ShapeView)
    → AreTablesOf shapes ts → IsTable t → t.shape ≡ shape → length t.rows ≤ most_rows
    → cells_in (ts ++ (t ∷ [])) ≤ cell_limit → AreTablesOf (shapes ++ (shape ∷ [])) (ts ++ (t ∷ []))
tables_more shapes ts t shape h is_table same few room = record {
  same = map-append (λ (u : TableView). u.shape) ts (t ∷ []) ∙ ap₂ (λ (xs ys : List ShapeView). xs ++ ys) h.same (ap (λ (s : ShapeView). s ∷ []) same);
  database = All-append IsTable ts (t ∷ []) h.database (All-cons IsTable t [] is_table (All-nil IsTable));
  rows = All-append HasRows ts (t ∷ []) h.rows (All-cons HasRows t [] few (All-nil HasRows));
  cells = room;
}

-- an element of a list, with those before it and those after it
module _ {X : Type 0} (xs : List X) (i : ℕ) (x : X) (less : i < length xs) (is : x ≡ get_or xs i x) where
  pub with_before : take (i + 1) xs ≡ take i xs ++ (x ∷ [])
  with_before = take_more xs i x less ∙ ap (λ (y : X). take i xs ++ (y ∷ [])) (sym is)

  pub with_after : drop i xs ≡ x ∷ drop (i + 1) xs
  with_after = drop-cons xs i x less ∙ ap₂ (λ (y : X) (n : ℕ). y ∷ drop n xs) (sym is) (sym (add-one i))

if_short : (b : Bool) (n : ℕ) (o : Option ℕ) → cond b (Some n) o ≡ None → (b ≡ false) × (o ≡ None)
if_short true n o e = absurd (grind (arith, e))
if_short false n o e = (refl, e)

abbrev IsShort : Vec ℕ → Type 0
IsShort file = length file.items ≤ most_bytes

-- where no file is too long, each is short
pub none_too_long : (table : ℕ) (files : List (Vec ℕ)) → too_long_at table (contents_of files) ≡ None → All (λ (file : Vec ℕ). length file.items ≤ most_bytes) files
none_too_long table [] none = All-nil IsShort
none_too_long table (file ∷ files) none =
    let t = if_short (nat_lt most_bytes (length file.items)) table (too_long_at (table + 1) (contents_of files)) none in
    All-cons IsShort file files (grind (arith, nat_tests, t.0)) (none_too_long (table + 1) files t.1)

-- the rows that were read so far, and those that are left
pub record RowsSoFar (all : Result (List (List Value)) LoadFault) (columns : List Column) (cut : CutView) (table row_no cells : ℕ) (left : List (List (List ℕ))) (before notes : List (List ℕ)) (t : StoredTable) : Type 0 where
  pub rows : List (List Value)
  pub stored : IsNotedTable notes cut t rows
  pub texts : notes ≡ fold noted before (flat_map texts_of_row rows)
  pub said : all ≡ after_rows rows (rows_from columns table row_no cells left)

pub rows_so_far-none : (columns : List Column) (cut : CutView) (table cells : ℕ) (left : List (List (List ℕ))) (notes : List (List ℕ)) (t : StoredTable) → IsNotedTable notes cut t [] →
    RowsSoFar (rows_from columns table 1 cells left) columns cut table 1 cells left notes notes t
rows_so_far-none columns cut table cells left notes t empty = record { rows = []; stored = empty; texts = refl; said = sym (none_before (rows_from columns table 1 cells left)) }
  where
    none_before : (r : Result (List (List Value)) LoadFault) → after_rows [] r ≡ r
    none_before (Ok rows) = refl
    none_before (Err e) = refl

pub rows_so_far-more : (all : Result (List (List Value)) LoadFault) (columns : List Column) (cut : CutView) (table row_no cells : ℕ) (left more : List (List (List ℕ))) (before notes after : List (List ℕ)) (t new : StoredTable)
    (fields : List (List ℕ)) → RowsSoFar all columns cut table row_no cells left before notes t → left ≡ fields ∷ more →
    TakesRow (row_of columns (record { table = table; row = row_no }) cells fields) cut notes after t new → RowsSoFar all columns cut table (row_no + 1) (cells + length columns) more before after new
rows_so_far-more all columns cut table row_no cells left more before notes after t new fields far taken takes = record {
  rows = far.rows ++ takes.row ∷ [];
  stored = takes.table far.rows far.stored;
  texts = takes.texts ∙ ap (λ (l : List (List ℕ)). fold noted l (texts_of_row takes.row)) far.texts ∙ sym (fold_noted_push texts_of_row before far.rows takes.row);
  said = one_row all columns table row_no cells far.rows left far.said takes.row fields more taken takes.said;
}

-- a record that is refused
pub rows_refused : (all : Result (List (List Value)) LoadFault) (columns : List Column) (cut : CutView) (table row_no cells : ℕ) (left more : List (List (List ℕ))) (before notes : List (List ℕ)) (t : StoredTable)
    (fields : List (List ℕ)) (e : LoadFault) → RowsSoFar all columns cut table row_no cells left before notes t → left ≡ fields ∷ more →
    Refuses (row_of columns (record { table = table; row = row_no }) cells fields) e → Refuses all e
rows_refused all columns cut table row_no cells left more before notes t fields e far taken (inl memory) = inl memory
rows_refused all columns cut table row_no cells left more before notes t fields e far taken (inr said) =
    inr (far.said ∙ ap (λ ls. after_rows far.rows (rows_from columns table row_no cells ls)) taken
    ∙ ap (λ (r : Result (List Value) LoadFault). after_rows far.rows (with_row r (rows_from columns table (row_no + 1) (cells + length columns) more))) said)

pub rows_so_far-end : (all : Result (List (List Value)) LoadFault) (columns : List Column) (cut : CutView) (table row_no cells : ℕ) (left : List (List (List ℕ))) (before notes : List (List ℕ)) (t : StoredTable) →
    RowsSoFar all columns cut table row_no cells left before notes t → left ≡ [] → AreReadRows all cut before notes t
rows_so_far-end all columns cut table row_no cells left before notes t far none = record {
  rows = far.rows;
  said = far.said ∙ ap (λ (l : List (List (List ℕ))). after_rows far.rows (rows_from columns table row_no cells l)) none ∙ ap Ok (append-nil far.rows);
  table = far.stored;
  texts = far.texts;
}

-- the rows of a file below its header
pub rows_below_header : (columns : List Column) (table cells : ℕ) (records : List (List (List ℕ))) (header : List (List ℕ)) (more : List (List (List ℕ))) → records ≡ header ∷ more →
    header_fault columns table header ≡ None → rows_in columns table cells records ≡ rows_from columns table 1 cells more
rows_below_header columns table cells records header more is good =
    ap (rows_in columns table cells) is ∙ ap (λ (o : Option LoadFault). rows_below columns table cells o more) good

-- as many rows as spots
pub length-noted_rows : (notes : List (List ℕ)) (cut : CutView) (t : StoredTable) (rows : List (List Value)) → IsNotedTable notes cut t rows → length t.spots.items ≡ length rows
length-noted_rows notes cut t rows is = sym (length-map t.spots.items (row_at is.fragments)) ∙ ap length is.order

-- a row more is a spot more
pub one_row_more : {meant : Result (List Value) LoadFault} (cut : CutView) (before after : List (List ℕ)) (old new : StoredTable) → TakesRow meant cut before after old new →
    (rows : List (List Value)) → IsNotedTable before cut old rows → length new.spots.items ≡ length old.spots.items + 1
one_row_more cut before after old new takes rows is =
    omega (
      arith,
      length-noted_rows after cut new (rows ++ takes.row ∷ []) (takes.table rows is),
      length-noted_rows before cut old rows is,
      length-append rows (takes.row ∷ []),
    )

table_with : (table cells : ℕ) (shape : ShapeView) (bytes : List ℕ) (u : TableView) (r : Result (List (List Value)) LoadFault) → rows_in shape.columns table cells (records_of bytes) ≡ r →
    All (λ (c : Column). IsKind c.kind) shape.columns → with_rows shape r ≡ Ok u → IsTable u × (u.shape ≡ shape)
table_with table cells shape bytes u (Err e) reads kinds said = absurd (cc)
table_with table cells shape bytes u (Ok rows) reads kinds said =
    let here : record { shape = shape; rows = rows } ≡ u = ok_is _ _ said in
    (subst IsTable here (record { kinds = kinds; rows = rows_read shape.columns table cells (records_of bytes) rows reads }), ap (λ (v : TableView). v.shape) (sym here))
  where
    ok_is : (v w : TableView) → ◌≡◌ {A = Result TableView LoadFault} (Ok v) (Ok w) → v ≡ w
    ok_is v w e = cc

-- a table that is read is one of its shape
pub table_read : (table cells : ℕ) (shape : ShapeView) (bytes : List ℕ) (u : TableView) → All (λ (c : Column). IsKind c.kind) shape.columns → table_from table cells shape bytes ≡ Ok u → IsTable u × (u.shape ≡ shape)
unfolding table_from
table_read table cells shape bytes u kinds said = table_with table cells shape bytes u (rows_in shape.columns table cells (records_of bytes)) refl kinds said

-- the rows of a file as a table
pub table_of_rows : (table cells : ℕ) (shape : ShapeView) (bytes : List ℕ) (cut : CutView) (before after : List (List ℕ)) (t : StoredTable) →
    AreReadRows (rows_in shape.columns table cells (records_of bytes)) cut before after t → shape_of t.shape ≡ shape → IsReadTable (table_from table cells shape bytes) cut before after t
unfolding table_from
table_of_rows table cells shape bytes cut before after t read same = record {
  table = record { shape = shape; rows = read.rows };
  said = ap (with_rows shape) read.said;
  view = record { shape = same; table = read.table };
  texts = read.texts;
}

-- the tables that were read so far, and those that are left
pub record TablesSoFar (all : Result (List TableView) LoadFault) (cuts : List CutView) (shapes left : List ShapeView) (files : List (List ℕ)) (table cells : ℕ) (notes : List (List ℕ)) (ts : List StoredTable) : Type 0 where
  pub tables : List TableView
  pub each : AreNotedTables notes cuts ts tables
  pub texts : notes ≡ fold noted [] (texts_of tables)
  pub are : AreTablesOf shapes tables
  pub cells_are : cells ≡ cells_in tables
  pub said : all ≡ after_tables tables (tables_from table cells left files)

no_table_before : (r : Result (List TableView) LoadFault) → after_tables [] r ≡ r
no_table_before (Ok tables) = refl
no_table_before (Err e) = refl

pub tables_so_far-none : (cuts : List CutView) (left : List ShapeView) (files : List (List ℕ)) (table : ℕ) (notes : List (List ℕ)) → notes ≡ [] →
    TablesSoFar (tables_from table 0 left files) cuts [] left files table 0 notes []
tables_so_far-none cuts left files table notes none = record {
  tables = [];
  each = tt;
  texts = none;
  are = record { same = refl; database = All-nil IsTable; rows = All-nil HasRows; cells = omega arith };
  cells_are = refl;
  said = sym (no_table_before (tables_from table 0 left files));
}

-- one table more that was read
pub tables_so_far-more : (all : Result (List TableView) LoadFault) (cuts : List CutView) (shapes left more_shapes : List ShapeView) (files more_files : List (List ℕ)) (table cells : ℕ)
    (notes after : List (List ℕ)) (ts : List StoredTable) (s : ShapeView) (bytes : List ℕ) (cut : CutView) (t : StoredTable) → TablesSoFar all cuts shapes left files table cells notes ts →
    left ≡ s ∷ more_shapes → files ≡ bytes ∷ more_files → IsReadTable (table_from table cells s bytes) cut notes after t → slice_get cuts (length ts) ≡ Some cut →
    All (λ (c : Column). IsKind c.kind) s.columns → length t.spots.items ≤ most_rows → cells + length t.spots.items * length s.columns ≤ cell_limit →
    TablesSoFar all cuts (shapes ++ s ∷ []) more_shapes more_files (table + 1) (cells + length t.spots.items * length s.columns) after (ts ++ t ∷ [])
tables_so_far-more all cuts shapes left more_shapes files more_files table cells notes after ts s bytes cut t far shape file read at kinds few room =
    let u : TableView = read.table in
    let is : IsTable u × (u.shape ≡ s) = table_read table cells s bytes u kinds read.said in
    let as_many : length t.spots.items ≡ length u.rows = length-noted_rows after cut t u.rows read.view.table in
    let counted : cells_in (far.tables ++ u ∷ []) ≡ cells + length t.spots.items * length s.columns =
    cells_more far.tables u is.0 ∙ ap₂ (λ (n m : ℕ). n + m * length u.shape.columns) (sym far.cells_are) (sym as_many)
    ∙ ap (λ (v : ShapeView). cells + length t.spots.items * length v.columns) is.1 in
    record {
      tables = far.tables ++ u ∷ [];
      each = noted_tables-more after cuts ts far.tables cut t u (noted_tables-kept notes after (keeps-noted notes after (texts_of_table u) read.texts) cuts ts far.tables far.each) at read.view;
      texts = read.texts ∙ ap (λ (l : List (List ℕ)). fold noted l (texts_of_table u)) far.texts ∙ sym (fold_noted_push texts_of_table [] far.tables u);
      are = tables_more shapes far.tables u s far.are is.0 is.1 (omega (arith, few, as_many)) (omega (arith, counted, room));
      cells_are = sym counted;
      said = one_table all table cells far.tables left files far.said u s bytes more_shapes more_files shape file read.said
          ∙ ap (λ (n : ℕ). after_tables (far.tables ++ u ∷ []) (tables_from (table + 1) (cells + n * length s.columns) more_shapes more_files)) (sym as_many);
    }

pub tables_so_far-end : (all : Result (List TableView) LoadFault) (schema : SchemaView) (left : List ShapeView) (files : List (List ℕ)) (table cells : ℕ) (notes : List (List ℕ)) (ts : List StoredTable) →
    IsSchema schema → TablesSoFar all schema.cuts schema.shapes left files table cells notes ts → left ≡ [] → AreReadTables all schema notes ts
tables_so_far-end all schema left files table cells notes ts is far none = record {
  tables = far.tables;
  said = far.said ∙ ap (λ (l : List ShapeView). after_tables far.tables (tables_from table cells l files)) none ∙ ap Ok (append-nil far.tables);
  taken = record { each = far.each; texts = far.texts };
  stored = record { schema = is; tables = far.are };
}
