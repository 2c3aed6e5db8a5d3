-- How tables are stored: their fragments of coded rows, and for each row of the file where it stands.
use Rattle.std.specs.Prelude.{⊤, ◌≡◌, ℕ, ◌<◌, List, [], ◌∷◌, ◌++◌, ℤ, All, Result, Ok, fold, length, map, slice_index_or, slice_set}
use Rattle.std.specs.List.{AllZip, flat_map}
use Rattle.pdq_dict.specs.Coding.{coded_row, decoded_row}
use Rattle.pdq_dict.specs.Dictionary.{dictionary_of, texts_of, texts_of_row, texts_of_table}
use Rattle.pdq_dict.specs.Texts.{noted}
use Rattle.pdq_schema.specs.Fragments.{fragment_count, fragment_rows}
use Rattle.pdq_schema.specs.Schemas.{CutView, SchemaView}
use Rattle.pdq_value.specs.declared.loading.LoadFault.{LoadFault}
use Rattle.pdq_value.specs.declared.shapes.Column.{Column}
use Rattle.pdq_value.specs.declared.shapes.Value.{Value}
use Rattle.pdq_value.specs.Tables.{IsRowOf, TableView, shape_of}
use Rattle.pdq_table.specs.declared.stored_table.Spot.{Spot}
use Rattle.pdq_table.specs.declared.stored_table.StoredTable.{StoredTable}
use Rattle.pdq_table.specs.NotedWords.{IsNoted, noted_row, recoded}
use Rattle.pdq_table.specs.Storing.{IsStored, StoredView}
use Rattle.pdq_table.specs.Words.{FragmentView, no_rows, with_row, with_words}

-- fragments, each the list of its rows
abbrev pub Fragments : Type 0
Fragments = List (List (List Value))

abbrev pub fragment_at : Fragments → ℕ → List (List Value)
fragment_at fragments number = slice_index_or fragments number []

abbrev pub row_at : Fragments → Spot → List Value
row_at fragments spot = slice_index_or (fragment_at fragments spot.fragment) spot.place []

abbrev pub rows_at : Fragments → List Spot → List (List Value)
rows_at fragments spots = map (row_at fragments) spots

-- a row stands there
pub record HoldsRow (fragments : Fragments) (spot : Spot) : Type 0 where
  pub fragment : spot.fragment < length fragments
  pub place : spot.place < length (fragment_at fragments spot.fragment)

-- the fragments are those of the rows that stand at these spots
pub record IsCutInto (cut : CutView) (fragments : Fragments) (spots : List Spot) : Type 0 where
  pub count : length fragments ≡ fragment_count cut
  pub held : All (HoldsRow fragments) spots
  pub rows : (f : ℕ) → f < length fragments → fragment_at fragments f ≡ fragment_rows cut f (rows_at fragments spots)

-- the fragment at this number
abbrev pub words_at : List FragmentView → ℕ → FragmentView
words_at fragments number = slice_index_or fragments number (no_rows 0)

-- the words at a spot
abbrev pub row_words_at : List FragmentView → Spot → List ℤ
row_words_at fragments spot = slice_index_or (words_at fragments spot.fragment).rows spot.place []

-- words stand there
pub record HoldsWords (fragments : List FragmentView) (spot : Spot) : Type 0 where
  pub fragment : spot.fragment < length fragments
  pub place : spot.place < length (words_at fragments spot.fragment).rows

-- a fragment whose texts stand as their notes' numbers, one of coded rows, and the rows of values of such a one
abbrev pub noted_fragment : List (List ℕ) → ℕ → List (List Value) → FragmentView
noted_fragment notes width rows = record { width = width; rows = map (noted_row notes) rows }

abbrev pub coded_fragment : List (List ℕ) → ℕ → List (List Value) → FragmentView
coded_fragment dictionary width rows = record { width = width; rows = map (coded_row dictionary) rows }

abbrev pub decoded_fragment : List (List ℕ) → List Column → FragmentView → List (List Value)
decoded_fragment dictionary columns f = map (decoded_row dictionary columns) f.rows

abbrev pub width_of : StoredTable → ℕ
width_of t = length t.shape.columns.items

abbrev pub decoded_fragments : List (List ℕ) → StoredTable → Fragments
decoded_fragments dictionary t = map (decoded_fragment dictionary t.shape.columns.items) t.fragments.items

-- a row of these columns whose texts were noted
pub record IsNotedRow (notes : List (List ℕ)) (columns : List Column) (row : List Value) : Type 0 where
  pub kinds : IsRowOf columns row
  pub noted : All (IsNoted notes) row

-- a table, while files are read, with these rows in the order of the file
pub record IsNotedTable (notes : List (List ℕ)) (cut : CutView) (t : StoredTable) (rows : List (List Value)) : Type 0 where
  pub fragments : Fragments
  pub words : t.fragments.items ≡ map (noted_fragment notes (width_of t)) fragments
  pub noted : All (All (IsNotedRow notes t.shape.columns.items)) fragments
  pub layout : IsCutInto cut fragments t.spots.items
  pub order : rows_at fragments t.spots.items ≡ rows

-- a table that takes rows
pub record IsOpenTable (notes : List (List ℕ)) (cut : CutView) (t : StoredTable) : Type 0 where
  pub rows : List (List Value)
  pub table : IsNotedTable notes cut t rows

-- rows that were read one after another into a table, and their texts noted
pub record AreReadRows (meant : Result (List (List Value)) LoadFault) (cut : CutView) (before after : List (List ℕ)) (t : StoredTable) : Type 0 where
  pub rows : List (List Value)
  pub said : meant ≡ Ok rows
  pub table : IsNotedTable after cut t rows
  pub texts : after ≡ fold noted before (flat_map texts_of_row rows)

-- a row that was read into a table, behind the others, and its texts noted
pub record TakesRow (meant : Result (List Value) LoadFault) (cut : CutView) (before after : List (List ℕ)) (old new : StoredTable) : Type 0 where
  pub row : List Value
  pub said : meant ≡ Ok row
  pub texts : after ≡ fold noted before (texts_of_row row)
  pub table : (rows : List (List Value)) → IsNotedTable before cut old rows → IsNotedTable after cut new (rows ++ row ∷ [])

-- this table stands there, its texts as their notes' numbers
pub record IsNotedView (notes : List (List ℕ)) (cut : CutView) (t : StoredTable) (u : TableView) : Type 0 where
  pub shape : shape_of t.shape ≡ u.shape
  pub table : IsNotedTable notes cut t u.rows

-- a table that was read
pub record IsReadTable (meant : Result TableView LoadFault) (cut : CutView) (before after : List (List ℕ)) (t : StoredTable) : Type 0 where
  pub table : TableView
  pub said : meant ≡ Ok table
  pub view : IsNotedView after cut t table
  pub texts : after ≡ fold noted before (texts_of_table table)

-- these tables stand there, one after another
abbrev pub AreNotedTables : List (List ℕ) → List CutView → List StoredTable → List TableView → Type 0
AreNotedTables notes cuts [] [] = ⊤
AreNotedTables notes cuts [] (u ∷ us) = ⊥
AreNotedTables notes [] (t ∷ ts) us = ⊥
AreNotedTables notes (c ∷ cs) (t ∷ ts) [] = ⊥
AreNotedTables notes (c ∷ cs) (t ∷ ts) (u ∷ us) = IsNotedView notes c t u × AreNotedTables notes cs ts us

-- these tables were taken in whole, and all texts of theirs noted
pub record AreTaken (cuts : List CutView) (notes : List (List ℕ)) (ts : List StoredTable) (tables : List TableView) : Type 0 where
  pub each : AreNotedTables notes cuts ts tables
  pub texts : notes ≡ fold noted [] (texts_of tables)

-- the tables of a schema that were read
pub record AreReadTables (meant : Result (List TableView) LoadFault) (schema : SchemaView) (notes : List (List ℕ)) (ts : List StoredTable) : Type 0 where
  pub tables : List TableView
  pub said : meant ≡ Ok tables
  pub taken : AreTaken schema.cuts notes ts tables
  pub stored : IsStored (record { schema = schema; tables = tables })

-- tables of a schema were taken in
pub record AreTakenOf (schema : SchemaView) (notes : List (List ℕ)) (ts : List StoredTable) : Type 0 where
  pub tables : List TableView
  pub taken : AreTaken schema.cuts notes ts tables
  pub stored : IsStored (record { schema = schema; tables = tables })

-- a table with one row more in a fragment
pub record IsPushed (old : StoredTable) (number : ℕ) (words : List ℤ) (new : StoredTable) : Type 0 where
  pub shape : new.shape ≡ old.shape
  pub fragments : new.fragments.items ≡ slice_set old.fragments.items number (with_row (words_at old.fragments.items number) words)
  pub spots : new.spots.items ≡ old.spots.items ++ record { fragment = number; place = length (words_at old.fragments.items number).rows } ∷ []

-- a table with the codes of texts in place of their notes' numbers
pub record IsRecoded (codes : List ℕ) (old new : StoredTable) : Type 0 where
  pub shape : new.shape ≡ old.shape
  pub fragments : new.fragments.items ≡ map (with_words (recoded codes)) old.fragments.items
  pub spots : new.spots.items ≡ old.spots.items

-- a table with its rows in the order of the file
abbrev pub table_stored : List (List ℕ) → StoredTable → TableView
table_stored dictionary t = record { shape = shape_of t.shape; rows = rows_at (decoded_fragments dictionary t) t.spots.items }

-- words of the table stand at each spot
abbrev pub HoldsRows : StoredTable → Type 0
HoldsRows t = All (HoldsWords t.fragments.items) t.spots.items

-- a table of coded rows in the fragments of its cut
pub record IsCutBy (dictionary : List (List ℕ)) (cut : CutView) (t : StoredTable) : Type 0 where
  pub coded : t.fragments.items ≡ map (coded_fragment dictionary (width_of t)) (decoded_fragments dictionary t)
  pub layout : IsCutInto cut (decoded_fragments dictionary t) t.spots.items

-- the tables of a schema as they are stored
abbrev pub view_of : SchemaView → List (List ℕ) → List StoredTable → StoredView
view_of schema dictionary tables = record { schema = schema; tables = map (table_stored dictionary) tables }

-- the tables of a schema, each in the fragments of its cut, and the dictionary of their texts
pub record AreStored (schema : SchemaView) (dictionary : List (List ℕ)) (tables : List StoredTable) : Type 0 where
  pub stored : IsStored (view_of schema dictionary tables)
  pub cuts : AllZip (IsCutBy dictionary) schema.cuts tables
  pub texts : dictionary ≡ dictionary_of (map (table_stored dictionary) tables)
