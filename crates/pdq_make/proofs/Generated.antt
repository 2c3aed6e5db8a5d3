-- The generated tables are tables of their schema.
use Rattle.std.proofs.Common.{◌≡◌, ◌≢◌, ℕ, ◌+◌, ◌*◌, ◌≤◌, zero, suc, true, List, [], ◌∷◌, sym, subst, All, AllPairs, length, map, refl, ap, arith, codes, slice_index}
use Rattle.std.specs.Prelude.{String, string_bytes, sum_by}
use Rattle.std.specs.declared.alloc.Global.{Global}
use Rattle.std.specs.List.{range_with_len}
use Rattle.std.proofs.lemmas.List.Elements.{All-cons, All-nil}
use Rattle.std.proofs.lemmas.List.FromFn.{length-map-range_with_len}
use Rattle.std.proofs.lemmas.List.Kept.{AllPairs-cons}
use Rattle.std.proofs.lemmas.List.Sums.{sum_by-cons}
use Rattle.pdq_value.specs.declared.shapes.Column.{Column}
use Rattle.pdq_value.specs.declared.shapes.TableShape.{TableShape}
use Rattle.pdq_value.specs.declared.shapes.Value.{Value}
use Rattle.pdq_value.specs.Names.{is_name}
use Rattle.pdq_value.specs.PlainTable.{most_rows}
use Rattle.pdq_value.specs.Tables.{IsKind, IsRowOf, IsShape, IsTable, ShapeView, TableView, shape_of}
use Rattle.pdq_schema.specs.declared.cuts.Cut.{Cut}
use Rattle.pdq_schema.specs.declared.cuts.Cut.TheVariants.{Rounds}
use Rattle.pdq_schema.specs.Schemas.{IsNamed, IsSchema, schema_with}
use Rattle.pdq_table.specs.Storing.{IsStored}
use Rattle.pdq_make.specs.MadeTables.{first_rows, made_schema, made_stored, numbers_in, sale_row, sales_shape, shop_row, shops_shape, texts_in}

none_paired : {X : Type 0} (R : X → X → Type 0) → AllPairs R []
none_paired R i j d below within = absurd (omega arith)

abbrev NamesDiffer : Column → Column → Type 0
NamesDiffer c d = c.name ≢ d.name

abbrev TablesDiffer : ShapeView → ShapeView → Type 0
TablesDiffer a b = a.name ≢ b.name

abbrev HasKind : Column → Type 0
HasKind c = IsKind c.kind

abbrev HasName : Column → Type 0
HasName c = is_name c.name ≡ true

-- names that differ at a place
differ_at : (a b : List ℕ) (place : ℕ) → slice_index a place ≢ slice_index b place → a ≢ b
differ_at a b place other same = other (ap (λ (w : List ℕ). slice_index w place) same)

-- the columns
abbrev sale_column : Column
sale_column = numbers_in (codes "sale") 0

abbrev shop_column : Column
shop_column = numbers_in (codes "shop") 0

abbrev amount_column : Column
amount_column = numbers_in (codes "amount") 2

abbrev city_column : Column
city_column = texts_in (codes "city")

three : (P : Column → Type 0) → P sale_column → P shop_column → P amount_column → All P (sale_column ∷ shop_column ∷ amount_column ∷ [])
three P a b c = All-cons P sale_column (shop_column ∷ amount_column ∷ []) a (All-cons P shop_column (amount_column ∷ []) b (All-cons P amount_column [] c (All-nil P)))

two : (P : Column → Type 0) → P shop_column → P city_column → All P (shop_column ∷ city_column ∷ [])
two P a b = All-cons P shop_column (city_column ∷ []) a (All-cons P city_column [] b (All-nil P))

both : (P : ShapeView → Type 0) → P sales_shape → P shops_shape → All P (sales_shape ∷ shops_shape ∷ [])
both P a b = All-cons P sales_shape (shops_shape ∷ []) a (All-cons P shops_shape [] b (All-nil P))

both_tables : (P : TableView → Type 0) (a b : TableView) → P a → P b → All P (a ∷ b ∷ [])
both_tables P a b p q = All-cons P a (b ∷ []) p (All-cons P b [] q (All-nil P))

sales_named : IsNamed sales_shape
unfolding is_name
sales_named = record { table = refl; columns = three HasName refl refl refl }

shops_named : IsNamed shops_shape
unfolding is_name
shops_named = record { table = refl; columns = two HasName refl refl }

sale_differs : All (NamesDiffer sale_column) (shop_column ∷ amount_column ∷ [])
sale_differs = All-cons (NamesDiffer sale_column) shop_column (amount_column ∷ []) (differ_at (codes "sale") (codes "shop") 1 (omega arith)) (All-cons (NamesDiffer sale_column) amount_column [] (differ_at (codes "sale") (codes "amount") 0 (omega arith)) (All-nil (NamesDiffer sale_column)))

shop_differs : (other : Column) → codes "shop" ≢ other.name → All (NamesDiffer shop_column) (other ∷ [])
shop_differs other differs = All-cons (NamesDiffer shop_column) other [] differs (All-nil (NamesDiffer shop_column))

alone : (c : Column) → AllPairs NamesDiffer (c ∷ [])
alone c = AllPairs-cons NamesDiffer c [] (All-nil (NamesDiffer c)) (none_paired NamesDiffer)

pub sales_are_shaped : IsShape sales_shape
sales_are_shaped = record {
  some_column = omega arith;
  sixteen_columns = omega arith;
  names_differ = AllPairs-cons NamesDiffer sale_column (shop_column ∷ amount_column ∷ []) sale_differs
      (AllPairs-cons NamesDiffer shop_column (amount_column ∷ []) (shop_differs amount_column (differ_at (codes "shop") (codes "amount") 0 (omega arith))) (alone amount_column));
  kinds = three HasKind (omega arith) (omega arith) (omega arith);
}

pub shops_are_shaped : IsShape shops_shape
shops_are_shaped = record {
  some_column = omega arith;
  sixteen_columns = omega arith;
  names_differ = AllPairs-cons NamesDiffer shop_column (city_column ∷ []) (shop_differs city_column (differ_at (codes "shop") (codes "city") 0 (omega arith))) (alone city_column);
  kinds = two HasKind (omega arith) tt;
}

tables_differ : AllPairs TablesDiffer (sales_shape ∷ shops_shape ∷ [])
tables_differ =
    AllPairs-cons TablesDiffer sales_shape (shops_shape ∷ [])
    (All-cons (TablesDiffer sales_shape) shops_shape [] (differ_at (codes "sales") (codes "shops") 1 (omega arith)) (All-nil (TablesDiffer sales_shape)))
    (AllPairs-cons TablesDiffer shops_shape [] (All-nil (TablesDiffer shops_shape)) (none_paired TablesDiffer))

pub made_is_schema : IsSchema made_schema
made_is_schema = record {
  some_table = omega arith;
  sixteen_tables = omega arith;
  shapes = both IsShape sales_are_shaped shops_are_shaped;
  names = both IsNamed sales_named shops_named;
  names_differ = tables_differ;
  a_file_each = refl;
  a_cut_each = refl;
  cuts = ((omega arith, omega arith), ((omega arith, omega arith), tt));
}

sales_in : (a n : ℕ) → sum_by length (map sale_row (range_with_len a n)) ≡ 3 * n
sales_in a zero = refl
sales_in a (suc n) = let rest = sales_in (a + 1) n in omega (arith, rest, sum_by-cons length (sale_row a) (map sale_row (range_with_len (a + 1) n)))

shops_in : (a n : ℕ) → sum_by length (map shop_row (range_with_len a n)) ≡ 2 * n
shops_in a zero = refl
shops_in a (suc n) = let rest = shops_in (a + 1) n in omega (arith, rest, sum_by-cons length (shop_row a) (map shop_row (range_with_len (a + 1) n)))

sale_cells : (n : ℕ) → sum_by length (first_rows sale_row n) ≡ 3 * n
unfolding first_rows
sale_cells n = sales_in 0 n

shop_cells : (n : ℕ) → sum_by length (first_rows shop_row n) ≡ 2 * n
unfolding first_rows
shop_cells n = shops_in 0 n

length-first_rows : (row : ℕ → List Value) (count : ℕ) → length (first_rows row count) ≡ count
unfolding first_rows
length-first_rows row count = length-map-range_with_len row 0 count

abbrev HasFewRows : TableView → Type 0
HasFewRows t = length t.rows ≤ most_rows

abbrev sales_table : ℕ → TableView
sales_table count = record { shape = sales_shape; rows = first_rows sale_row count }

abbrev shops_table : TableView
shops_table = record { shape = shops_shape; rows = first_rows shop_row 100 }

pub made_is_stored : (count : ℕ) → count ≤ 1000000 → All (IsRowOf sales_shape.columns) (first_rows sale_row count) → All (IsRowOf shops_shape.columns) (first_rows shop_row 100) → IsStored (made_stored count)
made_is_stored count few sales shops =
    let sales_few : length (first_rows sale_row count) ≤ most_rows = omega (arith, length-first_rows sale_row count) in
    let shops_few : length (first_rows shop_row 100) ≤ most_rows = omega (arith, length-first_rows shop_row 100) in
    record {
      schema = made_is_schema;
      tables = record {
        same = refl;
        database = both_tables IsTable (sales_table count) shops_table (record { kinds = sales_are_shaped.kinds; rows = sales }) (record { kinds = shops_are_shaped.kinds; rows = shops });
        rows = both_tables HasFewRows (sales_table count) shops_table sales_few shops_few;
        cells = omega (arith, sale_cells count, shop_cells 100);
      };
    }

pub schema_of_parts : (s t : TableShape) (f g : String Global) (shapes : List TableShape) (files : List (String Global)) (cuts : List Cut)
    → shapes ≡ s ∷ t ∷ [] → files ≡ f ∷ g ∷ [] → cuts ≡ Rounds 4 ∷ Rounds 1 ∷ [] → shape_of s ≡ sales_shape → shape_of t ≡ shops_shape → string_bytes f ≡ [] → string_bytes g ≡ []
    → IsSchema (schema_with shapes files cuts)
schema_of_parts s t f g shapes files cuts two both cut first second none empty =
    let e : schema_with shapes files cuts ≡ made_schema = rw (two, both, cut, first, second, none, empty) refl in
    subst IsSchema (sym e) made_is_schema
