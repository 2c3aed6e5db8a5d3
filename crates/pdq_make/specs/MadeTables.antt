-- The tables that `make N` makes: the sales of some shops, and the shops.
use Rattle.std.specs.Prelude.{ℕ, ◌*◌, ◌%◌, List, [], ◌∷◌, ◌++◌, codes, decimal, map, pos}
use Rattle.std.specs.List.{range_with_len}
use Rattle.pdq_value.specs.declared.shapes.Column.{Column}
use Rattle.pdq_value.specs.declared.shapes.Kind.TheVariants as kind
use Rattle.pdq_value.specs.declared.shapes.Value.{Value}
use Rattle.pdq_value.specs.declared.shapes.Value.TheVariants as value
use Rattle.pdq_value.specs.Tables.{ShapeView, TableView}
use Rattle.pdq_schema.specs.Schemas.{SchemaView, rounds}
use Rattle.pdq_table.specs.Storing.{StoredView}

abbrev pub numbers_in : List ℕ → ℕ → Column
numbers_in name scale = record { name = name; kind = kind.Number scale }

abbrev pub texts_in : List ℕ → Column
texts_in name = record { name = name; kind = kind.Words }

abbrev pub sales_shape : ShapeView
sales_shape = record { name = codes "sales"; columns = numbers_in (codes "sale") 0 ∷ numbers_in (codes "shop") 0 ∷ numbers_in (codes "amount") 2 ∷ [] }

abbrev pub shops_shape : ShapeView
shops_shape = record { name = codes "shops"; columns = numbers_in (codes "shop") 0 ∷ texts_in (codes "city") ∷ [] }

-- a sale: its number, its shop, and its amount in hundredths
abbrev pub sale_row : ℕ → List Value
sale_row i = value.Number (pos i) ∷ value.Number (pos (37 * i % 100)) ∷ value.Number (pos (101 * i % 1000)) ∷ []

-- a shop: its number and its city, of which there are ten
abbrev pub shop_row : ℕ → List Value
shop_row j = value.Number (pos j) ∷ value.Words (codes "c" ++ decimal (j % 10)) ∷ []

-- the rows of so many numbers, from 0 on
unfoldable pub first_rows : (ℕ → List Value) → ℕ → List (List Value)
first_rows row count = map row (range_with_len 0 count)

-- this many sales, and a hundred shops
abbrev pub made_tables : ℕ → List TableView
made_tables count =
    record { shape = sales_shape; rows = first_rows sale_row count } ∷ record { shape = shops_shape; rows = first_rows shop_row 100 } ∷ []

-- the sales stand in four fragments in turn, the shops in one; neither comes from a file
abbrev pub made_schema : SchemaView
made_schema = record { shapes = sales_shape ∷ shops_shape ∷ []; files = [] ∷ [] ∷ []; cuts = rounds 4 ∷ rounds 1 ∷ [] }

abbrev pub made_stored : ℕ → StoredView
made_stored count = record { schema = made_schema; tables = made_tables count }
