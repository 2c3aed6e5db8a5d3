-- The folds of a column's cells, and the grouping of choices by a key.
use Rattle.std.specs.Prelude.{ℕ, ◌+◌, ◌-◌, List, [], ◌∷◌, Bool, true, false, ◌&&◌, ◌==◌, if◌then◌else◌, nat_lt, ℤ, pos, ◌+ℤ◌, length, map, max, filter, position, unwrap_or}
use Rattle.std.specs.List.{dedup}
use Rattle.std.specs.Ordering.{is_eq}
use Rattle.pdq_base.specs.Sorting.{in_order}
use Rattle.pdq_value.specs.declared.cells.Cell.{Cell}
use Rattle.pdq_value.specs.declared.cells.Cell.TheVariants.{Nothing, Number}
use Rattle.pdq_value.specs.Cells.{cell_at, cell_cmp, number_of, row_cmp, scale_of}
use Rattle.pdq_value.specs.Averages.{average_of}
use Rattle.pdq_query.specs.declared.query.At.{At}
use Rattle.pdq_query.specs.declared.query.Item.{Item}
use Rattle.pdq_query.specs.declared.query.Item.TheVariants.{Plain, Sum, Avg, Min, Max, Count}
use Rattle.pdq_query.specs.Queries.{QueryView}
use Rattle.pdq_query.specs.Conditions.{Choice, cell_in, is_something}

abbrev pub total_of : List Cell → ℤ
total_of [] = pos 0
total_of (c ∷ cs) = number_of c +ℤ total_of cs

-- the scale of a column: the greatest of its cells
abbrev pub scale_in : List Cell → ℕ
scale_in [] = 0
scale_in (c ∷ cs) = max (scale_of c) (scale_in cs)

-- the cells of a column that hold a value, which are those that are folded
abbrev pub values_in : At → List Choice → List Cell
values_in a cs = filter is_something (map (λ c. cell_in c a) cs)

-- the sum, in the column's scale; of no cell it is nothing
abbrev pub sum_of : List Cell → Cell
sum_of [] = Nothing
sum_of (c ∷ cs) = Number (total_of (c ∷ cs)) (scale_in (c ∷ cs))

-- the average, with two decimal places more than the column
abbrev pub average_cell : List Cell → Cell
average_cell [] = Nothing
average_cell (c ∷ cs) = Number (average_of (total_of (c ∷ cs)) (length (c ∷ cs))) (scale_in (c ∷ cs) + 2)

abbrev pub least_of : List Cell → Cell
least_of cs = cell_at 0 (in_order cell_cmp cs)

abbrev pub greatest_of : List Cell → Cell
greatest_of cs = cell_at (length cs - 1) (in_order cell_cmp cs)

abbrev pub is_fold : Item → Bool
is_fold (Plain a) = false
is_fold (Sum a) = true
is_fold (Avg a) = true
is_fold (Min a) = true
is_fold (Max a) = true
is_fold Count = true

-- GROUP BY has a column
abbrev pub is_grouped : QueryView → Bool
is_grouped q = nat_lt 0 (length q.groups)

abbrev pub is_column : At → At → Bool
is_column a b = (a.table == b.table) && (a.column == b.column)

-- the key of a choice: its cells in the group columns
abbrev pub key_of : QueryView → Choice → List Cell
key_of q c = map (cell_in c) q.groups

abbrev pub is_row : List Cell → List Cell → Bool
is_row a b = is_eq (row_cmp a b)

-- what an item says of the choices of one key: COUNT of all of them, the other folds of the values that are there
unfoldable pub item_of_group : QueryView → List Cell → List Choice → Item → Cell
item_of_group q key cs (Plain a) = cell_at (unwrap_or (position (is_column a) q.groups) 0) key
item_of_group q key cs (Sum a) = sum_of (values_in a cs)
item_of_group q key cs (Avg a) = average_cell (values_in a cs)
item_of_group q key cs (Min a) = least_of (values_in a cs)
item_of_group q key cs (Max a) = greatest_of (values_in a cs)
item_of_group q key cs Count = Number (pos (length cs)) 0

-- each key once; without group columns there is exactly one, also over no choice
unfoldable pub keys_of : QueryView → List Choice → List (List Cell)
keys_of q cs = if is_grouped q then dedup is_row (in_order row_cmp (map (key_of q) cs)) else [] ∷ []

-- one row for each key, of the choices that have it
unfoldable pub group_rows : QueryView → List Choice → List (List Cell)
group_rows q cs = map (λ key. map (item_of_group q key (filter (λ c. is_row (key_of q c) key) cs)) q.items) (keys_of q cs)
