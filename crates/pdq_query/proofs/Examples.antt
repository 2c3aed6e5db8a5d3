-- Answers that compute.
use Rattle.std.proofs.Common.{◌≡◌, ℕ, [], ◌∷◌, Bool, true, refl, pos, Some}
use Rattle.pdq_base.specs.Sorting.{in_order}
use Rattle.pdq_value.specs.declared.cells.Cell.TheVariants as cell
use Rattle.pdq_value.specs.declared.shapes.Column.{Column}
use Rattle.pdq_value.specs.declared.shapes.Kind.{Kind}
use Rattle.pdq_value.specs.declared.shapes.Kind.TheVariants as kind
use Rattle.pdq_value.specs.declared.shapes.Value.TheVariants as value
use Rattle.pdq_value.specs.Averages.{average_of}
use Rattle.pdq_value.specs.Cells.{cell_cmp}
use Rattle.pdq_value.specs.Tables.{TableView}
use Rattle.pdq_query.specs.declared.query.At.{At}
use Rattle.pdq_query.specs.declared.query.Compare.TheVariants.{Ne, Lt, Ge}
use Rattle.pdq_query.specs.declared.query.Filter.TheVariants.{Literal, Columns}
use Rattle.pdq_query.specs.declared.query.Item.TheVariants.{Plain, Sum, Avg, Min, Max, Count}
use Rattle.pdq_query.specs.Queries.{QueryView}
use Rattle.pdq_query.specs.Conditions.{meets}
use Rattle.pdq_query.specs.Folds.{group_rows, item_of_group, keys_of}
use Rattle.pdq_query.specs.Answer.{answer, answer_of, choices, keys_cmp, rows_of}

column : Kind → Column
column k = record { name = []; kind = k }

at : ℕ → ℕ → At
at table column = record { table = table; column = column }

-- a shop and an amount with two decimal places
sales : TableView
sales = record {
  shape = record { name = []; columns = column (kind.Number 0) ∷ column (kind.Number 2) ∷ [] };
  rows = (value.Number (pos 1) ∷ value.Number (pos 500) ∷ []) ∷ (value.Number (pos 2) ∷ value.Number (pos 700) ∷ []) ∷ (value.Number (pos 1) ∷ value.Number (pos 401) ∷ []) ∷ [];
}

-- a shop and its name
shops : TableView
shops = record {
  shape = record { name = []; columns = column (kind.Number 0) ∷ column kind.Words ∷ [] };
  rows = (value.Number (pos 2) ∷ value.Words (66 ∷ []) ∷ []) ∷ (value.Number (pos 1) ∷ value.Words (65 ∷ []) ∷ []) ∷ [];
}

-- a join, each fold by the name of the shop, the last name first
by_shop : QueryView
by_shop = record {
  tables = 0 ∷ 1 ∷ [];
  filters = [];
  joins = (at 0 0, at 1 0) ∷ [];
  items = Plain (at 1 1) ∷ Sum (at 0 1) ∷ Avg (at 0 1) ∷ Min (at 0 1) ∷ Max (at 0 1) ∷ [];
  groups = at 1 1 ∷ [];
  keys = record { item = 0; down = true } ∷ [];
}

each_shop : answer (sales ∷ shops ∷ []) by_shop ≡ Some (
    (cell.Words (66 ∷ []) ∷ cell.Number (pos 700) 2 ∷ cell.Number (pos 70000) 4 ∷ cell.Number (pos 700) 2 ∷ cell.Number (pos 700) 2 ∷ [])
    ∷ (cell.Words (65 ∷ []) ∷ cell.Number (pos 901) 2 ∷ cell.Number (pos 45050) 4 ∷ cell.Number (pos 401) 2 ∷ cell.Number (pos 500) 2 ∷ [])
    ∷ [])
unfolding answer_of choices meets rows_of group_rows keys_of item_of_group in_order cell_cmp keys_cmp average_of sales shops by_shop at column
each_shop = refl

-- a filter on texts, and a literal at its column's scale
named : QueryView
named = record {
  tables = 1 ∷ 0 ∷ [];
  filters = Literal (at 0 1) Lt (value.Words (66 ∷ [])) ∷ Literal (at 1 1) Ge (value.Number (pos 401)) ∷ Literal (at 1 1) Ne (value.Number (pos 500)) ∷ [];
  joins = (at 0 0, at 1 0) ∷ [];
  items = Plain (at 0 1) ∷ Plain (at 1 1) ∷ [];
  groups = [];
  keys = [];
}

one_sale : answer (sales ∷ shops ∷ []) named ≡ Some ((cell.Words (65 ∷ []) ∷ cell.Number (pos 401) 2 ∷ []) ∷ [])
unfolding answer_of choices meets rows_of group_rows keys_of item_of_group in_order cell_cmp keys_cmp average_of sales shops named at column
one_sale = refl

-- rows that tie by the key go by the whole row, and rows that are equal stay
by_first : Bool → QueryView
by_first down = record {
  tables = 0 ∷ [];
  filters = [];
  joins = [];
  items = Plain (at 0 0) ∷ Plain (at 0 1) ∷ [];
  groups = [];
  keys = record { item = 0; down = down } ∷ [];
}

ties : answer (sales ∷ []) (by_first true) ≡ Some (
    (cell.Number (pos 2) 0 ∷ cell.Number (pos 700) 2 ∷ [])
    ∷ (cell.Number (pos 1) 0 ∷ cell.Number (pos 401) 2 ∷ [])
    ∷ (cell.Number (pos 1) 0 ∷ cell.Number (pos 500) 2 ∷ [])
    ∷ [])
unfolding answer_of choices meets rows_of group_rows keys_of item_of_group in_order cell_cmp keys_cmp average_of sales by_first at column
ties = refl

-- over no choice a GROUP BY has no row
no_group : QueryView
no_group = record {
  tables = 0 ∷ [];
  filters = Literal (at 0 0) Lt (value.Number (pos 0)) ∷ [];
  joins = [];
  items = Plain (at 0 0) ∷ Count ∷ [];
  groups = at 0 0 ∷ [];
  keys = [];
}

no_rows_at_all : answer (sales ∷ []) no_group ≡ Some []
unfolding answer_of choices meets rows_of group_rows keys_of item_of_group in_order cell_cmp keys_cmp average_of sales no_group at column
no_rows_at_all = refl

-- and folds without GROUP BY have one
folds_alone : QueryView
folds_alone = record no_group { items = Sum (at 0 1) ∷ Avg (at 0 1) ∷ Min (at 0 1) ∷ Max (at 0 1) ∷ Count ∷ []; groups = [] }

one_row : answer (sales ∷ []) folds_alone ≡ Some ((cell.Nothing ∷ cell.Nothing ∷ cell.Nothing ∷ cell.Nothing ∷ cell.Number (pos 0) 0 ∷ []) ∷ [])
unfolding answer_of choices meets rows_of group_rows keys_of item_of_group in_order cell_cmp keys_cmp average_of sales no_group folds_alone at column
one_row = refl

-- GROUP BY without a fold lists its keys, each once
distinct : QueryView
distinct = record {
  tables = 0 ∷ [];
  filters = Columns (at 0 0) (at 0 0) ∷ [];
  joins = [];
  items = Plain (at 0 0) ∷ [];
  groups = at 0 0 ∷ [];
  keys = [];
}

each_once : answer (sales ∷ []) distinct ≡ Some ((cell.Number (pos 1) 0 ∷ []) ∷ (cell.Number (pos 2) 0 ∷ []) ∷ [])
unfolding answer_of choices meets rows_of group_rows keys_of item_of_group in_order cell_cmp keys_cmp average_of sales distinct at column
each_once = refl

-- a name and an amount with one decimal place, either of which may be missing
notes : TableView
notes = record {
  shape = record { name = []; columns = column kind.Words ∷ column (kind.Number 1) ∷ [] };
  rows = (value.Words (120 ∷ []) ∷ value.Number (pos 10) ∷ []) ∷ (value.Words (120 ∷ []) ∷ value.Null ∷ []) ∷ (value.Null ∷ value.Number (pos 20) ∷ []) ∷ (value.Null ∷ value.Null ∷ []) ∷ [];
}

-- those without a name are one group, and only the amounts that are there are folded
by_name : QueryView
by_name = record {
  tables = 0 ∷ [];
  filters = [];
  joins = [];
  items = Plain (at 0 0) ∷ Sum (at 0 1) ∷ Avg (at 0 1) ∷ Min (at 0 1) ∷ Max (at 0 1) ∷ Count ∷ [];
  groups = at 0 0 ∷ [];
  keys = [];
}

each_name : answer (notes ∷ []) by_name ≡ Some (
    (cell.Nothing ∷ cell.Number (pos 20) 1 ∷ cell.Number (pos 2000) 3 ∷ cell.Number (pos 20) 1 ∷ cell.Number (pos 20) 1 ∷ cell.Number (pos 2) 0 ∷ [])
    ∷ (cell.Words (120 ∷ []) ∷ cell.Number (pos 10) 1 ∷ cell.Number (pos 1000) 3 ∷ cell.Number (pos 10) 1 ∷ cell.Number (pos 10) 1 ∷ cell.Number (pos 2) 0 ∷ [])
    ∷ [])
unfolding answer_of choices meets rows_of group_rows keys_of item_of_group in_order cell_cmp keys_cmp average_of notes by_name at column
each_name = refl

-- no amount that is missing differs from another
other_amounts : QueryView
other_amounts = record by_name { filters = Literal (at 0 1) Ne (value.Number (pos 10)) ∷ []; items = Plain (at 0 0) ∷ []; groups = [] }

one_amount : answer (notes ∷ []) other_amounts ≡ Some ((cell.Nothing ∷ []) ∷ [])
unfolding answer_of choices meets rows_of group_rows keys_of item_of_group in_order cell_cmp keys_cmp average_of notes by_name other_amounts at column
one_amount = refl

-- over values that are all missing every fold but COUNT is nothing
no_amount : QueryView
no_amount = record by_name { tables = 1 ∷ []; groups = []; items = Sum (at 0 0) ∷ Avg (at 0 0) ∷ Min (at 0 0) ∷ Max (at 0 0) ∷ Count ∷ [] }

holes : TableView
holes = record {
  shape = record { name = []; columns = column (kind.Number 0) ∷ [] };
  rows = (value.Null ∷ []) ∷ (value.Null ∷ []) ∷ [];
}

all_missing : answer (notes ∷ holes ∷ []) no_amount ≡ Some ((cell.Nothing ∷ cell.Nothing ∷ cell.Nothing ∷ cell.Nothing ∷ cell.Number (pos 2) 0 ∷ []) ∷ [])
unfolding answer_of choices meets rows_of group_rows keys_of item_of_group in_order cell_cmp keys_cmp average_of notes by_name no_amount holes at column
all_missing = refl

-- nothing is not joined with nothing
joined_holes : QueryView
joined_holes = record by_name { tables = 0 ∷ 1 ∷ []; joins = (at 0 0, at 1 0) ∷ []; groups = []; items = Plain (at 0 0) ∷ [] }

none_joined : answer (holes ∷ holes ∷ []) joined_holes ≡ Some []
unfolding answer_of choices meets rows_of group_rows keys_of item_of_group in_order cell_cmp keys_cmp average_of notes by_name joined_holes holes at column
none_joined = refl
