-- What a run makes of its running rows: the rows of an answer, by way of groups where the query has a fold or GROUP BY.
use Rattle.std.specs.Prelude.{ℕ, ◌+◌, List, [], ◌∷◌, ◌++◌, Bool, ◌||◌, if◌then◌else◌, ℤ, pos, Option, None, Some, flat_map, length, map, take, drop}
use Rattle.std.specs.List.{list_any}
use Rattle.pdq_base.specs.Words.{is_null, word_at}
use Rattle.pdq_value.specs.declared.cells.Cell.{Cell}
use Rattle.pdq_value.specs.declared.cells.Cell.TheVariants.{Nothing, Number}
use Rattle.pdq_value.specs.declared.shapes.Column.{Column}
use Rattle.pdq_value.specs.declared.shapes.Kind.{Kind}
use Rattle.pdq_value.specs.declared.shapes.Kind.TheVariants as kind
use Rattle.pdq_value.specs.Tables.{ShapeView}
use Rattle.pdq_dict.specs.Coding.{cell_of_word}
use Rattle.pdq_query.specs.declared.query.At.{At}
use Rattle.pdq_query.specs.declared.query.Item.{Item}
use Rattle.pdq_query.specs.declared.query.Item.TheVariants as item
use Rattle.pdq_query.specs.Queries.{QueryView}
use Rattle.pdq_query.specs.Fits.{column_at}
use Rattle.pdq_query.specs.Folds.{is_fold, is_grouped}
use Rattle.pdq_plan.specs.PlanSteps.{column_place}
use Rattle.pdq_group.specs.declared.shape.Fold.{Fold}
use Rattle.pdq_group.specs.declared.shape.Fold.TheVariants as fold
use Rattle.pdq_group.specs.Words.{wide_number}

-- a query with a fold or with GROUP BY
abbrev pub folds : QueryView → Bool
folds q = is_grouped q || list_any is_fold q.items

abbrev pub kind_or : Option Column → Kind
kind_or (Some c) = c.kind
kind_or None = kind.Words

-- the kind of a query's column
abbrev pub kind_at : List ShapeView → QueryView → At → Kind
kind_at shapes q a = kind_or (column_at shapes q.tables a)

abbrev pub scale_of_kind : Kind → ℕ
scale_of_kind (kind.Number s) = s
scale_of_kind kind.Words = 0

abbrev pub folds_of_item : Item → List Fold
folds_of_item (item.Plain a) = []
folds_of_item (item.Sum a) = fold.Sum ∷ []
folds_of_item (item.Avg a) = fold.Avg ∷ []
folds_of_item (item.Min a) = fold.Min ∷ []
folds_of_item (item.Max a) = fold.Max ∷ []
folds_of_item item.Count = fold.Count ∷ []

-- the folds of a select list
abbrev pub folds_of : List Item → List Fold
folds_of items = flat_map folds_of_item items

-- the word of an item's column; a count reads none
abbrev pub input_of_item : List At → List ℤ → Item → List ℤ
input_of_item cols w (item.Plain a) = []
input_of_item cols w (item.Sum a) = word_at (column_place cols a) w ∷ []
input_of_item cols w (item.Avg a) = word_at (column_place cols a) w ∷ []
input_of_item cols w (item.Min a) = word_at (column_place cols a) w ∷ []
input_of_item cols w (item.Max a) = word_at (column_place cols a) w ∷ []
input_of_item cols w item.Count = pos 0 ∷ []

-- the words of the group columns
abbrev pub key_words : List At → List At → List ℤ → List ℤ
key_words cols groups w = map (λ a. word_at (column_place cols a) w) groups

-- the row that a running row hands to a grouper: its key, then a word for each fold
abbrev pub group_input : List At → QueryView → List ℤ → List ℤ
group_input cols q w = key_words cols q.groups w ++ flat_map (input_of_item cols w) q.items

-- a number of two words as a cell: with Null above it is nothing
abbrev pub wide_cell : ℕ → ℤ → ℤ → Cell
wide_cell scale low high = if is_null high then Nothing else Number (wide_number low high) scale

module _ (texts : List (List ℕ)) (shapes : List ShapeView) (q : QueryView) where
  -- the cell of a plain item
  abbrev pub plain_cell : List At → List ℤ → Item → Cell
  plain_cell cols w (item.Plain a) = cell_of_word texts (kind_at shapes q a) (word_at (column_place cols a) w)
  plain_cell cols w (item.Sum a) = Nothing
  plain_cell cols w (item.Avg a) = Nothing
  plain_cell cols w (item.Min a) = Nothing
  plain_cell cols w (item.Max a) = Nothing
  plain_cell cols w item.Count = Nothing

  -- the answer's row of a running row
  abbrev pub plain_row : List At → List ℤ → List Cell
  plain_row cols w = map (plain_cell cols w) q.items

  -- the answer's row of a group's row, item by item, where the folds' words are read in turn
  abbrev pub group_cells : List Item → List ℤ → List ℤ → List Cell
  group_cells [] k ws = []
  group_cells (item.Plain a ∷ is) k ws = cell_of_word texts (kind_at shapes q a) (word_at (column_place q.groups a) k) ∷ group_cells is k ws
  group_cells (item.Sum a ∷ is) k (l ∷ h ∷ ws) = wide_cell (scale_of_kind (kind_at shapes q a)) l h ∷ group_cells is k ws
  group_cells (item.Avg a ∷ is) k (l ∷ h ∷ ws) = wide_cell (scale_of_kind (kind_at shapes q a) + 2) l h ∷ group_cells is k ws
  group_cells (item.Min a ∷ is) k (w ∷ ws) = cell_of_word texts (kind_at shapes q a) w ∷ group_cells is k ws
  group_cells (item.Max a ∷ is) k (w ∷ ws) = cell_of_word texts (kind_at shapes q a) w ∷ group_cells is k ws
  group_cells (item.Count ∷ is) k (w ∷ ws) = Number w 0 ∷ group_cells is k ws
  group_cells (i ∷ is) k ws = []

  -- the answer's row of what a grouper puts
  abbrev pub group_answer_row : List ℤ → List Cell
  group_answer_row row = group_cells q.items (take (length q.groups) row) (drop (length q.groups) row)

-- what an item says of no choice
abbrev pub item_of_nothing : Item → Cell
item_of_nothing (item.Plain a) = Nothing
item_of_nothing (item.Sum a) = Nothing
item_of_nothing (item.Avg a) = Nothing
item_of_nothing (item.Min a) = Nothing
item_of_nothing (item.Max a) = Nothing
item_of_nothing item.Count = Number (pos 0) 0
