-- Where the cells of an answer's row stand in a row of words.
use Rattle.std.specs.Prelude.{⊤, ℕ, ◌+◌, ◌≤◌, List, [], ◌∷◌, Bool, true, nat_lt, if◌then◌else◌, ℤ, length}
use Rattle.pdq_base.specs.Words.{word_at}
use Rattle.pdq_value.specs.declared.cells.Cell.{Cell}
use Rattle.pdq_value.specs.declared.cells.Cell.TheVariants as cell
use Rattle.pdq_value.specs.Tables.{ShapeView}
use Rattle.pdq_dict.specs.Coding.{cell_of_word}
use Rattle.pdq_query.specs.declared.query.At.{At}
use Rattle.pdq_query.specs.declared.query.Item.{Item}
use Rattle.pdq_query.specs.declared.query.Item.TheVariants as item
use Rattle.pdq_query.specs.Queries.{QueryView}
use Rattle.pdq_plan.specs.PlanSteps.{column_place}
use Rattle.pdq_eval.specs.Results.{kind_at, scale_of_kind, wide_cell}
use Rattle.pdq_result.specs.declared.sources.Source.{Source}
use Rattle.pdq_result.specs.declared.sources.Source.TheVariants.{Nothing, Column, Extreme, Wide, Count}

-- the row has the words that are read; of a column that it lacks 0 is read
abbrev pub is_there : List ℤ → Source → Bool
is_there row Nothing = true
is_there row (Column place kind) = true
is_there row (Extreme place kind) = nat_lt place (length row)
is_there row (Wide place scale) = nat_lt (place + 1) (length row)
is_there row (Count place) = nat_lt place (length row)

module _ (texts : List (List ℕ)) where
  abbrev pub cell_from : List ℤ → Source → Cell
  cell_from row Nothing = cell.Nothing
  cell_from row (Column place kind) = cell_of_word texts kind (word_at place row)
  cell_from row (Extreme place kind) = cell_of_word texts kind (word_at place row)
  cell_from row (Wide place scale) = wide_cell scale (word_at place row) (word_at (place + 1) row)
  cell_from row (Count place) = cell.Number (word_at place row) 0

  -- the cells of a row, up to the first whose words are not there
  abbrev pub cells_from : List Source → List ℤ → List Cell
  cells_from [] row = []
  cells_from (s ∷ ss) row = if is_there row s then cell_from row s ∷ cells_from ss row else []

module _ (shapes : List ShapeView) (q : QueryView) where
  -- of an item in a running row
  abbrev pub plain_source : List At → Item → Source
  plain_source cols (item.Plain a) = Column (column_place cols a) (kind_at shapes q a)
  plain_source cols (item.Sum a) = Nothing
  plain_source cols (item.Avg a) = Nothing
  plain_source cols (item.Min a) = Nothing
  plain_source cols (item.Max a) = Nothing
  plain_source cols item.Count = Nothing

  -- of an item in a group's row, where the words of its fold begin at a place
  abbrev pub group_source : ℕ → Item → Source
  group_source place (item.Plain a) = Column (column_place q.groups a) (kind_at shapes q a)
  group_source place (item.Sum a) = Wide place (scale_of_kind (kind_at shapes q a))
  group_source place (item.Avg a) = Wide place (scale_of_kind (kind_at shapes q a) + 2)
  group_source place (item.Min a) = Extreme place (kind_at shapes q a)
  group_source place (item.Max a) = Extreme place (kind_at shapes q a)
  group_source place item.Count = Count place

-- its cells have at most eight decimal places
abbrev pub HasScale : Source → Type 0
HasScale Nothing = ⊤
HasScale (Column place kind) = scale_of_kind kind ≤ 8
HasScale (Extreme place kind) = scale_of_kind kind ≤ 8
HasScale (Wide place scale) = scale ≤ 8
HasScale (Count place) = ⊤

-- how many words of a group's row an item's fold has
abbrev pub words_of_item : Item → ℕ
words_of_item (item.Plain a) = 0
words_of_item (item.Sum a) = 2
words_of_item (item.Avg a) = 2
words_of_item (item.Min a) = 1
words_of_item (item.Max a) = 1
words_of_item item.Count = 1

-- of the items in a group's row, where the words of their folds begin at a place
abbrev pub group_sources : List ShapeView → QueryView → List Item → ℕ → List Source
group_sources shapes q [] place = []
group_sources shapes q (i ∷ is) place = group_source shapes q place i ∷ group_sources shapes q is (place + words_of_item i)
