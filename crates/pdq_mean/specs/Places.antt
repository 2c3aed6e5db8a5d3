-- Choices by their places, beside the prefixes of their cells in the first group column.
use Rattle.std.specs.Prelude.{All, ◌≡◌, ◌<◌, ℕ, List, [], Some, length, map, slice_get, slice_index, slice_index_or}
use Rattle.std.specs.Global.{Vec}
use Rattle.std.specs.List.{dedup}
use Rattle.std.specs.Ordering.{on, then_cmp}
use Rattle.std.specs.declared.cmp.Ordering.{Ordering}
use Rattle.pdq_value.specs.declared.cells.Cell.{Cell}
use Rattle.pdq_value.specs.Cells.{cell_at, row_cmp}
use Rattle.pdq_value.specs.Tables.{TableView}
use Rattle.pdq_query.specs.Queries.{QueryView}
use Rattle.pdq_query.specs.Conditions.{cell_in}
use Rattle.pdq_query.specs.Folds.{is_row, key_of}
use Rattle.pdq_mean.specs.declared.key_prefixes.Prefixed.{Prefixed}
use Rattle.pdq_mean.specs.KeyPrefixes.{IsKeyPrefixOf, columns_left, prefix_cmp}
use Rattle.pdq_mean.specs.Loops.{chosen, lists_of}

-- the numbers of the rows of the choice at a place; none past the end
abbrev pub numbers_at : List (Vec ℕ) → ℕ → List ℕ
numbers_at choices place = slice_index_or (lists_of choices) place []

module _ (tables : List TableView) (q : QueryView) (choices : List (Vec ℕ)) where
  -- the key of the choice at a place
  abbrev pub key_at : ℕ → List Cell
  key_at place = key_of q (chosen tables q (numbers_at choices place))

  abbrev pub keys_at : List (Prefixed ℕ) → List (List Cell)
  keys_at prefixed = map (λ (l : Prefixed ℕ). key_at l.item) prefixed

  -- the cells that tell it apart from choices whose prefixes tie with its own
  abbrev pub cells_left_at : Prefixed ℕ → List Cell
  cells_left_at l = map (cell_in (chosen tables q (numbers_at choices l.item))) (columns_left q l.prefix)

  -- by the prefixes, and then by the cells that are left
  unfoldable pub prefixed_place_cmp : Prefixed ℕ → Prefixed ℕ → Ordering
  prefixed_place_cmp = then_cmp (on (λ (l : Prefixed ℕ). l.prefix) prefix_cmp) (on cells_left_at row_cmp)

  -- the place of a choice beside the prefix of its cell in the first group column
  pub record IsPrefixedPlace (l : Prefixed ℕ) : Type 0 where
    pub prefix : IsKeyPrefixOf l.prefix (cell_at 0 (key_at l.item))
    pub within : l.item < length choices

  -- among these numbers, its own is that of its key among the keys
  abbrev pub IsNumbered : List (List Cell) → List ℕ → Prefixed ℕ → Type 0
  IsNumbered keys numbers l = slice_get keys (slice_index numbers l.item) ≡ Some (key_at l.item)

  -- the places in the list have the numbers of their keys, of which there are so many
  pub record NumbersKeys (prefixed : List (Prefixed ℕ)) (numbers : List ℕ) (count : ℕ) : Type 0 where
    pub one_each : length numbers ≡ length choices
    pub each : All (IsNumbered (dedup is_row (keys_at prefixed)) numbers) prefixed
    pub all : count ≡ length (dedup is_row (keys_at prefixed))
