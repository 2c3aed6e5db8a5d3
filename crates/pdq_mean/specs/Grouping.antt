-- The groups of choices, each with the tallies of its choices.
use Rattle.std.specs.Prelude.{◌≡◌, ◌<◌, ◌≤◌, ◌++◌, ℕ, List, [], ◌∷◌, All, filter, length, map, slice_index_or}
use Rattle.pdq_value.specs.declared.cells.Cell.{Cell}
use Rattle.pdq_query.specs.declared.query.Item.{Item}
use Rattle.pdq_query.specs.Answer.{row_limit}
use Rattle.pdq_query.specs.Conditions.{Choice}
use Rattle.pdq_query.specs.Folds.{is_row, key_of}
use Rattle.pdq_query.specs.Queries.{QueryView}
use Rattle.pdq_mean.specs.declared.groups.Group.{Group}
use Rattle.pdq_mean.specs.Tallies.{AreTalliesOf, IsWithin, cell_of_tally}

-- it is the group of these choices: it has their number, and their tallies once there is one
pub record IsGroupOf (items : List Item) (cs : List Choice) (g : Group) : Type 0 where
  pub count : g.count ≡ length cs
  pub tallies : 0 < length cs → AreTalliesOf items cs g.tallies.items

-- the group of some choices becomes that of these and one more
abbrev pub GroupTakesIn : List Item → Choice → Group → Group → Type 0
GroupTakesIn items c old new = (cs : List Choice) → IsGroupOf items cs old → IsGroupOf items (cs ++ c ∷ []) new

-- it can take in one choice more
pub record HasRoom (g : Group) : Type 0 where
  pub choices : g.count < row_limit
  pub sums : 0 < g.count → All (IsWithin row_limit) g.tallies.items

-- the choices that have this key
abbrev pub with_key : QueryView → List Cell → List Choice → List Choice
with_key q key cs = filter (λ c. is_row (key_of q c) key) cs

-- one group for each key, of the choices that have it
pub record AreGroupsOf (q : QueryView) (keys : List (List Cell)) (cs : List Choice) (groups : List Group) : Type 0 where
  pub number : length groups ≡ length keys
  pub each : (k : ℕ) → k < length keys → (g : Group) → IsGroupOf q.items (with_key q (slice_index_or keys k []) cs) (slice_index_or groups k g)

-- it has a choice, and no more than the limit
pub record HasChoices (g : Group) : Type 0 where
  pub some : 1 ≤ g.count
  pub limit : g.count ≤ row_limit
  pub within : All (IsWithin g.count) g.tallies.items

-- what the tallies of a group say
abbrev pub row_of_group : Group → List Cell
row_of_group g = map (cell_of_tally g.count) g.tallies.items
