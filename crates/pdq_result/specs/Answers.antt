-- The last rows of a run, and the answer that they give.
use Rattle.std.specs.Prelude.{◌≡◌, ℕ, ◌<◌, ◌≤◌, List, ℤ, [], flat_map, length, map, slice_index_or}
use Rattle.std.specs.List.{range_with_len}
use Rattle.std.specs.List.Sorted.{IsPermutation}
use Rattle.pdq_value.specs.Tables.{ShapeView, TableView}
use Rattle.pdq_dict.specs.Dictionary.{dictionary_of}
use Rattle.pdq_query.specs.Answer.{row_limit}
use Rattle.pdq_plan.specs.Plans.{PlanView, columns_of, order_of}
use Rattle.pdq_group.specs.Folds.{AreFoldable}
use Rattle.pdq_group.specs.Groups.{grouped_words}
use Rattle.pdq_exchange.specs.Routing.{owner_of}
use Rattle.pdq_owner.specs.Keepers.{KeptView}
use Rattle.pdq_eval.specs.Owners.{gathered, part}
use Rattle.pdq_eval.specs.Results.{folds_of, group_input}
use Rattle.pdq_eval.specs.Running.{all_running}
use Rattle.pdq_eval.specs.Laws.{IsOrderOf, shapes_of}

-- the rows that some owners keep, owner after owner
abbrev pub rows_kept : List KeptView → List (List ℤ)
rows_kept kept = flat_map (λ (k : KeptView). k.rows) kept

-- those of one of them
abbrev pub owner_rows : List KeptView → ℕ → List (List ℤ)
owner_rows kept j = slice_index_or (map (λ (k : KeptView). k.rows) kept) j []

-- the plan is of a query of these tables, which have these texts and shapes
pub record IsPlanOver (texts : List (List ℕ)) (shapes : List ShapeView) (p : PlanView) (tables : List TableView) : Type 0 where
  pub order : IsOrderOf tables p.query (order_of p)
  pub texts_are : texts ≡ dictionary_of tables
  pub shapes_are : shapes ≡ shapes_of tables

-- the running rows after all tables, in any order, within the limit
pub record AreRunning (tables : List TableView) (p : PlanView) (ws : List (List ℤ)) : Type 0 where
  pub all : IsPermutation (all_running tables p.query (order_of p)) ws
  pub few : length ws ≤ row_limit

-- the groups of the running rows, as so many owners put them: the words that the rows hand to the groupers are sent in any order, and each owner puts
-- the groups of its part of them
pub record AreGroups (tables : List TableView) (p : PlanView) (groups : List (List ℤ)) : Type 0 where
  pub ws : List (List ℤ)
  pub running : AreRunning tables p ws
  pub sent : List (List ℤ)
  pub inputs : IsPermutation (map (group_input (columns_of p) p.query) ws) sent
  pub owners : ℕ
  pub some_owner : 0 < owners
  pub out : ℕ → List (List ℤ)
  pub puts : (j : ℕ) → j < owners → let mine = part (owner_of (range_with_len 0 (length p.query.groups)) owners) j sent in
      AreFoldable (folds_of p.query.items) (length p.query.groups) mine → IsPermutation (grouped_words (length p.query.groups) (folds_of p.query.items) mine) (out j)
  pub together : IsPermutation (gathered owners out) groups
