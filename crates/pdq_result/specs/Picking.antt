-- The picks that make a grouper's row of a running row.
use Rattle.std.specs.Prelude.{List, [], ◌∷◌, ◌++◌, flat_map, map}
use Rattle.pdq_query.specs.declared.query.At.{At}
use Rattle.pdq_query.specs.declared.query.Item.{Item}
use Rattle.pdq_query.specs.declared.query.Item.TheVariants as item
use Rattle.pdq_query.specs.Queries.{QueryView}
use Rattle.pdq_plan.specs.PlanSteps.{column_place}
use Rattle.pdq_eval.specs.declared.picks.Pick.{Pick}
use Rattle.pdq_eval.specs.declared.picks.Pick.TheVariants.{Word, Zero}

-- the word of a column
abbrev pub column_pick : List At → At → Pick
column_pick cols a = Word (column_place cols a)

-- the word of an item's fold; a count reads none
abbrev pub item_picks : List At → Item → List Pick
item_picks cols (item.Plain a) = []
item_picks cols (item.Sum a) = column_pick cols a ∷ []
item_picks cols (item.Avg a) = column_pick cols a ∷ []
item_picks cols (item.Min a) = column_pick cols a ∷ []
item_picks cols (item.Max a) = column_pick cols a ∷ []
item_picks cols item.Count = Zero ∷ []

-- the key, and then a word for each fold
abbrev pub group_picks : List At → QueryView → List Pick
group_picks cols q = map (column_pick cols) q.groups ++ flat_map (item_picks cols) q.items
