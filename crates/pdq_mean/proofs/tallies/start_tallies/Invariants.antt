use Rattle.std.proofs.Common.{[], ◌∷◌, take}
use Rattle.pdq_value.specs.Tables.{tables_of}
use Rattle.pdq_query.specs.Queries.{query_of}
use Rattle.pdq_mean.specs.Loops.{chosen}
use Rattle.pdq_mean.specs.Tallies.{AreTalliesOf}
use Rattle.pdq_mean.proofs.tallies.start_tallies.Given as goal

abbrev pub invariant-loop-item : goal.invariant-loop-item
invariant-loop-item l = AreTalliesOf (take l.item-index l.query.items.items) (chosen (tables_of l.db) (query_of l.query) l.choice ∷ []) l.tallies.items
