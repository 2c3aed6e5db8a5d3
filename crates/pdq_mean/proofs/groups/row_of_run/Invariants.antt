use Rattle.std.proofs.Common.{◌+◌, take}
use Rattle.pdq_value.specs.Tables.{tables_of}
use Rattle.pdq_query.specs.Queries.{query_of}
use Rattle.pdq_mean.specs.Groups.{choices_of}
use Rattle.pdq_mean.specs.Tallies.{AreTalliesOf}
use Rattle.pdq_mean.proofs.groups.row_of_run.Given as goal

-- the tallies of the choices so far
abbrev pub invariant-loop-choice : goal.invariant-loop-choice
invariant-loop-choice l = AreTalliesOf l.query.items.items (choices_of (tables_of l.db) (query_of l.query) (take (l.choice-index + 1) l.fn.run)) l.tallies.items
