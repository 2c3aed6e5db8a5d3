use Rattle.std.proofs.Common.{length, take}
use Rattle.pdq_value.specs.Tables.{tables_of}
use Rattle.pdq_query.specs.Queries.{query_of}
use Rattle.pdq_query.specs.Folds.{keys_of}
use Rattle.pdq_mean.specs.Groups.{choices_of}
use Rattle.pdq_mean.specs.Grouping.{AreGroupsOf}
use Rattle.pdq_mean.proofs.groups.groups_of.Given as goal

-- the groups of the choices so far
abbrev pub invariant-loop-choice : goal.invariant-loop-choice
invariant-loop-choice l =
    let q = query_of l.query in
    let choices = choices_of (tables_of l.db) q in
    AreGroupsOf q (keys_of q (choices l.choices)) (choices (take (length l.yielded) l.choices)) l.groups.items
