use Rattle.std.proofs.Common.{◌≡◌, drop, map}
use Rattle.pdq_value.specs.Cells.{row_cmp}
use Rattle.pdq_value.specs.Tables.{tables_of}
use Rattle.pdq_query.specs.Queries.{query_of}
use Rattle.pdq_query.specs.Conditions.{cell_in}
use Rattle.pdq_mean.specs.Loops.{chosen}
use Rattle.pdq_mean.proofs.group_columns.compare_columns.Given as goal

-- the cells so far are equal
abbrev pub invariant-loop-at : goal.invariant-loop-at
invariant-loop-at l =
    let a = chosen (tables_of l.db) (query_of l.query) l.a in
    let b = chosen (tables_of l.db) (query_of l.query) l.b in
    row_cmp (map (cell_in a) l.columns) (map (cell_in b) l.columns) ≡ row_cmp (map (cell_in a) (drop l.at-index l.columns)) (map (cell_in b) (drop l.at-index l.columns))
