use Rattle.std.proofs.Common.{◌∙◌}
use Rattle.pdq_value.specs.Tables.{tables_of}
use Rattle.pdq_query.specs.Queries.{query_of}
use Rattle.pdq_mean.specs.Loops.{chosen}
use Rattle.pdq_mean.proofs.Tallying.{total-one}
use Rattle.pdq_mean.proofs.Values.{greatest-alone, least-alone}
use Rattle.pdq_mean.proofs.tallies.Tally.start.Goals as goal

pub returns-in-Sum-clause-first : goal.returns-in-Sum-clause-first
returns-in-Sum-clause-first c =
    let choice = chosen (tables_of c.args.db.now) (query_of c.args.query.now) c.args.choice.now in
    let n = c.number_in in
    total-one c.in-Sum.at choice n.result n.ensures.number n.ensures.scale n.ensures.rows

pub returns-in-Avg-clause-first : goal.returns-in-Avg-clause-first
returns-in-Avg-clause-first c =
    let choice = chosen (tables_of c.args.db.now) (query_of c.args.query.now) c.args.choice.now in
    let n = c.number_in-in-Avg in
    total-one c.in-Avg.at choice n.result n.ensures.number n.ensures.scale n.ensures.rows

pub returns-in-Min-clause-first : goal.returns-in-Min-clause-first
returns-in-Min-clause-first c = c.cell_in-in-Min.ensures.value ∙ least-alone _

pub returns-in-Max-clause-first : goal.returns-in-Max-clause-first
returns-in-Max-clause-first c = c.cell_in-in-Max.ensures.value ∙ greatest-alone _
