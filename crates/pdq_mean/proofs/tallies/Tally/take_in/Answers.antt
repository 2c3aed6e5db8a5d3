use Rattle.std.proofs.Common.{subst, sym}
use Rattle.pdq_value.specs.Tables.{tables_of}
use Rattle.pdq_query.specs.Queries.{query_of}
use Rattle.pdq_mean.specs.declared.tallies.Tally.TheVariants.{Sum, Average, Least, Greatest}
use Rattle.pdq_mean.specs.Loops.{chosen}
use Rattle.pdq_mean.specs.Tallies.{TakesIn}
use Rattle.pdq_mean.proofs.Tallying.{average-takes_in, greatest-takes_in, least-takes_in, sum-takes_in}
use Rattle.pdq_mean.proofs.tallies.Tally.take_in.Goals as goal

pub returns-in-Sum : goal.returns-in-Sum
returns-in-Sum c =
    let choice = chosen (tables_of c.args.db.now) (query_of c.args.query.now) c.args.choice.now in
    let n = c.number_in in
    let s = c.sum in
    subst (λ t. TakesIn choice t (Sum c.in-Sum.at s.result)) (sym c.in-Sum.is)
    (sum-takes_in c.in-Sum.at choice c.in-Sum.total n.result s.result n.ensures.number n.ensures.scale n.ensures.rows s.ensures.unscaled s.ensures.scale s.ensures.rows)

pub returns-in-Average : goal.returns-in-Average
returns-in-Average c =
    let choice = chosen (tables_of c.args.db.now) (query_of c.args.query.now) c.args.choice.now in
    let n = c.number_in-in-Average in
    let s = c.sum-in-Average in
    subst (λ t. TakesIn choice t (Average c.in-Average.at s.result)) (sym c.in-Average.is)
    (average-takes_in c.in-Average.at choice c.in-Average.total n.result s.result n.ensures.number n.ensures.scale n.ensures.rows s.ensures.unscaled s.ensures.scale s.ensures.rows)

pub returns-in-Least : goal.returns-in-Least
returns-in-Least c =
    let choice = chosen (tables_of c.args.db.now) (query_of c.args.query.now) c.args.choice.now in
    subst (λ t. TakesIn choice t (Least c.in-Least.at c.lesser.result)) (sym c.in-Least.is)
    (least-takes_in c.in-Least.at choice c.in-Least.least c.cell_in.result c.lesser.result c.cell_in.ensures.value c.lesser.ensures.value)

pub returns-in-Greatest : goal.returns-in-Greatest
returns-in-Greatest c =
    let choice = chosen (tables_of c.args.db.now) (query_of c.args.query.now) c.args.choice.now in
    let cell = c.cell_in-in-Greatest in
    subst (λ t. TakesIn choice t (Greatest c.in-Greatest.at c.greater.result)) (sym c.in-Greatest.is)
    (greatest-takes_in c.in-Greatest.at choice c.in-Greatest.greatest cell.result c.greater.result cell.ensures.value c.greater.ensures.value)
