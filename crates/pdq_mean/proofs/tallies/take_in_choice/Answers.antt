use Rattle.std.proofs.Common.{◌<◌, arith, length, rules}
use Rattle.pdq_value.specs.Tables.{tables_of}
use Rattle.pdq_query.specs.Queries.{query_of}
use Rattle.pdq_mean.specs.Loops.{chosen}
use Rattle.pdq_mean.proofs.Tallying.{left-fewer, taken-more, taken_in}
use Rattle.pdq_mean.proofs.tallies.take_in_choice.Goals as goal

pub loop-tally-preserved : goal.loop-tally-preserved
loop-tally-preserved c =
    let choice = chosen (tables_of c.args.db.now) (query_of c.args.query.now) c.args.choice.now in
    let i = c.loop-tally.tally-index in
    let now = c.loop-tally.tallies in
    let k = c.loop-tally.invariant in
    let below : i < length now = search rules in
    record {
      taken = taken-more choice c.args.tallies.now now i c.take_in.result below k.left k.taken _ c.take_in.ensures;
      left = left-fewer choice c.args.tallies.now now i c.take_in.result below k.left;
    }

pub returns : goal.returns
returns c =
    let choice = chosen (tables_of c.args.db.now) (query_of c.args.query.now) c.args.choice.now in
    let k = c.loop-tally.invariant in
    taken_in choice c.args.tallies.now c.loop-tally.tallies c.loop-tally.auto.tallies (λ j below d. k.taken j (omega (arith, c.loop-tally-test.false)) d)
