use Rattle.std.proofs.Common.{◌≡◌, ◌<◌, ◌+◌, ◌++◌, ◌∷◌, [], length, subst, sym, take, rules}
use Rattle.pdq_value.specs.Tables.{tables_of}
use Rattle.pdq_query.specs.Queries.{query_of}
use Rattle.pdq_mean.specs.Loops.{chosen}
use Rattle.pdq_mean.specs.Tallies.{AreTalliesOf}
use Rattle.pdq_mean.proofs.Tallying.{one-started}
use Rattle.pdq_mean.proofs.tallies.start_tallies.Goals as goal

pub loop-item-preserved : goal.loop-item-preserved
loop-item-preserved c =
    let q = query_of c.args.query.now in
    let choice = chosen (tables_of c.args.db.now) q c.args.choice.now in
    let i = c.loop-item.item-index in
    let seen = c.deref-item-items.result.now in
    let tallies = c.loop-item.tallies.items in
    let pushed : c.push.new.self.items ≡ tallies ++ c.start.result ∷ [] = search rules in
    let below : i < length seen = search rules in
    subst (AreTalliesOf (take (i + 1) q.items) (choice ∷ [])) (sym pushed)
    (one-started q.items seen c.deref-item-items.ensures.value (choice ∷ []) tallies c.start.result i _ below c.start.ensures.item c.start.ensures.first c.loop-item.invariant)
