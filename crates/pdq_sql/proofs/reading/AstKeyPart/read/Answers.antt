use Rattle.pdq_sql.proofs.Below.{below_at, order_below, direction_below}
use Rattle.pdq_sql.proofs.reading.AstKeyPart.read.Goals as goal

pub returns-clause-shorter : goal.returns-clause-shorter
returns-clause-shorter c = below_at _ _ _ (direction_below _ _ (below_at _ _ _ (order_below c.args.tokens.now) c.in_ok-order.ensures.value)) c.in_ok-down.ensures.value
