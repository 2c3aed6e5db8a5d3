use Rattle.pdq_sql.proofs.Below.{below_at, column_below}
use Rattle.pdq_sql.proofs.reading.AstGroupPart.read.Goals as goal

pub returns-clause-shorter : goal.returns-clause-shorter
returns-clause-shorter c = below_at _ _ _ (column_below c.args.tokens.now) c.in_ok-column.ensures.value
