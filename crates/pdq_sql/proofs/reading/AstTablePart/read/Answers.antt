use Rattle.pdq_sql.proofs.Below.{below_at, name_below}
use Rattle.pdq_sql.proofs.reading.AstTablePart.read.Goals as goal

pub returns-clause-shorter : goal.returns-clause-shorter
returns-clause-shorter c = below_at _ _ _ (name_below c.args.tokens.now) c.in_ok-name.ensures.value
