use Rattle.pdq_sql.proofs.Below.{below_at, test_below}
use Rattle.pdq_sql.proofs.reading.AstCondPart.read.Goals as goal

pub returns-clause-shorter : goal.returns-clause-shorter
returns-clause-shorter c = below_at _ _ _ (test_below c.args.tokens.now) c.in_ok-test.ensures.value
