use Rattle.pdq_sql.proofs.Below.{below_at, form_below}
use Rattle.pdq_sql.proofs.reading.AstItemPart.read.Goals as goal

pub returns-clause-shorter : goal.returns-clause-shorter
returns-clause-shorter c = below_at _ _ _ (form_below c.args.tokens.now) c.in_ok-form.ensures.value
