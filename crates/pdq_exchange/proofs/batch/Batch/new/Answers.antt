use Rattle.pdq_exchange.proofs.Rows.{none_is}
use Rattle.pdq_exchange.proofs.batch.Batch.new.Goals as goal

pub returns : goal.returns
returns c = none_is c.args.width c.in-Ok.words.items
