use Rattle.pdq_exchange.proofs.Rows.{none_is}
use Rattle.pdq_exchange.proofs.batch.Batch.clear.Goals as goal

pub returns : goal.returns
returns c = rw (← c.self.view_is) (none_is c.self.inside.width c.self.inside.words.items)
