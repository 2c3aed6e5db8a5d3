use Rattle.std.proofs.Common.{sym}
use Rattle.pdq_exchange.proofs.Rows.{length-rows_of}
use Rattle.pdq_exchange.proofs.batch.Batch.rows.Goals as goal

pub returns-clause-value : goal.returns-clause-value
returns-clause-value c = rw (← c.self.view_is) (sym (length-rows_of c.self.inside.width c.self.inside.rows c.self.inside.words.items))
