use Rattle.pdq_model.proofs.WrittenOrder.{order_is_written}
use Rattle.pdq_model.proofs.laws.orders_the_waiting.Goals as goal

pub returns : goal.returns
returns c = record { law = order_is_written }
