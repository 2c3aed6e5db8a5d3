use Rattle.pdq_ask.proofs.NotStopped.{not_stopped}
use Rattle.pdq_ask.proofs.answering.answer_alone.Goals as goal

pub returns-clause-not_stopped : goal.returns-clause-not_stopped
returns-clause-not_stopped g c = not_stopped _ 0 c.evaluate-region.ensures.stopped
