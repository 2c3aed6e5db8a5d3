use Rattle.pdq_answer.proofs.ToldRuns.{on_ok, printable, told_had, told_stop}
use Rattle.pdq_answer.proofs.evaluating.evaluate.Goals as goal

pub returns-in-Ok-clause-cleared : goal.returns-in-Ok-clause-cleared
returns-in-Ok-clause-cleared g c = on_ok c.evaluation_of.result c.run-region.ensures.cleared

pub returns-in-Ok-clause-printable : goal.returns-in-Ok-clause-printable
returns-in-Ok-clause-printable g c = printable c.run-region.result.1 c.evaluation_of.result c.evaluation_of.ensures.same c.run-region.ensures.scales

pub returns-in-Ok-clause-asked : goal.returns-in-Ok-clause-asked
returns-in-Ok-clause-asked g c = told_had c.run-region.result.1 c.evaluation_of.result c.evaluation_of.ensures.same c.run-region.ensures.asked

pub returns-in-Ok-clause-stopped : goal.returns-in-Ok-clause-stopped
returns-in-Ok-clause-stopped g c = λ step is. c.run-region.ensures.stopped step (told_stop c.run-region.result.1 c.evaluation_of.result step c.evaluation_of.ensures.same is)
