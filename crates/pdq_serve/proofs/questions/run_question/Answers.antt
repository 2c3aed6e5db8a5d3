use Rattle.std.proofs.Common.{◌≡◌, ◌∙◌, ℕ, length}
use Rattle.pdq_query.specs.Queries.{query_of}
use Rattle.pdq_serve.proofs.Evaluating.{run_answered, run_failed, run_stopped, told_after}
use Rattle.pdq_serve.proofs.questions.run_question.Goals as goal

pub returns-clause-tell : goal.returns-clause-tell
returns-clause-tell g c = told_after g.Sp.Spill.blocks g.Sp.Spill.faults g.Sp.Spill.puts c.args.stores.now.items c.evaluate-region.new.stores.items c.evaluate-region.ensures.stores

pub returns-clause-answer : goal.returns-clause-answer
returns-clause-answer g c = run_answered g.Sp.Spill.blocks c.args.stores.now.items c.args.stored.now (query_of c.args.question.now.query) c.evaluate-region.result.1 c.outcome_of-outcome.result c.outcome_of-outcome.ensures.value c.evaluate-region.ensures.answer

pub returns-clause-stopped : goal.returns-clause-stopped
returns-clause-stopped g c step is = c.evaluate-region.ensures.stopped step (run_stopped c.evaluate-region.result.1 c.outcome_of-outcome.result step c.outcome_of-outcome.ensures.value is)

pub returns-clause-failed : goal.returns-clause-failed
returns-clause-failed g c fails = c.evaluate-region.ensures.spill (run_failed c.evaluate-region.result.1 c.outcome_of-outcome.result c.outcome_of-outcome.ensures.value fails)
