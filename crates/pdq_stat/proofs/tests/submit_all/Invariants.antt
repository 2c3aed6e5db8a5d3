use Rattle.std.proofs.Common.{IsTrue}
use Rattle.pdq_model.specs.Step.{is_open}
use Rattle.pdq_stat.proofs.tests.submit_all.Given as goal

abbrev pub invariant-loop-priority : goal.invariant-loop-priority
invariant-loop-priority l = IsTrue (is_open l.manager.state 1)
