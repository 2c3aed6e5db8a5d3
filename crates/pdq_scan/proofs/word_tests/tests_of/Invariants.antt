use Rattle.std.proofs.Common.{take}
use Rattle.pdq_scan.specs.WordTests.{AreTestsOf}
use Rattle.pdq_scan.proofs.word_tests.tests_of.Given as goal

abbrev pub invariant-loop-filter : goal.invariant-loop-filter
invariant-loop-filter l = AreTestsOf l.dict (take l.filter-index l.filters) l.tests.items
