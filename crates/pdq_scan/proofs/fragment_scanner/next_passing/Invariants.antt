use Rattle.std.proofs.Common.{◌≡◌, drop, filter}
use Rattle.pdq_scan.specs.WordTests.{all_passed}
use Rattle.pdq_scan.proofs.fragment_scanner.next_passing.Given as goal

abbrev pub invariant-loop-i : goal.invariant-loop-i
invariant-loop-i l = filter (all_passed l.tests) (drop l.i l.fragment.rows) ≡ filter (all_passed l.tests) (drop l.from l.fragment.rows)
