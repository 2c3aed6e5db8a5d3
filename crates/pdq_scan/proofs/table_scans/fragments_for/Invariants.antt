use Rattle.std.proofs.Common.{◌≡◌, ◌%◌, filter, map}
use Rattle.std.specs.List.{range_with_len}
use Rattle.pdq_plan.specs.Plans.{is_read}
use Rattle.pdq_eval.specs.Owners.{part}
use Rattle.pdq_scan.specs.Lanes.{coded_rows}
use Rattle.pdq_scan.proofs.table_scans.fragments_for.Given as goal

abbrev pub invariant-loop-fragment : goal.invariant-loop-fragment
invariant-loop-fragment l = map (λ f. f.now.rows) l.fragments.items ≡ map (coded_rows l.fn.stored l.fn.table) (filter (is_read l.fn.plan.left l.fn.place) (part (λ f. f % l.fn.scans) l.fn.number (range_with_len 0 l.fragment)))
