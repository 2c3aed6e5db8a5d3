use Rattle.std.proofs.Common.{length, map}
use Rattle.std.specs.Prelude.{option_map}
use Rattle.pdq_plan.specs.StepViews.{step_of}
use Rattle.pdq_scan.specs.Lanes.{AreFresh, all_told, given, lane_words}
use Rattle.pdq_scan.specs.Scans.{left_rows}
use Rattle.pdq_scan.proofs.table_scans.table_lanes.Given as goal

abbrev pub invariant-loop-number : goal.invariant-loop-number
invariant-loop-number l = AreFresh (λ s. all_told (left_rows s.tests.items s.picker.picks.items (map (λ f. f.now.rows) s.fragments.items) s.at s.row)) (λ s. length s.picker.picks.items) l.width l.number (λ i. all_told (given (option_map (λ p. p.now) l.fn.picks) (lane_words l.fn.stored l.fn.plan (step_of l.fn.step) l.fn.scans i))) l.lanes.items
