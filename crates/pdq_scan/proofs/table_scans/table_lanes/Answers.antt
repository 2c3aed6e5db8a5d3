use Rattle.std.proofs.Common.{◌+◌, ℕ, subst, sym, length, map}
use Rattle.pdq_exchange.specs.Roles.{Coming}
use Rattle.std.specs.Prelude.{option_map}
use Rattle.pdq_plan.specs.StepViews.{step_of}
use Rattle.pdq_scan.specs.Lanes.{AreFresh, all_told, given, lane_words}
use Rattle.pdq_scan.specs.Scans.{left_rows}
use Rattle.pdq_scan.specs.declared.fragment_scanner.FragmentScanner.{FragmentScanner}
use Rattle.pdq_scan.proofs.Columns.{fresh-more}
use Rattle.pdq_scan.proofs.table_scans.table_lanes.Goals as goal

pub loop-number-preserved : goal.loop-number-preserved
loop-number-preserved c =
    let a = c.args in
    let left : FragmentScanner → Coming = λ s. all_told (left_rows s.tests.items s.picker.picks.items (map (λ f. f.now.rows) s.fragments.items) s.at s.row) in
    let width : FragmentScanner → ℕ = λ s. length s.picker.picks.items in
    let comings : ℕ → Coming = λ i. all_told (given (option_map (λ p. p.now) a.picks) (lane_words a.stored.now a.plan.now (step_of a.step.now) a.scans i)) in
    subst (AreFresh left width c.match-picks.width (c.loop-number.number + 1) comings) (sym c.in-Ok.ensures.items)
    (fresh-more left width c.match-picks.width c.loop-number.number comings c.loop-number.lanes.items c.in_ok-lane.lane c.loop-number.invariant c.in_ok-lane.ensures)
