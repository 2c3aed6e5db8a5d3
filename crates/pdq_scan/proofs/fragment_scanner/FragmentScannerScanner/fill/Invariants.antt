use Rattle.std.proofs.Common.{◌≡◌, ◌++◌, length, map}
use Rattle.pdq_scan.specs.Scans.{left_rows}
use Rattle.pdq_scan.proofs.fragment_scanner.FragmentScannerScanner.fill.Given as goal

abbrev pub invariant-loop-self : goal.invariant-loop-self
invariant-loop-self l = record {
  fragments : l.self.fragments.items ≡ l.initial.self.fragments.items;
  tests : l.self.tests.items ≡ l.initial.self.tests.items;
  columns : l.self.picker.picks.items ≡ l.initial.self.picker.picks.items;
  batch_width : l.batch.width ≡ length l.self.picker.picks.items;
  coming : left_rows l.initial.self.tests.items l.initial.self.picker.picks.items (map (λ f. f.now.rows) l.initial.self.fragments.items) l.initial.self.at l.initial.self.row ≡ l.batch.rows ++ left_rows l.self.tests.items l.self.picker.picks.items (map (λ f. f.now.rows) l.self.fragments.items) l.self.at l.self.row;
}

abbrev pub decreases-loop-self : goal.decreases-loop-self
decreases-loop-self l = length (left_rows l.self.tests.items l.self.picker.picks.items (map (λ f. f.now.rows) l.self.fragments.items) l.self.at l.self.row)
