use Rattle.std.proofs.Common.{◌<◌, subst, sym, refl, length, map, ℕ, List, ℤ, Bor}
use Rattle.pdq_table.specs.declared.fragment.Fragment.{Fragment}
use Rattle.pdq_scan.specs.ScanLaws.{left-coming}
use Rattle.pdq_scan.specs.Scans.{left_rows}
use Rattle.pdq_scan.proofs.Scanning.{some-left}
use Rattle.pdq_scan.proofs.fragment_scanner.FragmentScannerScanner.fill.Goals as goal

pub returns-then-not-seek-clause-coming : goal.returns-then-not-seek-clause-coming
returns-then-not-seek-clause-coming c =
    let s = c.args.self.now in
    left-coming s.tests.items s.picker.picks.items (map (λ (f : Bor Fragment). f.now.rows) s.fragments.items) s.at s.row

pub returns-then-not-put_next-clause-coming : goal.returns-then-not-put_next-clause-coming
returns-then-not-put_next-clause-coming c =
    let s = c.args.self.now in
    left-coming s.tests.items s.picker.picks.items (map (λ (f : Bor Fragment). f.now.rows) s.fragments.items) s.at s.row

pub returns-then-not-put_next-clause-more : goal.returns-then-not-put_next-clause-more
returns-then-not-put_next-clause-more c =
    let s = c.seek.new.self in
    let n = c.put_next.new.self in
    let e = c.put_next.ensures in
    let full = e.full c.if-not-put_next.true in
    let rows : Bor Fragment → List (List ℤ) = λ f. f.now.rows in
    let some = some-left s.tests.items s.picker.picks.items (map rows s.fragments.items) s.at s.row (c.seek.ensures.found c.if-not-seek.false) in (
      λ there.
          subst (λ ts. 0 < length (left_rows ts n.picker.picks.items (map rows n.fragments.items) n.at n.row)) (sym e.tests)
          (subst (λ cs. 0 < length (left_rows s.tests.items cs (map rows n.fragments.items) n.at n.row)) (sym e.columns)
          (subst (λ fs. 0 < length (left_rows s.tests.items s.picker.picks.items (map rows fs) n.at n.row)) (sym e.fragments)
          (subst (λ (at : ℕ). 0 < length (left_rows s.tests.items s.picker.picks.items (map rows s.fragments.items) at n.row)) (sym full.1)
          (subst (λ (row : ℕ). 0 < length (left_rows s.tests.items s.picker.picks.items (map rows s.fragments.items) s.at row)) (sym full.2) some)))),
      λ there. refl,
    )
