use Rattle.std.proofs.Common.{◌∙◌, sym, []}
use Rattle.std.proofs.lemmas.Option.{get_or_from_slice_get, slice_get_within}
use Rattle.pdq_scan.specs.WordTests.{all_passed}
use Rattle.pdq_scan.proofs.Scanning.{skip-row}
use Rattle.pdq_scan.proofs.fragment_scanner.next_passing.Goals as goal

pub loop-i-preserved : goal.loop-i-preserved
loop-i-preserved c =
    let rows = c.args.fragment.now.rows in
    let i = c.loop-i.i in
    let row = c.row.result.now in
    sym (skip-row (all_passed c.args.tests.now) rows i row (slice_get_within rows i row c.row.ensures.value) (get_or_from_slice_get rows i row [] c.row.ensures.value) (sym c.all_passed.ensures.passed ∙ c.if-all_passed.false))
    ∙ c.loop-i.invariant
