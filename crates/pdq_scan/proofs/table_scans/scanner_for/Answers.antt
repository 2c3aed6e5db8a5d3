use Rattle.std.proofs.Common.{◌≡◌, ◌<◌, ◌%◌, ◌∙◌, ap, filter, length, map, subst, sym, Bor, List, ℕ, ℤ}
use Rattle.std.specs.Prelude.{option_map}
use Rattle.pdq_dict.specs.Dictionary.{dictionary_of}
use Rattle.pdq_plan.specs.StepViews.{step_of}
use Rattle.pdq_table.specs.declared.fragment.Fragment.{Fragment}
use Rattle.pdq_table.specs.Laws.{fragment_numbers}
use Rattle.pdq_plan.specs.Plans.{is_read}
use Rattle.pdq_eval.specs.Owners.{part}
use Rattle.pdq_scan.specs.Lanes.{all_told, coded_rows, given_width, lane_fragments, number_at}
use Rattle.pdq_scan.specs.Scans.{columns_for, left_rows}
use Rattle.pdq_scan.specs.WordTests.{AreTestsOf}
use Rattle.pdq_scan.proofs.Columns.{columns-width, scanner-left}
use Rattle.pdq_scan.proofs.LaneRows.{number-within}
use Rattle.pdq_scan.proofs.table_scans.scanner_for.Goals as goal

pub fragments_for-requires-clause-table : goal.fragments_for-requires-clause-table
fragments_for-requires-clause-table c =
    let fits = c.requires.fits in
    let n = length c.args.stored.now.schema.shapes in
    subst (λ (t : ℕ). t < n) (sym (c.number_at-table.ensures ∙ ap (λ q. number_at q c.place-place.result) c.query.ensures))
    (number-within c.args.plan.now.query.tables n c.place-place.result fits.some_table fits.tables)

pub returns-clause-left : goal.returns-clause-left
returns-clause-left c =
    let stored = c.args.stored.now in
    let plan = c.args.plan.now in
    let t = step_of c.args.step.now in
    let picks = option_map (λ p. p.now) c.args.picks in
    let rows : Bor Fragment → List (List ℤ) = λ f. f.now.rows in
    let s = c.in_ok-scanner.scanner in
    let e = c.in_ok-scanner.ensures in
    let fragments = c.in_ok-fragments.fragments.items in
    let tests = c.in_ok-tests.tests.items in
    let columns = c.in_ok-columns.columns.items in
    let fs = lane_fragments stored plan t c.args.scans c.args.number in
    let table : c.number_at-table.result ≡ number_at plan.query t.place = c.number_at-table.ensures ∙ (ap (λ q. number_at q c.place-place.result) c.query.ensures ∙ ap (number_at plan.query) c.place-place.ensures) in
    let read : map rows fragments ≡ map (coded_rows stored (number_at plan.query t.place)) fs =
    subst (λ (n : ℕ). map rows fragments ≡ map (coded_rows stored n) (filter (is_read plan.left t.place) (part (λ f. f % c.args.scans) c.args.number (fragment_numbers stored n)))) table
    (subst (λ (place : ℕ). map rows fragments ≡ map (coded_rows stored c.number_at-table.result) (filter (is_read plan.left place) (part (λ f. f % c.args.scans) c.args.number (fragment_numbers stored c.number_at-table.result)))) c.place-place.ensures c.in_ok-fragments.ensures) in
    let asked : AreTestsOf (dictionary_of stored.tables) t.filters tests =
    subst (λ texts. AreTestsOf texts t.filters tests) c.dict.ensures.value (subst (λ filters. AreTestsOf c.dict.result.now filters tests) c.filters.ensures c.in_ok-tests.ensures.tests) in
    let made : columns ≡ columns_for t.kept picks = c.in_ok-columns.ensures ∙ ap (λ kept. columns_for kept picks) c.kept.ensures in
    let fresh : left_rows s.tests.items s.picker.picks.items (map rows s.fragments.items) s.at s.row ≡ left_rows tests columns (map rows fragments) 0 0 =
    ap (λ ts. left_rows ts.items s.picker.picks.items (map rows s.fragments.items) s.at s.row) e.tests
    ∙ (ap (λ cs. left_rows tests cs (map rows s.fragments.items) s.at s.row) e.columns
    ∙ (ap (λ l. left_rows tests columns (map rows l) s.at s.row) e.fragments
    ∙ (ap (λ (at : ℕ). left_rows tests columns (map rows fragments) at s.row) e.at
    ∙ ap (λ (row : ℕ). left_rows tests columns (map rows fragments) 0 row) e.row))) in
    ap all_told (fresh ∙ scanner-left (dictionary_of stored.tables) t.filters t.kept picks (coded_rows stored (number_at plan.query t.place)) fs tests columns (map rows fragments) asked made read)

pub returns-clause-width : goal.returns-clause-width
returns-clause-width c =
    let picks = option_map (λ p. p.now) c.args.picks in
    ap (λ l. length l) (c.in_ok-scanner.ensures.columns ∙ c.in_ok-columns.ensures)
    ∙ (columns-width c.kept.result.now picks ∙ ap (λ kept. given_width picks (length kept)) c.kept.ensures)
