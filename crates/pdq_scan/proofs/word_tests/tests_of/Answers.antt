use Rattle.std.proofs.Common.{◌+◌, ◌∷◌, ◌++◌, [], take, get_or, sym, subst}
use Rattle.std.proofs.lemmas.List.{take_more}
use Rattle.pdq_scan.specs.WordTests.{AreTestsOf, IsTestOf}
use Rattle.pdq_scan.proofs.Tested.{zip_push}
use Rattle.pdq_scan.proofs.word_tests.tests_of.Goals as goal

pub loop-filter-preserved : goal.loop-filter-preserved
loop-filter-preserved c =
    let i = c.loop-filter.filter-index in
    let filters = c.args.filters.now in
    let tests = c.loop-filter.tests.items in
    subst (λ l. AreTestsOf c.args.dict.now (take (i + 1) filters) l) (sym c.in-Ok.ensures.items)
    (subst (λ l. AreTestsOf c.args.dict.now l (tests ++ c.test_of.result ∷ [])) (sym (take_more filters i c.filter-item.result c.loop-filter-test.true))
    (zip_push (IsTestOf c.args.dict.now) (take i filters) tests (get_or filters i c.filter-item.result) c.test_of.result c.loop-filter.invariant (subst (λ f. IsTestOf c.args.dict.now f c.test_of.result) c.filter-item.is c.test_of.ensures.test)))
