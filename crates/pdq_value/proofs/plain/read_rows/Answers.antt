use Rattle.std.proofs.Common.{◌≡◌, ◌∙◌, ◌<◌, ap, sym, arith, length, inr, Err}
use Rattle.std.specs.Prelude.{nat_lt, true}
use Rattle.std.proofs.lemmas.Bool.Decides.{nat_tests}
use Rattle.pdq_value.specs.declared.loading.LoadWhy.TheVariants.{TooManyRows}
use Rattle.pdq_value.specs.PlainTable.{fault}
use Rattle.pdq_value.proofs.LineCuts.{some_line}
use Rattle.pdq_value.proofs.RowReads.{one_too_many}
use Rattle.pdq_value.proofs.plain.read_rows.Goals as goal

pub returns-else-is_empty-2-clause-refused : goal.returns-else-is_empty-2-clause-refused
returns-else-is_empty-2-clause-refused c =
    let some : 0 < length c.loop-row_no.unread.now = grind (arith, c.is_empty-2.ensures, c.if-is_empty-2.false) in
    let t = some_line c.loop-row_no.unread.now some in
    let n : c.loop-row_no.row_no ≡ 2000001 = omega (arith, c.loop-row_no-test.false, c.loop-row_no.auto.row_no-end) in
    let many : nat_lt 2000000 c.loop-row_no.row_no ≡ true = grind (arith, nat_tests, n) in
    inr (one_too_many _ _ _ _ _ _ _ c.loop-row_no.invariant.so_far t.2 many ∙ ap (λ k. Err (fault TooManyRows k 0)) n ∙ ap Err (sym c.fault.ensures.value))
