use Rattle.std.proofs.Common.{add-one}
use Rattle.pdq_table.proofs.Samples.{row_more}
use Rattle.pdq_table.proofs.storing_tests.row.Goals as goal

pub loop-column-preserved : goal.loop-column-preserved
loop-column-preserved c =
    rw (add-one, c.in_ok-push.ensures.items) (row_more c.args.columns.now c.loop-column.column-index c.loop-column.values.items c.column-item.result
    c.in_ok-value.value c.loop-column-test.true c.column-item.is c.loop-column.invariant c.in_ok-value.ensures)
