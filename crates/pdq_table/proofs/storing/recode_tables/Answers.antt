use Rattle.std.proofs.Common.{◌<◌, add-one, arith, length, subst}
use Rattle.pdq_table.specs.declared.stored_table.StoredTable.{StoredTable}
use Rattle.pdq_table.specs.Layout.{IsRecoded}
use Rattle.pdq_table.proofs.Recoding.{changed-all, changed-next, changed-there}
use Rattle.pdq_table.proofs.storing.recode_tables.Goals as goal

pub loop-table-preserved : goal.loop-table-preserved
loop-table-preserved c =
    let recodes = IsRecoded c.args.codes.now in
    let old = c.args.tables.now in
    let new = c.loop-table.tables in
    let i = c.loop-table.table-index in
    let t = c.table-item.result in
    let less : i < length old = omega arith in
    rw add-one (changed-next recodes i old new c.recode.new.self t c.loop-table.invariant less
    (subst (λ (u : StoredTable). IsRecoded c.args.codes.now u c.recode.new.self) (changed-there recodes i old new t c.loop-table.invariant) c.recode.ensures.recoded))

pub returns : goal.returns
returns c = record { recoded = changed-all (IsRecoded c.args.codes.now) c.loop-table.table-index c.args.tables.now c.loop-table.tables (omega (arith, c.loop-table-test.false)) c.loop-table.invariant }
