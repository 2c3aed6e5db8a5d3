use Rattle.std.proofs.Common.{◌<◌, arith, length}
use Rattle.pdq_table.proofs.Stores.{as_many, few_spots}
use Rattle.pdq_table.proofs.storing.Stored.rows.Goals as goal

pub overflow_cast-result : goal.overflow_cast-result
overflow_cast-result c =
    let table = rw (← c.self.view_is) at c.requires.table in
    let inside : c.args.table < length c.self.inside.tables.items = omega (arith, table, as_many c.self.inside.dict c.self.inside.schema c.self.inside.tables.items c.self.invariant.stored) in
    omega (arith, few_spots c.self.inside.dict c.self.inside.schema c.self.inside.tables.items c.self.invariant.stored c.args.table c.index-table.result.now inside c.index-table.ensures)
