use Rattle.pdq_value.specs.Tables.{shape_of, table_of}
use Rattle.pdq_table.proofs.Samples.{one_table}
use Rattle.pdq_table.proofs.storing_tests.tables.Goals as goal

pub returns : goal.returns
returns c =
    let rows = rw c.deref.ensures.value at c.in_ok-rows.ensures.rows in
    record {
      tables = rw c.in_ok-tables.ensures.items (one_table (shape_of c.args.shape.now) (table_of (record { shape = c.in-Ok.shape; rows = c.in_ok-rows.rows }))
          c.in-Ok.ensures.value c.requires.shape rows c.in_ok-rows.ensures.few);
    }
