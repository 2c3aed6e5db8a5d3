use Rattle.pdq_value.specs.Tables.{shape_of}
use Rattle.pdq_table.proofs.Stores.{decoded_table}
use Rattle.pdq_table.proofs.stored_table.StoredTable.to_table.Goals as goal

pub returns : goal.returns
returns c =
    let rows = rw (c.deref.ensures.value, c.deref-2.ensures.value, c.deref-3.ensures.value) at c.in_ok-decode_rows.ensures.value in
    record {
      value = decoded_table c.args.dict.now c.args.self.now (shape_of c.in_ok-copy_shape.field-0) c.in_ok-decode_rows.field-0.items c.in_ok-copy_shape.ensures.value c.requires.spots rows;
    }
