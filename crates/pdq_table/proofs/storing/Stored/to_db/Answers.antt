use Rattle.std.proofs.lemmas.List.Elements.{All-same}
use Rattle.pdq_table.specs.Layout.{HoldsRows}
use Rattle.pdq_table.proofs.Stores.{rows_held}
use Rattle.pdq_table.proofs.storing.Stored.to_db.Goals as goal

pub decode_tables-requires : goal.decode_tables-requires
decode_tables-requires c =
    record {
      spots = All-same HoldsRows c.deref.result.now c.self.inside.tables.items c.deref.ensures.value (rows_held c.self.inside.dict c.self.inside.schema.cuts
          c.self.inside.tables.items c.self.invariant.cuts);
    }
