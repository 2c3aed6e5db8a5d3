use Rattle.std.proofs.Common.{sym, subst}
use Rattle.pdq_schema.specs.Schemas.{SchemaView}
use Rattle.pdq_table.specs.Layout.{AreTakenOf}
use Rattle.pdq_table.proofs.loading.load.Goals as goal

pub finish-requires : goal.finish-requires
finish-requires c =
    let r = c.in_ok-tables.ensures.read in
    let own : AreTakenOf c.args.schema.now c.load_tables.new.notes c.in_ok-tables.tables.items = record { tables = r.tables; taken = r.taken; stored = r.stored } in
    record { taken = subst (λ (s : SchemaView). AreTakenOf s c.load_tables.new.notes c.in_ok-tables.tables.items) (sym c.in-Ok.ensures.value) own }
