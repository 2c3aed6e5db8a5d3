use Rattle.pdq_make.proofs.Generated.{made_is_stored}
use Rattle.pdq_make.proofs.made_tables.made_stored.Goals as goal

pub of-requires : goal.of-requires
of-requires c = record { tables = rw (c.in_ok-schema.ensures.value, c.in_ok-db.ensures.value) (made_is_stored c.args.count c.requires.few c.in_ok-db.ensures.sales c.in_ok-db.ensures.shops) }
