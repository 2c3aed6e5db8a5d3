use Rattle.pdq_ask.proofs.PlainTables.{plain_is_storable}
use Rattle.pdq_ask.proofs.plain.read_stored.Goals as goal

pub stored-requires : goal.stored-requires
stored-requires c = record { table = plain_is_storable c.args.bytes.now _ c.in_ok-table.ensures.read c.in_ok-table.ensures.shape c.in_ok-table.ensures.table }
