use Rattle.std.proofs.Common.{◌≡◌, [], ◌∷◌, rules}
use Rattle.pdq_ask.proofs.PlainTables.{parts_are_stored}
use Rattle.pdq_ask.proofs.plain.stored.Goals as goal

pub of-requires : goal.of-requires
of-requires c =
    let one : c.in_ok-tables.tables.items ≡ c.args.table ∷ [] = search rules in
    record { tables = parts_are_stored _ _ c.args.table c.in_ok-schema.ensures.value one c.requires.table }
