use Rattle.pdqd.proofs.Selects.{select_parts}
use Rattle.pdqd.proofs.grant_tests.compare.Goals as goal

pub resolve-requires-clause-tables : goal.resolve-requires-clause-tables
resolve-requires-clause-tables g c = (select_parts _ _ c.in_ok-ast.ensures.found).1

pub plain_text-requires-clause-tables : goal.plain_text-requires-clause-tables
plain_text-requires-clause-tables g c = rw c.in_ok-db.ensures.value c.in_ok-db.ensures.stored.tables.database
