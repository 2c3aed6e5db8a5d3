use Rattle.std.proofs.Common.{subst}
use Rattle.pdq_query.specs.Fits.{Fits}
use Rattle.pdq_query.specs.Queries.{query_of}
use Rattle.pdqd.proofs.Shapes.{printable_rows, shapes_seen}
use Rattle.pdqd.proofs.grant_tests.plain_text.Goals as goal

pub serial-requires-clause-query : goal.serial-requires-clause-query
serial-requires-clause-query c = subst (λ shapes. Fits shapes (query_of c.args.query.now)) (shapes_seen c.args.db.now.tables.items) c.requires.query

pub add_answer-requires : goal.add_answer-requires
add_answer-requires c = record { scales = rw c.deref.ensures.value (printable_rows _ c.in-Ok.ensures.scales) }
