use Rattle.pdq_sql.proofs.NumberBytes.{minus_utf8}
use Rattle.pdq_sql.proofs.lexing.minus.Goals as goal

pub number-requires-clause-utf8 : goal.number-requires-clause-utf8
number-requires-clause-utf8 c = minus_utf8 c.args.bytes.now c.number_len-n.result c.requires.minus c.number_len-n.ensures.count
