use Rattle.std.proofs.Common.{sym}
use Rattle.pdqd.proofs.StoredTables.{asks_plain}
use Rattle.pdqd.proofs.asking.question.Goals as goal

pub returns-in-Ok-clause-asked : goal.returns-in-Ok-clause-asked
returns-in-Ok-clause-asked c =
    let read = rw c.deref.ensures.value at c.in-Ok.ensures.read in
    rw (sym (asks_plain c.args.select.now c.args.bytes.items c.in-Ok.stored read)) c.question_of_select.ensures.asked
