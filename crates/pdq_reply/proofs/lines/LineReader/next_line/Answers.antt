use Rattle.pdq_reply.proofs.Giving.{none_left, read_rest}
use Rattle.pdq_reply.proofs.lines.LineReader.next_line.Goals as goal

pub returns-then-n-eq0-clause-reads : goal.returns-then-n-eq0-clause-reads
returns-then-n-eq0-clause-reads g c = read_rest _ _ _ _ _ _ _ _ _ c.take_held.new.self _ _ c.in-Ok.n c.reads.invariant.reading c.in_default.ensures.none c.in-Ok.ensures.more c.if-n-eq0.true c.take_rest.ensures.does

pub returns-then-n-eq0-clause-none_left : goal.returns-then-n-eq0-clause-none_left
returns-then-n-eq0-clause-none_left g c at_end = none_left _ _ _ _ _ _ _ _ _ _ _ c.reads.invariant.reading c.in-Ok.ensures.more c.if-n-eq0.true

pub returns-in_default-read_more-clause-sure : goal.returns-in_default-read_more-clause-sure
returns-in_default-read_more-clause-sure g c failed = c.reads.invariant.sure c.in_default.ensures.was
