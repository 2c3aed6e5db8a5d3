use Rattle.std.proofs.Common.{None, ◌≡◌, ◌-◌, length}
use Rattle.pdq_reply.specs.Reading.{IsReading, decided}
use Rattle.pdq_reply.proofs.lines.LineReader.next_line.Given as goal

abbrev pub invariant-reads : goal.invariant-reads
invariant-reads g l = record {
  reading : IsReading (g.So.Source.left l.initial.source) (g.So.Source.left l.source) (g.So.Source.taken l.initial.source) (g.So.Source.taken l.source) l.initial.self l.self;
  sure : decided l.self.given l.self.buffered ≡ None → decided l.initial.self.given l.initial.self.buffered ≡ None;
  passed : g.So.Source.faults l.source ≡ g.So.Source.faults l.initial.source;
}

abbrev pub decreases-reads : goal.decreases-reads
decreases-reads g l = 8193 - length l.self.buffered
