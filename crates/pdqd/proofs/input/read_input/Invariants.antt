use Rattle.std.proofs.Common.{◌≡◌, ◌-◌, length}
use Rattle.pdq_reply.specs.Reading.{Took}
use Rattle.pdqd.proofs.input.read_input.Given as goal

abbrev pub invariant-reads : goal.invariant-reads
invariant-reads g l = record {
  took : Took (g.So.Source.left l.initial.source) (g.So.Source.left l.source) (g.So.Source.taken l.initial.source) (g.So.Source.taken l.source) l.bytes.items;
  passed : g.So.Source.faults l.source ≡ g.So.Source.faults l.initial.source;
}

abbrev pub decreases-reads : goal.decreases-reads
decreases-reads g l = 16777217 - length l.bytes.items
