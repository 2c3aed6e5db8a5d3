use Rattle.std.proofs.Common.{◌≡◌, ◌-◌, true, length}
use Rattle.pdq_spill.specs.Partitions.{Stands}
use Rattle.bench_operators.proofs.spilling.read_all.Given as goal

abbrev pub invariant-reading : goal.invariant-reading
invariant-reading g l = record {
  sealed : l.partition.sealed ≡ true;
  stands : Stands l.partition (g.Sp.Spill.held l.store) (g.Sp.Spill.blocks l.store);
}

abbrev pub decreases-reading : goal.decreases-reading
decreases-reading g l = length l.partition.places - l.partition.next
