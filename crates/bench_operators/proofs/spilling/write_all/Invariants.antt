use Rattle.std.proofs.Common.{◌≡◌, false}
use Rattle.pdq_spill.specs.Partitions.{Stands}
use Rattle.bench_operators.proofs.spilling.write_all.Given as goal

abbrev pub invariant-loop-i : goal.invariant-loop-i
invariant-loop-i g l = record {
  unsealed : l.partition.sealed ≡ false;
  width : l.partition.width ≡ l.initial.partition.width;
  stands : Stands l.partition (g.Sp.Spill.held l.store) (g.Sp.Spill.blocks l.store);
}
