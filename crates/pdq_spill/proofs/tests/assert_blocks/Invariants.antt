use Rattle.std.proofs.Common.{◌≡◌, true, length}
use Rattle.std.specs.Prelude.{Some}
use Rattle.pdq_spill.specs.Partitions.{Stands}
use Rattle.pdq_spill.proofs.tests.assert_blocks.Given as goal

abbrev pub invariant-loop-want : goal.invariant-loop-want
invariant-loop-want g l = record {
  sealed : l.partition.sealed ≡ true;
  stands : Stands l.partition (length l.store.blocks) (Some l.store.blocks);
}
