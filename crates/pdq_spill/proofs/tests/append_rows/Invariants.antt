use Rattle.std.proofs.Common.{◌≡◌, false, length}
use Rattle.std.specs.Prelude.{Some}
use Rattle.pdq_spill.specs.Partitions.{Stands}
use Rattle.pdq_spill.proofs.tests.append_rows.Given as goal

abbrev pub invariant-loop-place : goal.invariant-loop-place
invariant-loop-place l = record {
  unsealed : l.partition.sealed ≡ false;
  width : l.partition.width ≡ l.initial.partition.width;
  stands : Stands l.partition (length l.store.blocks) (Some l.store.blocks);
}
