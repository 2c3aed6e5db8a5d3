use Rattle.std.proofs.Common.{◌∙◌, ap}
use Rattle.pdq_spill.specs.Partitions.{PartitionView, HandedOut}
use Rattle.bench_operators.proofs.Partitions.{handed, next-stands}
use Rattle.bench_operators.proofs.spilling.read_all.Goals as goal

pub reading-preserved : goal.reading-preserved
reading-preserved g c =
    let i = c.reading.invariant in
    let out : HandedOut c.reading.partition c.next_block.new.self (g.Sp.Spill.blocks c.reading.store) c.next_block.new.into = handed c.in_ok-next_block.field-0 c.reading.partition c.next_block.new.self (g.Sp.Spill.blocks c.reading.store) c.next_block.new.into c.if-branch.true c.in_ok-next_block.ensures.next in
    record {
      sealed = ap (λ (p : PartitionView). p.sealed) out.stepped ∙ i.sealed;
      stands = next-stands _ _ _ _ _ _ _ out c.next_block.ensures.blocks c.next_block.ensures.held i.stands;
    }
