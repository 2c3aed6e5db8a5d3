use Rattle.bench_operators.proofs.Partitions.{fresh-stands}
use Rattle.bench_operators.proofs.spilling.timed.Goals as goal

pub write_all-requires-clause-stands : goal.write_all-requires-clause-stands
write_all-requires-clause-stands g c = fresh-stands c.in-Ok.partition 3 (g.Sp.Spill.held c.args.store.now) (g.Sp.Spill.blocks c.args.store.now) c.in-Ok.ensures.fresh
