use Rattle.std.proofs.Common.{◌≡◌, length, All}
use Rattle.bench_waves.proofs.load.desks_of.Given as goal

abbrev pub invariant-loop-desk : goal.invariant-loop-desk
invariant-loop-desk l = (length l.all.items ≡ l._desk) × All (λ desk. desk.batch.width ≡ 3) l.all.items
