use Rattle.std.proofs.Common.{◌≡◌, length, All}
use Rattle.bench_waves.proofs.load.lanes_of.Given as goal

abbrev pub invariant-loop-number : goal.invariant-loop-number
invariant-loop-number l = (length l.all.items ≡ l.number) × All (λ lane. lane.load.batch.width ≡ 3) l.all.items
