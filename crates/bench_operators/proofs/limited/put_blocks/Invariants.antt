use Rattle.std.proofs.Common.{◌≡◌, ◌+◌}
use Rattle.bench_operators.proofs.limited.put_blocks.Given as goal

abbrev pub invariant-loop-number : goal.invariant-loop-number
invariant-loop-number g l = g.Sp.Spill.held l.store ≡ g.Sp.Spill.held l.fn.store + l.number
