use Rattle.std.proofs.Common.{◌≡◌}
use Rattle.bench_regions.proofs.regions.put_rows.Given as goal

abbrev pub invariant-loop-number : goal.invariant-loop-number
invariant-loop-number l = (l.region.width ≡ 3) × (l.region.frames ≡ l.fn.region.frames)
