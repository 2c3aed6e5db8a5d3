use Rattle.std.proofs.Common.{◌≡◌, ◌<◌, length, All}
use Rattle.bench_waves.proofs.load.wave_often.Given as goal

abbrev pub invariant-loop-wave : goal.invariant-loop-wave
invariant-loop-wave g l = record {
  lanes : length l.lanes ≡ length l.plan.given;
  desks : 0 < length l.desks;
  width : l.plan.width ≡ 3;
  lane_widths : All (λ lane. lane.load.batch.width ≡ 3) l.lanes;
  desk_widths : All (λ desk. desk.batch.width ≡ 3) l.desks;
}
