use Rattle.std.proofs.Common.{◌≡◌, ◌+◌, ◌*◌, ◌≤◌, ◌++◌}
use Rattle.std.specs.Prelude.{vec_capacity, vec_len}
use Rattle.pdq_seat.specs.Seating.{all_frames, laid}
use Rattle.pdq_seat.proofs.homes.home.Given as goal

abbrev pub invariant-homing : goal.invariant-homing
invariant-homing g l = record {
  stores : laid l.seats.benches.items l.seats.fronts.items l.seats.backs.items ++ l.stores.items ≡ laid l.initial.seats.benches.items l.initial.seats.fronts.items l.initial.seats.backs.items ++ l.initial.stores.items;
  frames : all_frames l.seats.benches.items + l.parts.standing ≡ all_frames l.initial.seats.benches.items + l.initial.parts.standing;
  within : all_frames l.seats.benches.items + l.parts.standing ≤ l.parts.frames;
  fronts : vec_len l.seats.fronts ≡ vec_len l.seats.benches;
  backs : vec_len l.seats.backs ≡ vec_len l.seats.benches;
  room : vec_len l.stores + 3 * vec_len l.seats.benches ≤ vec_capacity l.stores;
}

abbrev pub decreases-homing : goal.decreases-homing
decreases-homing g l = vec_len l.seats.benches
