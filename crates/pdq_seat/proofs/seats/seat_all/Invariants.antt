use Rattle.std.proofs.Common.{◌≡◌, ◌+◌, ◌*◌, ◌≤◌, ◌++◌, length, All}
use Rattle.std.specs.Prelude.{vec_capacity}
use Rattle.pdq_frame.specs.Shares.{still_due}
use Rattle.pdq_seat.specs.Seating.{all_frames, laid}
use Rattle.pdq_seat.proofs.seats.seat_all.Given as goal

abbrev pub invariant-loop-owner : goal.invariant-loop-owner
invariant-loop-owner g l = record {
  stores : laid l.seats.benches.items l.seats.fronts.items l.seats.backs.items ++ l.stores.items ≡ l.fn.stores.items;
  capacity : vec_capacity l.stores ≡ vec_capacity l.fn.stores;
  frames : all_frames l.seats.benches.items + l.parts.standing ≡ l.fn.parts.frames;
  due : l.parts.standing ≡ still_due l.parts.frames l.parts.parts l.parts.given;
  same_frames : l.parts.frames ≡ l.fn.parts.frames;
  same_parts : l.parts.parts ≡ l.owners;
  given : l.parts.given ≡ l._owner;
  benches : length l.seats.benches.items ≡ l._owner;
  fronts : length l.seats.fronts.items ≡ l._owner;
  backs : length l.seats.backs.items ≡ l._owner;
  left : length l.stores.items + 3 * l._owner ≡ 48;
  least : All (λ b. 2 ≤ b.region.frames) l.seats.benches.items;
  bench_room : l.owners ≤ vec_capacity l.seats.benches;
  front_room : l.owners ≤ vec_capacity l.seats.fronts;
  back_room : l.owners ≤ vec_capacity l.seats.backs;
}
