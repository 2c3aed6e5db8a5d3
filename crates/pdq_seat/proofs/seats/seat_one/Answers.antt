use Rattle.std.proofs.Common.{◌≤◌}
use Rattle.std.proofs.lemmas.List.Elements.{All-push}
use Rattle.pdq_seat.proofs.Laying.{laid_push}
use Rattle.pdq_seat.proofs.seats.seat_one.Goals as goal

pub returns-clause-stores : goal.returns-clause-stores
returns-clause-stores g c =
    rw (c.push_in_room.ensures.value, c.push_in_room-2.ensures.value, c.push_in_room-3.ensures.value, c.first_of-store.ensures.first, c.first_of-front.ensures.first, c.first_of-back.ensures.first)
    (laid_push c.args.seats.now.benches.items c.args.seats.now.fronts.items c.args.seats.now.backs.items (record { region = c.args.region; store = c.first_of-store.result }) c.first_of-front.result c.first_of-back.result c.first_of-back.new.values.items c.requires.front_lengths c.requires.back_lengths)

pub returns-clause-least : goal.returns-clause-least
returns-clause-least g c = λ all two. rw c.push_in_room.ensures.value (All-push (λ b. 2 ≤ b.region.frames) c.args.seats.now.benches.items (record { region = c.args.region; store = c.first_of-store.result }) all two)
