use Rattle.std.proofs.Common.{◌∙◌, sym, ap}
use Rattle.pdq_model.specs.State.{State}
use Rattle.pdq_model.specs.Settling.{settle, admits}
use Rattle.pdq_gate.specs.Board.{state_of}
use Rattle.pdq_gate.specs.Queries.{without_query}
use Rattle.pdq_gate.proofs.Granting.{finish_place, first_held, held_row, no_query, next_finish, admitted_finish, others_without, number_of}
use Rattle.pdq_gate.proofs.board.Board.finish.Goals as goal

pub unreachable-requires : goal.unreachable-requires
unreachable-requires c = no_query (state_of c.args.self.now) c.args.id c.args.region.frames c.in_default.ensures.none c.requires.may

pub take_back-requires-clause-place : goal.take_back-requires-clause-place
take_back-requires-clause-place c = finish_place c.args.self.now c.args.id c.in-Some.place c.in-Some.row (first_held (state_of c.args.self.now) c.args.id c.in-Some.place c.in-Some.row c.in-Some.ensures.place c.in-Some.ensures.row) c.in-Some.ensures.place

pub take_back-requires-clause-collected : goal.take_back-requires-clause-collected
take_back-requires-clause-collected c = (held_row (state_of c.args.self.now) c.args.id c.in-Some.place c.args.region.frames c.in-Some.row c.in-Some.ensures.place c.in-Some.ensures.row c.requires.may).0

pub take_back-requires-clause-frames : goal.take_back-requires-clause-frames
take_back-requires-clause-frames c = (held_row (state_of c.args.self.now) c.args.id c.in-Some.place c.args.region.frames c.in-Some.row c.in-Some.ensures.place c.in-Some.ensures.row c.requires.may).1

pub returns-clause-state : goal.returns-clause-state
returns-clause-state c =
    c.settle.ensures.settled ∙ ap settle c.take_back.ensures.state
    ∙ sym (next_finish c.args.self.now c.args.id c.in-Some.place c.args.how c.in-Some.row (first_held (state_of c.args.self.now) c.args.id c.in-Some.place c.in-Some.row c.in-Some.ensures.place c.in-Some.ensures.row) c.in-Some.ensures.place)

pub returns-clause-told : goal.returns-clause-told
returns-clause-told c =
    c.settle.ensures.told
    ∙ ap (λ (s : State). admits s.active c.settle.new.self.active) c.take_back.ensures.state
    ∙ ap (λ (s : State). admits (without_query (state_of c.args.self.now) c.in-Some.place).active s.active) (c.settle.ensures.settled ∙ ap settle c.take_back.ensures.state)
    ∙ sym (admitted_finish c.args.self.now c.args.id c.in-Some.place c.args.how c.in-Some.row c.args.self.now.admitted.items (first_held (state_of c.args.self.now) c.args.id c.in-Some.place c.in-Some.row c.in-Some.ensures.place c.in-Some.ensures.row) c.in-Some.ensures.place)

pub returns-clause-others : goal.returns-clause-others
returns-clause-others c =
    others_without (state_of c.args.self.now) (state_of c.settle.new.self) c.args.id c.in-Some.place c.in-Some.row (first_held (state_of c.args.self.now) c.args.id c.in-Some.place c.in-Some.row c.in-Some.ensures.place c.in-Some.ensures.row) c.in-Some.ensures.row
    (number_of (state_of c.args.self.now) c.args.id c.in-Some.place c.in-Some.row c.in-Some.ensures.place c.in-Some.ensures.row) (rw (← c.take_back.ensures.state) c.settle.ensures.active)
