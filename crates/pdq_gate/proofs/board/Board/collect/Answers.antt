use Rattle.std.proofs.Common.{◌∙◌, sym}
use Rattle.pdq_gate.specs.Board.{state_of}
use Rattle.pdq_gate.proofs.Granting.{no_place_waits, not_withdrawn, not_yet}
use Rattle.pdq_gate.proofs.board.Board.collect.Goals as goal

pub collect_active-requires-clause-waits : goal.collect_active-requires-clause-waits
collect_active-requires-clause-waits c = no_place_waits _ (sym c.waits.ensures.value ∙ c.if-waits.false)

pub collect_active-requires-clause-gone : goal.collect_active-requires-clause-gone
collect_active-requires-clause-gone c = not_withdrawn (state_of c.args.self.now) c.args.session c.args.id c.in-Some.place c.in-Some.row c.requires.own c.in-Some.ensures.place c.in-Some.ensures.row

pub collect_active-requires-clause-here : goal.collect_active-requires-clause-here
collect_active-requires-clause-here c = not_yet (state_of c.args.self.now) c.args.session c.args.id c.in-Some.place c.in-Some.row (sym c.waits.ensures.value ∙ c.if-waits.false) c.in-Some.ensures.place c.in-Some.ensures.row (collect_active-requires-clause-gone c) c.requires.may
