use Rattle.std.proofs.Common.{sym}
use Rattle.pdq_gate.proofs.Ranked.{both_missing, session_differs, session_found}
use Rattle.pdq_gate.proofs.queue.Queue.place_of.Goals as goal

pub returns-in-Some-clause-place : goal.returns-in-Some-clause-place
returns-in-Some-clause-place c = session_found _ _ c.args.session c.args.id _ c.index.result.now c.self.view_is c.in-Some.ensures.place c.in-Some.ensures.within c.index.ensures c.if-index-session.true

pub returns-in_default-clause-place : goal.returns-in_default-clause-place
returns-in_default-clause-place c = session_differs _ _ c.args.session c.args.id _ c.index.result.now c.self.invariant.ranked.rising c.self.view_is c.in-Some.ensures.place c.in-Some.ensures.within c.index.ensures c.if-index-session.false

pub returns-in_default-2-clause-place : goal.returns-in_default-2-clause-place
returns-in_default-2-clause-place c = sym (both_missing _ c.args.session c.args.id (sym c.in_default.ensures.place))
