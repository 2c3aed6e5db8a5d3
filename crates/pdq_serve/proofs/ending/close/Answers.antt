use Rattle.std.proofs.Common.{◌∙◌, ap}
use Rattle.pdq_office.specs.Passes.{lock_in}
use Rattle.pdq_talk.specs.Hand.{session_in}
use Rattle.pdq_serve.proofs.Transcribed.{close_nothing, closed_none, closed_some}
use Rattle.pdq_serve.proofs.ending.close.Goals as goal

pub returns-in-None-clause-closed : goal.returns-in-None-clause-closed
returns-in-None-clause-closed g c = closed_none (lock_in c.args.office.now) c.args.pass.now c.args.standing.now c.requires.hand c.in-None.is

pub returns-in-None-clause-told : goal.returns-in-None-clause-told
returns-in-None-clause-told g c = close_nothing c.args.told (g.Si.Sink.written c.args.sink.now) (g.Si.Sink.faults c.args.sink.now)

pub returns-in-Some-clause-closed : goal.returns-in-Some-clause-closed
returns-in-Some-clause-closed g c = closed_some (lock_in c.args.office.now) c.args.pass.now c.close_session-step.new.pass c.args.standing.now c.in-Some.party c.close_session-step.result c.requires.hand c.in-Some.is
    c.close_session-step.ensures.lock c.close_session-step.ensures.turn c.close_session-step.ensures.session

pub close_session-step-requires-clause-finished : goal.close_session-step-requires-clause-finished
close_session-step-requires-clause-finished g c = c.requires.hand.finished (c.in-Some.party.number, c.requires.hand.session ∙ ap session_in c.in-Some.is)
