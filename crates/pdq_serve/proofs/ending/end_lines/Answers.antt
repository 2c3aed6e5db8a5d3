use Rattle.std.proofs.Common.{◌++◌, subst, Result}
use Rattle.pdq_serve.specs.Course.{IsCloseTold, before_close}
use Rattle.pdq_talk.specs.Session.{close_text}
use Rattle.pdq_talk.specs.declared.telling.Break.{Break}
use Rattle.pdq_serve.proofs.Transcribed.{close_then}
use Rattle.pdq_serve.proofs.ending.end_lines.Goals as goal

pub returns-clause-told : goal.returns-clause-told
returns-clause-told g c =
    subst (λ (t : Result (Unit {0}) Break). IsCloseTold t c.close.result.1 (g.Si.Sink.written c.args.sink.now) (g.Si.Sink.written c.close.new.sink) (g.Si.Sink.faults c.args.sink.now) (g.Si.Sink.faults c.close.new.sink) (before_close c.args.by ++ close_text c.close.result.0 c.args.standing.now))
    c.broken_by-told.ensures.value
    (close_then c.broken_by-told.result c.tell_before_close-told.result c.close.result.1 (g.Si.Sink.written c.args.sink.now) (g.Si.Sink.written c.tell_before_close-told.new.sink) (g.Si.Sink.written c.close.new.sink)
    (g.Si.Sink.faults c.args.sink.now) (g.Si.Sink.faults c.tell_before_close-told.new.sink) (g.Si.Sink.faults c.close.new.sink) (before_close c.args.by) (close_text c.close.result.0 c.args.standing.now) c.tell_before_close-told.ensures.told c.close.ensures.told)
