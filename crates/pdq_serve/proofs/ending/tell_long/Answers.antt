use Rattle.std.proofs.Common.{sym, subst, [], Result}
use Rattle.pdq_talk.specs.Texts.{line_too_long}
use Rattle.pdq_serve.specs.Course.{IsCloseTold}
use Rattle.pdq_talk.specs.declared.telling.Break.{Break}
use Rattle.pdq_talk.proofs.Writing.{wrote_none}
use Rattle.pdq_serve.proofs.ending.tell_long.Goals as goal

pub returns-in-Ok : goal.returns-in-Ok
returns-in-Ok g c = record {
  told =
      subst (λ (t : Result (Unit {0}) Break). IsCloseTold t c.put.result (g.Si.Sink.written c.args.sink.now) (g.Si.Sink.written c.put.new.sink) (g.Si.Sink.faults c.args.sink.now) (g.Si.Sink.faults c.put.new.sink) line_too_long) (sym c.in-Ok.is)
      (c.put.ensures.wrote (g.Si.Sink.written c.args.sink.now) (g.Si.Sink.faults c.args.sink.now) [] (wrote_none (g.Si.Sink.written c.args.sink.now) (g.Si.Sink.faults c.args.sink.now) tt));
}
