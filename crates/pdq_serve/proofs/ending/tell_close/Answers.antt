use Rattle.std.proofs.Common.{sym, subst, [], Result}
use Rattle.pdq_reply.specs.Replies.{closed_text}
use Rattle.pdq_serve.specs.Course.{IsCloseTold}
use Rattle.pdq_talk.specs.declared.telling.Break.{Break}
use Rattle.pdq_talk.proofs.Writing.{wrote_none}
use Rattle.pdq_serve.proofs.ending.tell_close.Goals as goal

pub returns-in-Ok : goal.returns-in-Ok
returns-in-Ok g c = record {
  told =
      subst (λ (t : Result (Unit {0}) Break). IsCloseTold t c.tell.result (g.Si.Sink.written c.args.sink.now) (g.Si.Sink.written c.tell.new.sink) (g.Si.Sink.faults c.args.sink.now) (g.Si.Sink.faults c.tell.new.sink) (closed_text c.args.number c.args.step)) (sym c.in-Ok.is)
      (c.tell.ensures.wrote (g.Si.Sink.written c.args.sink.now) (g.Si.Sink.faults c.args.sink.now) [] (closed_text c.args.number c.args.step) c.closed_bytes.ensures.text (wrote_none (g.Si.Sink.written c.args.sink.now) (g.Si.Sink.faults c.args.sink.now) tt));
}
