use Rattle.std.proofs.Common.{subst, ℕ, List, []}
use Rattle.pdq_talk.specs.Lines.{reply_text}
use Rattle.pdq_talk.specs.Writing.{Wrote}
use Rattle.pdq_talk.proofs.Writing.{wrote_none}
use Rattle.pdq_talk.proofs.telling.tell_reply.Goals as goal

pub returns-in-Some : goal.returns-in-Some
returns-in-Some g c = record {
  wrote =
      subst (λ (l : List ℕ). Wrote (g.Si.Sink.written c.args.sink.now) (g.Si.Sink.written c.put.new.sink) (g.Si.Sink.faults c.args.sink.now) (g.Si.Sink.faults c.put.new.sink) c.put.result l) c.in-Some.ensures.text
      (c.put.ensures.wrote (g.Si.Sink.written c.args.sink.now) (g.Si.Sink.faults c.args.sink.now) [] (wrote_none (g.Si.Sink.written c.args.sink.now) (g.Si.Sink.faults c.args.sink.now) tt));
}

pub returns-in-None : goal.returns-in-None
returns-in-None g c = record {
  wrote =
      c.tell.ensures.wrote (g.Si.Sink.written c.args.sink.now) (g.Si.Sink.faults c.args.sink.now) [] (reply_text c.args.reply.now) c.reply_bytes.ensures.text (wrote_none (g.Si.Sink.written c.args.sink.now) (g.Si.Sink.faults c.args.sink.now) tt);
}
