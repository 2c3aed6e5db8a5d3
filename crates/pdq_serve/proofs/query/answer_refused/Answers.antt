use Rattle.std.proofs.Common.{[]}
use Rattle.pdq_talk.specs.Texts.{refused_text}
use Rattle.pdq_talk.proofs.Writing.{wrote_none}
use Rattle.pdq_serve.proofs.query.answer_refused.Goals as goal

pub returns-clause-wrote : goal.returns-clause-wrote
returns-clause-wrote g c =
    c.tell-told.ensures.wrote (g.Si.Sink.written c.args.sink.now) (g.Si.Sink.faults c.args.sink.now) [] (refused_text c.args.refused.why c.args.refused.step) c.refused_bytes.ensures.text (wrote_none (g.Si.Sink.written c.args.sink.now) (g.Si.Sink.faults c.args.sink.now) tt)
