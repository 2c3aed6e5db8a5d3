use Rattle.std.proofs.Common.{ℕ, List, []}
use Rattle.pdq_reply.specs.Replies.{placed_text}
use Rattle.pdq_talk.proofs.Writing.{wrote_none}
use Rattle.pdq_serve.proofs.query.follow_placed.Goals as goal

pub returns-clause-wrote : goal.returns-clause-wrote
returns-clause-wrote g c =
    let line : List ℕ = placed_text c.args.placed.id c.args.placed.step c.args.placed.priority c.args.placed.gate in
    c.follow-pass.ensures.wrote (g.Si.Sink.written c.args.sink.now) (g.Si.Sink.faults c.args.sink.now) line (c.tell-told.ensures.wrote (g.Si.Sink.written c.args.sink.now) (g.Si.Sink.faults c.args.sink.now) [] line c.placed_bytes.ensures.text (wrote_none (g.Si.Sink.written c.args.sink.now) (g.Si.Sink.faults c.args.sink.now) tt))
