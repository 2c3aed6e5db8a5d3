use Rattle.std.proofs.Common.{◌++◌, subst, ℕ, List, append_assoc}
use Rattle.pdq_talk.specs.Lines.{ran_text}
use Rattle.pdq_talk.specs.Texts.{granted_text}
use Rattle.pdq_talk.specs.Writing.{Wrote}
use Rattle.pdq_serve.proofs.query.follow_granted.Goals as goal

pub returns-clause-wrote : goal.returns-clause-wrote
returns-clause-wrote g c before faults so_far w =
    let line : List ℕ = granted_text c.args.id c.args.grant.step c.args.grant.quanta c.args.grant.scans in
    subst (λ (l : List ℕ). Wrote before (g.Si.Sink.written c.run_granted-pass.new.sink) faults (g.Si.Sink.faults c.run_granted-pass.new.sink) c.run_granted-pass.result.2 l)
    (append_assoc so_far line (ran_text c.args.id c.run_granted-pass.result.1))
    (c.run_granted-pass.ensures.wrote before faults (so_far ++ line) (c.tell-told.ensures.wrote before faults so_far line c.granted_bytes.ensures.text w))
