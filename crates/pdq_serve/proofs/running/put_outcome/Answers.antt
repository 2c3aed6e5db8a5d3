use Rattle.std.proofs.Common.{◌∙◌, ◌++◌, subst, sym, ap, ℕ, List}
use Rattle.pdq_serve.specs.Outcomes.{outcome_text}
use Rattle.pdq_talk.specs.Writing.{Wrote}
use Rattle.pdq_serve.proofs.running.put_outcome.Goals as goal

pub returns-in-Ended-clause-wrote : goal.returns-in-Ended-clause-wrote
returns-in-Ended-clause-wrote g c = λ before faults so_far w.
    subst (λ (l : List ℕ). Wrote before (g.Si.Sink.written c.put.new.sink) faults (g.Si.Sink.faults c.put.new.sink) c.put.result (so_far ++ l))
    (c.evaluated_bytes.ensures.text ∙ sym (ap outcome_text c.in-Ended.is)) (c.put.ensures.wrote before faults so_far w)
