use Rattle.std.proofs.Common.{◌∙◌, refl, subst, ℕ, List, ◌++◌}
use Rattle.pdq_talk.specs.Writing.{Wrote}
use Rattle.pdq_talk.proofs.Writing.{wrote_short}
use Rattle.pdq_talk.proofs.telling.tell.Goals as goal

pub returns-in-Ok-clause-wrote : goal.returns-in-Ok-clause-wrote
returns-in-Ok-clause-wrote g c = λ before faults so_far more fits w.
    subst (λ (l : List ℕ). Wrote before (g.Si.Sink.written c.put.new.sink) faults (g.Si.Sink.faults c.put.new.sink) c.put.result (so_far ++ l)) (c.deref.ensures.value ∙ (rw c.in-Ok.is at fits)) (c.put.ensures.wrote before faults so_far w)

pub returns-in-Ok-told-clause-wrote : goal.returns-in-Ok-told-clause-wrote
returns-in-Ok-told-clause-wrote g c = λ before faults so_far more fits w. wrote_short before _ faults _ c.args.told c.in-Ok-told.field-0 _ so_far more c.in-Ok-told.is refl w
