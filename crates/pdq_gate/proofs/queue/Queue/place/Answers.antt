use Rattle.std.proofs.Common.{◌∙◌, ap, arith, refl}
use Rattle.std.proofs.lemmas.List.{get_or_default}
use Rattle.pdq_model.specs.declared.rows.Waiting.{Waiting}
use Rattle.pdq_gate.proofs.Ranked.{searched, searched_found, searched_missing}
use Rattle.pdq_gate.proofs.queue.Queue.place.Goals as goal
use Rattle.pdq_gate.proofs.queue.Queue.place.Goals.{else-place-len-via-then-place-len+else-index-id, else-place-len-via-else-place-len}

pub returns-then-index-id-clause-place : goal.returns-then-index-id-clause-place
returns-then-index-id-clause-place c = searched_found _ _ _ c.args.id c.index.result.now (searched _ _ _ _ c.args.id c.self.invariant.ranked.rising c.self.view_is refl c.place_by_number-place.ensures.value) (omega arith) c.index.ensures c.if-index-id.true

pub returns-else-place-len-clause-place : goal.returns-else-place-len-clause-place
returns-else-place-len-clause-place c = searched_missing _ _ _ c.args.id (searched _ _ _ _ c.args.id c.self.invariant.ranked.rising c.self.view_is refl c.place_by_number-place.ensures.value) (λ d within number.
    elim c.else-place-len.branch [
      | else-place-len-via-then-place-len+else-index-id w ↦ w.if-index-id.false (ap (λ (v : Waiting). v.id) (w.index.ensures ∙ get_or_default _ _ w.index.result.now d within) ∙ number)
      | else-place-len-via-else-place-len w ↦ absurd (omega arith)
    ])
