use Rattle.std.proofs.Common.{◌∙◌, ap}
use Rattle.std.specs.Prelude.{◌==◌, is_some}
use Rattle.pdq_model.specs.declared.rows.Waiting.{Waiting}
use Rattle.pdq_gate.proofs.Ranked.{any_has_place}
use Rattle.pdq_gate.proofs.queue.Queue.contains.Goals as goal

pub returns : goal.returns
returns c = record { value = c.is_some.ensures ∙ ap is_some c.place.ensures.place ∙ any_has_place (λ (w : Waiting). w.id == c.args.id) c.args.self.now }
