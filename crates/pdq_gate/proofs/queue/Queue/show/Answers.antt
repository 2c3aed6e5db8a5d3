use Rattle.std.proofs.Common.{◌∙◌, ap, arith, length, take}
use Rattle.std.proofs.lemmas.List.{length-take, take_all}
use Rattle.pdq_model.specs.Order.{waiting_order}
use Rattle.pdq_gate.specs.Ranks.{rows_in_order}
use Rattle.pdq_gate.proofs.Ranked.{length-order, length_shown, shown_next}
use Rattle.pdq_gate.proofs.queue.Queue.show.Goals as goal
use Rattle.pdq_gate.proofs.queue.Queue.show.Goals.{then-place-eq0, else-place-eq0}

pub push_reserved-requires : goal.push_reserved-requires
push_reserved-requires c =
    omega (arith, ap length c.loop-place.invariant.rows, length_shown c.args.first c.args.others (take c.loop-place.place (waiting_order c.args.self.now)), length-take c.loop-place.place (waiting_order c.args.self.now), c.self.invariant.few)

pub loop-place-preserved : goal.loop-place-preserved
loop-place-preserved c = record {
  rows = shown_next c.args.first c.args.others c.if-place-eq0.gate _ _ _ c.loop-place.place c.at.result.1 c.loop-place.invariant.rows c.at.ensures.written (λ none. elim c.if-place-eq0.branch [
    | then-place-eq0 w ↦ w.gate-is
    | else-place-eq0 w ↦ absurd (w.if-place-eq0.false none)
  ]) (λ some. elim c.if-place-eq0.branch [
    | then-place-eq0 w ↦ absurd (some w.if-place-eq0.true)
    | else-place-eq0 w ↦ w.gate-is
  ]) (rw (← c.row_shown.ensures.value) c.push_reserved.ensures.items);
  room = omega arith;
}

pub returns-clause-rows : goal.returns-clause-rows
returns-clause-rows c =
    c.loop-place.invariant.rows ∙ ap (rows_in_order c.args.first c.args.others) (take_all c.loop-place.place (waiting_order c.args.self.now) (omega (arith, length-order c.args.self.now, ap length c.self.view_is)))
