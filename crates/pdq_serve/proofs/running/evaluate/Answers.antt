use Rattle.std.proofs.Common.{◌≡◌, ◌∙◌, ℕ, refl, sym, ap, subst}
use Rattle.pdq_query.specs.Queries.{query_of}
use Rattle.pdq_edge.specs.Causes.{Rose}
use Rattle.pdq_model.specs.Given.{WasCancelledAt}
use Rattle.pdq_office.specs.Passes.{known}
use Rattle.pdq_office.specs.declared.pass.Held.{Held}
use Rattle.pdq_serve.specs.Questions.{expects}
use Rattle.pdq_serve.specs.Watching.{WatchView}
use Rattle.pdq_serve.proofs.Runs.{outcome_right}
use Rattle.pdq_serve.proofs.running.evaluate.Goals as goal

pub returns-clause-outcome : goal.returns-clause-outcome
returns-clause-outcome g c =
    let view = c.watch.view_is in
    let same : c.watch.inside.held.id ≡ c.args.held.id = ap (λ (w : WatchView). w.held.id) view ∙ ap (λ (h : Held). h.id) c.run_question-region.ensures.stop_kept.held in
    outcome_right (known c.watch.inside.pass).seen c.args.held.id (expects g.Sp.Spill.blocks c.args.stores.now.items c.args.stored.now (query_of c.args.question.now.query)) c.run_question-region.result.1 0 c.watch.inside.told c.watch.inside.last
    c.run_question-region.ensures.answer
    (λ step is. let s = c.run_question-region.ensures.stopped step is in
    (subst (λ (n : ℕ). Rose 0 n) (sym (ap (λ (w : WatchView). w.told) view)) s.0, s.1 ∙ sym (ap (λ (w : WatchView). w.last) view)))
    refl (λ some. subst (λ (n : ℕ). WasCancelledAt (known c.watch.inside.pass).seen c.watch.inside.last n) same (c.watch.invariant.right some))
