use Rattle.std.proofs.Common.{◌≡◌, ℕ, ◌∙◌, ap, arith, Ok}
use Rattle.pdq_query.specs.Queries.{query_of}
use Rattle.pdq_answer.specs.declared.evaluating.Evaluated.{Evaluated}
use Rattle.pdq_answer.specs.declared.evaluating.Evaluated.TheVariants as evaluated
use Rattle.pdq_session.specs.ScriptStates.{IsTrusted, script_state}
use Rattle.pdq_session.proofs.Coming.{came_by, made_by, ran_answer, trusted_outcome}
use Rattle.pdq_session.proofs.script_queries.run_granted.Goals as goal

pub returns-in-Ok-clause-came : goal.returns-in-Ok-clause-came
returns-in-Ok-clause-came g c =
    let runs : (step : ℕ) → c.in-Ok.evaluated ≡ evaluated.Stopped step → ⊥ = λ step is. absurd (omega (arith, (c.evaluate-region.ensures.stopped step (c.in-Ok.is ∙ ap (λ (e : Evaluated). Ok e) is)).0)) in
    came_by (IsTrusted c.args.sessions.now.stored g.Sp.Spill.blocks c.args.stores.now.items) c.end_run.result (script_state c.args.manager.now c.args.sessions.now) (script_state c.end_run.new.manager c.args.sessions.now) c.args.replies.now.items c.end_run.new.replies.items c.args.id (query_of c.args.query.now) c.in-Ok.evaluated
    c.end_run.ensures.failed c.end_run.ensures.replies c.end_run.ensures.state
    (trusted_outcome g.Sp.Spill.blocks c.args.stores.now.items c.args.stored.now c.args.sessions.now.stored (query_of c.args.query.now) c.in-Ok.evaluated c.requires.tables (λ told. ran_answer _ c.evaluate-region.result.1 c.in-Ok.evaluated c.in-Ok.is (c.evaluate-region.ensures.answer told)) runs)

pub returns-in-Ok-clause-made : goal.returns-in-Ok-clause-made
returns-in-Ok-clause-made g c =
    let runs : (step : ℕ) → c.in-Ok.evaluated ≡ evaluated.Stopped step → ⊥ = λ step is. absurd (omega (arith, (c.evaluate-region.ensures.stopped step (c.in-Ok.is ∙ ap (λ (e : Evaluated). Ok e) is)).0)) in
    made_by (IsTrusted c.args.sessions.now.stored g.Sp.Spill.blocks c.args.stores.now.items) c.end_run.result (script_state c.args.manager.now c.args.sessions.now) (script_state c.end_run.new.manager c.args.sessions.now) c.args.id (query_of c.args.query.now) c.in-Ok.evaluated
    runs c.end_run.ensures.state
    (trusted_outcome g.Sp.Spill.blocks c.args.stores.now.items c.args.stored.now c.args.sessions.now.stored (query_of c.args.query.now) c.in-Ok.evaluated c.requires.tables (λ told. ran_answer _ c.evaluate-region.result.1 c.in-Ok.evaluated c.in-Ok.is (c.evaluate-region.ensures.answer told)) runs)
