use Rattle.std.proofs.Common.{◌≡◌, ◌∙◌, ◌++◌, subst, sym, ap, ℕ, List, append_assoc}
use Rattle.pdq_query.specs.Queries.{query_of}
use Rattle.pdq_office.specs.declared.pass.Held.{Held}
use Rattle.pdq_office.specs.Passes.{known, IsHeld}
use Rattle.pdq_office.proofs.Following.{held_follow}
use Rattle.pdq_serve.specs.Questions.{expects}
use Rattle.pdq_talk.specs.Lines.{ran_text}
use Rattle.pdq_serve.specs.Query.{WasRun}
use Rattle.pdq_serve.specs.Outcomes.{IsOutcome, outcome_text}
use Rattle.pdq_talk.specs.Writing.{Wrote, last_text}
use Rattle.pdq_serve.proofs.Runs.{run_after}
use Rattle.pdq_serve.proofs.running.run_granted.Goals as goal

pub end_granted-ran-requires-clause-held : goal.end_granted-ran-requires-clause-held
end_granted-ran-requires-clause-held g c =
    subst (λ (h : Held). IsHeld c.come_out-pass.result.0 h) (sym c.come_out-pass.ensures.held)
    (held_follow c.args.pass c.come_out-pass.result.0 c.args.held c.come_out-pass.ensures.follows c.requires.held)

pub returns-clause-run : goal.returns-clause-run
returns-clause-run g c =
    let same : c.come_out-pass.result.1.id ≡ c.args.id = ap (λ (h : Held). h.id) c.come_out-pass.ensures.held ∙ c.requires.id in
    let is = subst (λ (h : Held). IsOutcome (known c.come_out-pass.result.0).seen h.id (expects g.Sp.Spill.blocks c.args.stores.now.items c.args.stored.now (query_of c.args.question.now.query)) c.args.flagged c.come_out-pass.result.3) (sym c.come_out-pass.ensures.held) c.come_out-pass.ensures.outcome in
    run_after c.args.pass c.come_out-pass.result.0 c.end_granted-ran.new.pass c.come_out-pass.ensures.follows c.args.id (expects g.Sp.Spill.blocks c.args.stores.now.items c.args.stored.now (query_of c.args.question.now.query)) c.args.flagged c.end_granted-ran.result
    (subst (λ (n : ℕ). WasRun c.come_out-pass.result.0 c.end_granted-ran.new.pass n (expects g.Sp.Spill.blocks c.args.stores.now.items c.args.stored.now (query_of c.args.question.now.query)) c.args.flagged c.end_granted-ran.result) same
    (c.end_granted-ran.ensures.run (expects g.Sp.Spill.blocks c.args.stores.now.items c.args.stored.now (query_of c.args.question.now.query)) c.args.flagged is))

pub returns-clause-wrote : goal.returns-clause-wrote
returns-clause-wrote g c before faults so_far w =
    let same : c.come_out-pass.result.1.id ≡ c.args.id = ap (λ (h : Held). h.id) c.come_out-pass.ensures.held ∙ c.requires.id in
    let o : List ℕ = outcome_text c.come_out-pass.result.3 in
    let text = subst (λ (n : ℕ). o ++ last_text n c.end_granted-ran.result ≡ ran_text n c.end_granted-ran.result) same c.end_granted-ran.ensures.text in
    subst (λ (l : List ℕ). Wrote before (g.Si.Sink.written c.tell-told.new.sink) faults (g.Si.Sink.faults c.tell-told.new.sink) c.tell-told.result l)
    (append_assoc so_far o (last_text c.args.id c.end_granted-ran.result) ∙ ap (λ (l : List ℕ). so_far ++ l) text)
    (c.tell-told.ensures.wrote before faults (so_far ++ o) (last_text c.args.id c.end_granted-ran.result) c.last_bytes.ensures.text (c.put_outcome-told.ensures.wrote before faults so_far w))
