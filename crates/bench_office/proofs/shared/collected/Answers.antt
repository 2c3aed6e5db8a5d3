use Rattle.std.proofs.Common.{◌∙◌, ◌∷◌, [], refl, sym, subst}
use Rattle.std.specs.Prelude.{ℕ}
use Rattle.pdq_office.specs.Passes.{Unfinished}
use Rattle.pdq_office.specs.declared.pass.Ticket.{Ticket}
use Rattle.pdq_office.proofs.Calls.{ended_alone}
use Rattle.bench_office.proofs.shared.collected.Goals as goal

pub loop-preserved : goal.loop-preserved
loop-preserved g c =
    let i = c.loop.invariant in
    let got = c.in-Waiting.ensures.got in
    record {
      lock = (c.collect.ensures.lock.0 ∙ i.lock.0, c.collect.ensures.lock.1 ∙ i.lock.1);
      in_session = (i.in_session.0, c.collect.ensures.lock.1 ∙ i.in_session.1);
      ticket = got.1;
      only = subst (λ (t : Ticket). Unfinished c.collect.new.pass (t.id ∷ [])) (sym got.0) (got.2 (c.loop.waiting.id ∷ []) i.only);
    }

pub returns-in-Granted-clause-got : goal.returns-in-Granted-clause-got
returns-in-Granted-clause-got g c =
    let got = c.in-Granted.ensures.got in
    (got.2, sym got.1, subst (λ (id : ℕ). Unfinished c.collect.new.pass (id ∷ [])) (sym got.0) (got.3 (c.loop.waiting.id ∷ []) c.loop.invariant.only))

pub returns-in-Cancelled-clause-got : goal.returns-in-Cancelled-clause-got
returns-in-Cancelled-clause-got g c = ended_alone c.loop.pass c.collect.new.pass c.loop.waiting.id c.loop.waiting.id refl c.in-Cancelled.ensures.got c.loop.invariant.only
