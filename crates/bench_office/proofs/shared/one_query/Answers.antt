use Rattle.std.proofs.Common.{◌∷◌, [], refl, sym, subst}
use Rattle.std.specs.Prelude.{ℕ}
use Rattle.pdq_office.specs.Passes.{Unfinished}
use Rattle.pdq_office.proofs.Calls.{ended_alone}
use Rattle.pdq_office.proofs.Sending.{sent_parts}
use Rattle.bench_office.proofs.shared.one_query.Goals as goal

pub collected-requires-clause-ticket : goal.collected-requires-clause-ticket
collected-requires-clause-ticket g c = (sent_parts c.args.pass.now c.submit.new.pass c.in-Ok.sent c.parts.result.0 c.parts.result.1 c.parts.ensures.value c.in-Ok.ensures.sent).1

pub collected-requires-clause-only : goal.collected-requires-clause-only
collected-requires-clause-only g c =
    let told = sent_parts c.args.pass.now c.submit.new.pass c.in-Ok.sent c.parts.result.0 c.parts.result.1 c.parts.ensures.value c.in-Ok.ensures.sent in
    subst (λ (id : ℕ). Unfinished c.submit.new.pass (id ∷ [])) (sym told.0) (told.2 [] c.requires.finished)

pub returns-in_default-clause-finished : goal.returns-in_default-clause-finished
returns-in_default-clause-finished g c = c.in_default.ensures.sent [] c.requires.finished

pub returns-in-Some-clause-finished : goal.returns-in-Some-clause-finished
returns-in-Some-clause-finished g c =
    let got = c.in-Some.ensures.got in
    ended_alone c.collected.new.pass c.finish.new.pass c.in-Some.held.id c.in-Some.held.id refl c.finish.ensures.ended got.2
