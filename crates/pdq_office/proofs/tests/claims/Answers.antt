use Rattle.std.proofs.Common.{rules, ◌≡◌}
use Rattle.pdq_office.proofs.Sending.{sent_parts}
use Rattle.pdq_office.proofs.tests.claims.Goals as goal

pub returns-clause-ticket : goal.returns-clause-ticket
returns-clause-ticket g c =
    let same : c.parts.result.0.id ≡ c.args.told.id = search rules in
    (same, (sent_parts c.args.pass.now c.submit.new.pass c.in-Ok.sent c.parts.result.0 c.parts.result.1 c.parts.ensures.value c.in-Ok.ensures.sent).1)
