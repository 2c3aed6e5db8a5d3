use Rattle.std.proofs.Common.{◌≡◌, ◌∙◌, ◌∷◌, [], sym}
use Rattle.pdq_office.proofs.Calls.{ended_alone}
use Rattle.pdq_office.proofs.Sending.{sent_parts}
use Rattle.pdq_office.proofs.tests.one_query.Goals as goal

pub collect-requires-clause-ticket : goal.collect-requires-clause-ticket
collect-requires-clause-ticket g c = (sent_parts c.args.pass.now c.submit.new.pass c.in-Ok.sent c.parts.result.0 c.parts.result.1 c.parts.ensures.value c.in-Ok.ensures.sent).1

pub returns-clause-finished : goal.returns-clause-finished
returns-clause-finished g c =
    let told = sent_parts c.args.pass.now c.submit.new.pass c.in-Ok.sent c.parts.result.0 c.parts.result.1 c.parts.ensures.value c.in-Ok.ensures.sent in
    let got = c.in-Granted.ensures.got in
    ended_alone c.collect.new.pass c.finish.new.pass c.in-Granted.held.id c.parts.result.1.id (sym told.0 ∙ sym got.0) c.finish.ensures.ended (got.3 (c.parts.result.1.id ∷ []) (told.2 [] c.requires.finished))
