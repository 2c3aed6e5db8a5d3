use Rattle.std.proofs.Common.{◌∙◌, ap, Ok}
use Rattle.pdq_query.specs.Queries.{query_of}
use Rattle.pdq_office.specs.Passes.{lock_in}
use Rattle.pdq_office.specs.declared.answers.Sent.{Sent}
use Rattle.pdq_serve.specs.Questions.{expects}
use Rattle.pdq_talk.proofs.Plainly.{some_party}
use Rattle.pdq_serve.proofs.Asked.{was_placed, was_refused}
use Rattle.pdq_serve.proofs.query.answer_query.Goals as goal

pub returns-in-Ok-clause-ends : goal.returns-in-Ok-clause-ends
returns-in-Ok-clause-ends g c =
    let party = some_party c.args.standing.now.party c.requires.some in
    was_placed (lock_in c.args.office.now) c.args.pass c.submit.new.pass c.follow_placed.result.0 c.args.standing.now c.requires.hand party.0 party.1 c.args.question.now.frags (expects g.Sp.Spill.blocks c.args.stores.now.items c.args.stored.now (query_of c.args.question.now.query)) c.follow_placed.result.2 c.submit.ensures.lock
    c.submit.result c.parts.result.0 c.parts.result.1 c.follow_placed.result.1 (c.in-Ok.is ∙ ap (λ (x : Sent). Ok x) c.parts.ensures.value) c.submit.ensures.turn c.submit.ensures.sent c.follow_placed.ensures.followed

pub returns-in-Err-clause-ends : goal.returns-in-Err-clause-ends
returns-in-Err-clause-ends g c =
    let party = some_party c.args.standing.now.party c.requires.some in
    was_refused (lock_in c.args.office.now) c.args.pass c.submit.new.pass c.submit.new.pass c.args.standing.now c.requires.hand party.0 party.1 c.args.question.now.frags (expects g.Sp.Spill.blocks c.args.stores.now.items c.args.stored.now (query_of c.args.question.now.query)) c.answer_refused-reply.result.1 c.submit.ensures.lock
    c.submit.result c.in-Err.refused c.answer_refused-reply.result.0 c.in-Err.is c.submit.ensures.turn c.submit.ensures.sent c.answer_refused-reply.ensures.reply
