use Rattle.std.proofs.Common.{ℕ, subst, refl}
use Rattle.std.specs.Prelude.{None}
use Rattle.pdq_query.specs.Queries.{query_of}
use Rattle.pdq_office.specs.Passes.{lock_in}
use Rattle.pdq_serve.specs.declared.commands.Request.{Request}
use Rattle.pdq_talk.specs.declared.replied.Replied.TheVariants as told
use Rattle.pdq_talk.specs.Lines as asked
use Rattle.pdq_talk.specs.Lines.{Asked}
use Rattle.pdq_serve.specs.Commands.{IsRequest}
use Rattle.pdq_talk.specs.Plain.{plain_asked}
use Rattle.pdq_talk.specs.Writing.{EndsIn}
use Rattle.pdq_serve.specs.Questions.{expects, frags_of, IsQuestion}
use Rattle.pdq_talk.proofs.Plainly.{ends_from, plainly}
use Rattle.pdq_serve.proofs.lines.answer_line.Goals as goal

pub returns-in-Plain-clause-ends : goal.returns-in-Plain-clause-ends
returns-in-Plain-clause-ends g c =
    rw c.in-Plain.is (ends_from (lock_in c.args.office.now) c.args.pass c.answer_plain-reply.new.pass c.args.standing.now (plain_asked c.in-Plain.line) c.answer_plain-reply.result c.tell_reply-told.result c.answer_plain-reply.ensures.comes)

pub returns-in-None-clause-ends : goal.returns-in-None-clause-ends
returns-in-None-clause-ends g c =
    let line : Asked = asked.Query (frags_of c.args.stored.now (query_of c.in-Query.question.query)) (expects g.Sp.Spill.blocks c.args.stores.now.items c.args.stored.now (query_of c.in-Query.question.query)) in
    rw (c.in-Query.is, c.answer_unopened-reply.ensures.reply) (ends_from (lock_in c.args.office.now) c.args.pass c.args.pass c.args.standing.now line told.NoSession c.answer_unopened-reply.result.1
    (plainly (lock_in c.args.office.now) c.args.pass c.args.standing.now c.requires.hand line told.NoSession None c.in-None.is c.requires.hand refl (λ k. refl)))

pub answer_query-requires-clause-question : goal.answer_query-requires-clause-question
answer_query-requires-clause-question g c = λ held lives. subst (λ (r : Request). IsRequest c.args.stored.now r) c.in-Query.is c.requires.request

pub returns-in-Some-clause-ends : goal.returns-in-Some-clause-ends
returns-in-Some-clause-ends g c =
    let q : IsQuestion c.args.stored.now c.in-Query.question = subst (λ (r : Request). IsRequest c.args.stored.now r) c.in-Query.is c.requires.request in
    rw c.in-Query.is (subst (λ (n : ℕ). EndsIn (lock_in c.args.office.now) c.args.pass c.answer_query.result.0 c.args.standing.now (asked.Query n (expects g.Sp.Spill.blocks c.args.stores.now.items c.args.stored.now (query_of c.in-Query.question.query))) c.answer_query.result.1 c.answer_query.result.2)
    q.frags c.answer_query.ensures.ends)
