use Rattle.std.proofs.Common.{subst, sym, ℕ}
use Rattle.pdq_query.specs.Queries.{query_of}
use Rattle.pdq_office.specs.Passes.{known}
use Rattle.pdq_office.specs.Knowledge.{IsWaitedFor}
use Rattle.pdq_reply.specs.Replies.{cancelled_text}
use Rattle.pdq_serve.specs.Questions.{expects}
use Rattle.pdq_serve.specs.Query.{WasWithdrawn, WasGrantedTo}
use Rattle.pdq_serve.proofs.Collected.{same_number, withdrawn_followed, granted_followed}
use Rattle.pdq_serve.proofs.query.follow.Goals as goal

pub fetch-fetched-requires-clause-ticket : goal.fetch-fetched-requires-clause-ticket
fetch-fetched-requires-clause-ticket g c =
    subst (λ (n : ℕ). IsWaitedFor (known c.cancel_if_broken.new.pass) n c.args.ticket.id) (sym (same_number c.args.pass c.cancel_if_broken.new.pass c.cancel_if_broken.ensures.cancelled.later.session))
    (c.cancel_if_broken.ensures.cancelled.tickets c.args.ticket.id c.requires.ticket)

pub returns-in-Withdrawn-clause-followed : goal.returns-in-Withdrawn-clause-followed
returns-in-Withdrawn-clause-followed g c =
    withdrawn_followed c.args.pass c.cancel_if_broken.new.pass c.args.told c.tell-told.result c.cancel_if_broken.ensures.cancelled c.tell-told.ensures.kept c.fetch-fetched.new.pass c.args.id c.in-Withdrawn.by c.in-Withdrawn.step
    (expects g.Sp.Spill.blocks c.args.stores.now.items c.args.stored.now (query_of c.args.question.now.query))
    (subst (λ (n : ℕ). WasWithdrawn c.cancel_if_broken.new.pass c.fetch-fetched.new.pass n c.in-Withdrawn.by c.in-Withdrawn.step) c.requires.id c.in-Withdrawn.ensures.fetched)

pub returns-in-Withdrawn-clause-wrote : goal.returns-in-Withdrawn-clause-wrote
returns-in-Withdrawn-clause-wrote g c before faults so_far w =
    c.tell-told.ensures.wrote before faults so_far (cancelled_text c.args.id c.in-Withdrawn.step c.in-Withdrawn.by) c.cancelled_bytes.ensures.text w

pub returns-in-Granted-clause-followed : goal.returns-in-Granted-clause-followed
returns-in-Granted-clause-followed g c =
    granted_followed c.args.pass c.cancel_if_broken.new.pass c.args.told c.follow_granted.result.2 c.cancel_if_broken.ensures.cancelled c.follow_granted.ensures.kept c.fetch-fetched.new.pass c.follow_granted.result.0 c.args.id
    c.in-Granted.held c.in-Granted.grant (expects g.Sp.Spill.blocks c.args.stores.now.items c.args.stored.now (query_of c.args.question.now.query)) c.follow_granted.result.1
    (subst (λ (n : ℕ). WasGrantedTo c.cancel_if_broken.new.pass c.fetch-fetched.new.pass n c.in-Granted.held c.in-Granted.grant) c.requires.id c.in-Granted.ensures.fetched)
    c.follow_granted.ensures.run
