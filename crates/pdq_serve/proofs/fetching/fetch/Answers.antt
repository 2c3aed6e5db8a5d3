use Rattle.std.proofs.Common.{subst}
use Rattle.pdq_office.specs.declared.pass.Ticket.{Ticket}
use Rattle.pdq_serve.specs.Query.{WasGrantedTo, WasWithdrawn}
use Rattle.pdq_serve.proofs.Collected.{granted_after, withdrawn_after}
use Rattle.pdq_serve.proofs.fetching.fetch.Goals as goal

pub returns-in-Granted : goal.returns-in-Granted
returns-in-Granted g c = record {
  fetched =
      granted_after c.args.pass.now c.turns.pass c.collect_once.new.pass c.turns.invariant.follows c.args.ticket.id c.in-Granted.held c.in-Granted.grant
      (subst (λ (t : Ticket). WasGrantedTo c.turns.pass c.collect_once.new.pass t.id c.in-Granted.held c.in-Granted.grant) c.turns.invariant.ticket c.in-Granted.ensures.got);
}

pub returns-in-Cancelled : goal.returns-in-Cancelled
returns-in-Cancelled g c = record {
  fetched =
      withdrawn_after c.args.pass.now c.turns.pass c.collect_once.new.pass c.turns.invariant.follows c.args.ticket.id c.in-Cancelled.by c.in-Cancelled.step
      (subst (λ (t : Ticket). WasWithdrawn c.turns.pass c.collect_once.new.pass t.id c.in-Cancelled.by c.in-Cancelled.step) c.turns.invariant.ticket c.in-Cancelled.ensures.got);
}
