use Rattle.std.proofs.Common.{ℕ, ◌≡◌, ◌≢◌, ap, sym, subst, arith}
use Rattle.std.specs.Prelude.{Option, unwrap_or}
use Rattle.pdq_office.specs.Knowledge.{IsWaitedFor}
use Rattle.pdq_office.specs.Passes.{known, session_of}
use Rattle.pdq_office.proofs.tests.one_claims_and_another_cancels.Goals as goal

pub stops-requires-clause-ticket : goal.stops-requires-clause-ticket
stops-requires-clause-ticket g c =
    let id : ℕ = c.claims-large.result.id in
    let second : session_of c.claims-small.new.pass ≡ session_of c.claims-large.new.pass = ap (λ (o : Option ℕ). unwrap_or o 0) c.claims-small.ensures.lock.1 in
    let third : session_of c.waits-small.new.pass ≡ session_of c.claims-small.new.pass = ap (λ (o : Option ℕ). unwrap_or o 0) c.waits-small.ensures.lock.1 in
    let differ : id ≢ c.claims-small.result.id = λ same. absurd (omega (arith, same, c.claims-large.ensures.ticket.0, c.claims-small.ensures.ticket.0)) in
    let then = subst (λ (n : ℕ). IsWaitedFor (known c.claims-small.new.pass) n id) (sym second) (c.claims-small.ensures.keeps.tickets id c.claims-large.ensures.ticket.1) in
    subst (λ (n : ℕ). IsWaitedFor (known c.waits-small.new.pass) n id) (sym third) (c.waits-small.ensures.keeps.tickets id differ then)

pub withdrawn-requires-clause-ticket : goal.withdrawn-requires-clause-ticket
withdrawn-requires-clause-ticket g c =
    let id : ℕ = c.waits-small.result.id in
    let same_session : session_of c.stops.new.pass ≡ session_of c.waits-small.new.pass = ap (λ (o : Option ℕ). unwrap_or o 0) c.stops.ensures.lock.1 in
    let differ : id ≢ c.claims-large.result.id = λ same. absurd (omega (arith, same, c.claims-large.ensures.ticket.0, c.claims-small.ensures.ticket.0, c.waits-small.ensures.ticket.0)) in
    subst (λ (n : ℕ). IsWaitedFor (known c.stops.new.pass) n id) (sym same_session) (c.stops.ensures.keeps.tickets id differ c.waits-small.ensures.ticket.1)
