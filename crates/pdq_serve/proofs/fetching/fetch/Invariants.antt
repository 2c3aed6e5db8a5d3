use Rattle.std.proofs.Common.{◌≡◌}
use Rattle.pdq_office.specs.Passes.{Follows, IsTicket}
use Rattle.pdq_serve.proofs.fetching.fetch.Given as goal

abbrev pub invariant-turns : goal.invariant-turns
invariant-turns g l = record {
  iterator : (goal.iterator-turns g).can_next l.iterator' × (goal.iterator-turns g).is_finite l.iterator';
  follows : Follows l.initial.pass l.pass;
  ticket : l.waiting ≡ l.initial.waiting;
  has : IsTicket l.pass l.waiting;
}
