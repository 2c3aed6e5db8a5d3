use Rattle.std.proofs.Common.{◌≡◌, ◌∷◌, []}
use Rattle.pdq_office.specs.Passes.{lock_at, lock_in, IsOpen, IsTicket, Unfinished}
use Rattle.bench_office.proofs.shared.collected.Given as goal

abbrev pub invariant-loop : goal.invariant-loop
invariant-loop g l = record {
  lock : (lock_at l.pass ≡ lock_in l.office) × (l.pass.session ≡ l.fn.pass.session);
  in_session : IsOpen l.pass;
  ticket : IsTicket l.pass l.waiting;
  only : Unfinished l.pass (l.waiting.id ∷ []);
}
