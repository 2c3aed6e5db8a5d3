use Rattle.std.proofs.Common.{◌≡◌, []}
use Rattle.pdq_office.specs.Passes.{lock_at, lock_in, IsOpen, Unfinished}
use Rattle.bench_office.proofs.shared.make_queries.Given as goal

abbrev pub invariant-loop : goal.invariant-loop
invariant-loop g l = (lock_at l.pass ≡ lock_in l.office) × IsOpen l.pass × Unfinished l.pass []
