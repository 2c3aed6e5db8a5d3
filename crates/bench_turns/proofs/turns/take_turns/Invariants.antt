use Rattle.std.proofs.Common.{◌≡◌}
use Rattle.pdq_turn.specs.Pass.{IsFree, lock_id, lock_of}
use Rattle.bench_turns.proofs.turns.take_turns.Given as goal

abbrev pub invariant-loop : goal.invariant-loop
invariant-loop g l = (lock_of l.pass ≡ lock_id l.lock) × IsFree l.pass
