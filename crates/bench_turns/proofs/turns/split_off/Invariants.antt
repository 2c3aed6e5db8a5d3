use Rattle.std.proofs.Common.{◌≡◌, true, All}
use Rattle.pdq_turn.specs.Pass.{IsFree, lock_id, lock_of, view_of}
use Rattle.bench_turns.proofs.turns.split_off.Given as goal

abbrev pub invariant-loop : goal.invariant-loop
invariant-loop l = (lock_of l.first ≡ lock_id l.lock) × IsFree l.first × ((view_of l.first).is_first ≡ true) × All (λ p. (lock_of p ≡ lock_id l.lock) × IsFree p) l.passes.items
