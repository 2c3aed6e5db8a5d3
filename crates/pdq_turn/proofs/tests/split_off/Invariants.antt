use Rattle.std.proofs.Common.{◌≡◌, true, All}
use Rattle.pdq_turn.specs.Pass.{IsFree, lock_id, lock_of, view_of}
use Rattle.pdq_turn.proofs.tests.split_off.Given as goal

abbrev pub invariant-loop-party : goal.invariant-loop-party
invariant-loop-party l = (lock_of l.first ≡ lock_id l.lock) × IsFree l.first × ((view_of l.first).is_first ≡ true) × All (λ p. (lock_of p.0 ≡ lock_id l.lock) × IsFree p.0) l.passes.items
