use Rattle.std.proofs.Common.{◌≡◌, All}
use Rattle.std.specs.Vec.Iter.{into_iter_items}
use Rattle.pdq_turn.specs.Pass.{IsFree, lock_id, lock_of}
use Rattle.pdq_turn.proofs.tests.meet_all.Given as goal

abbrev pub invariant-loop-pass : goal.invariant-loop-pass
invariant-loop-pass l = (lock_of l.first ≡ lock_id l.lock) × IsFree l.first × All (λ p. (lock_of p.0 ≡ lock_id l.lock) × IsFree p.0) (into_iter_items l.pass-iterator)
