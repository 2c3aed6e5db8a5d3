use Rattle.std.proofs.Common.{◌≡◌, All, None}
use Rattle.std.specs.Vec.Iter.{into_iter_items}
use Rattle.pdq_office.specs.Passes.{lock_at, lock_in}
use Rattle.bench_office.proofs.shared.meet_all.Given as goal

abbrev pub invariant-loop-pass : goal.invariant-loop-pass
invariant-loop-pass l = (lock_at l.first ≡ lock_in l.office) × All (λ p. (lock_at p ≡ lock_in l.office) × (p.session ≡ None)) (into_iter_items l.pass-iterator)
