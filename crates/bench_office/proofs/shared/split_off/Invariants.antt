use Rattle.std.proofs.Common.{◌≡◌, All, None, true}
use Rattle.pdq_office.specs.Passes.{known, lock_at, lock_in}
use Rattle.bench_office.proofs.shared.split_off.Given as goal

abbrev pub invariant-loop : goal.invariant-loop
invariant-loop l = (lock_at l.first ≡ lock_in l.office) × ((known l.first).is_first ≡ true) × All (λ p. (lock_at p ≡ lock_in l.office) × (p.session ≡ None)) l.passes.items
