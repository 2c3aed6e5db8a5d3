use Rattle.std.proofs.Common.{◌≡◌, ◌++◌, drop, take, map}
use Rattle.pdq_exchange.specs.Waves.{at_each}
use Rattle.pdq_exchange.proofs.halves.hand_over.Given as goal

abbrev pub invariant-loop-i : goal.invariant-loop-i
invariant-loop-i g l = (l.loads ≡ map (λ lane. lane.load) (take l.i l.initial.lanes) ++ drop l.i l.initial.loads) × (map (λ lane. lane.load) l.lanes ≡ take l.i l.initial.loads ++ map (λ lane. lane.load) (drop l.i l.initial.lanes)) × (drop l.i l.lanes ≡ drop l.i l.initial.lanes) × at_each l.initial.lanes l.lanes (λ i old new. (new.scanner ≡ old.scanner) × (new.scanned ≡ old.scanned) × (new.outcome ≡ old.outcome))
