use Rattle.std.proofs.Common.{map, take, ◌≡◌}
use Rattle.pdq_prune.specs.Elimination.{widest_of}
use Rattle.pdq_prune.proofs.keeping.widest.Given as goal

abbrev pub invariant-loop-fragments : goal.invariant-loop-fragments
invariant-loop-fragments l = l.widest ≡ widest_of (map (λ places. places.items) (take l.fragments-index l.left))
