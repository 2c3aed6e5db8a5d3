use Rattle.std.proofs.Common.{◌≡◌}
use Rattle.std.specs.List.{range_with_len}
use Rattle.pdq_gather.proofs.plans.places.Given as goal

abbrev pub invariant-counting : goal.invariant-counting
invariant-counting l = l.places.items ≡ range_with_len 0 l.place
