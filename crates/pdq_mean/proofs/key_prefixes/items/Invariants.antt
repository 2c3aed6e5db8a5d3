use Rattle.std.proofs.Common.{◌≡◌, map}
use Rattle.pdq_mean.specs.declared.key_prefixes.Prefixed.{Prefixed}
use Rattle.pdq_mean.proofs.key_prefixes.items.Given as goal

abbrev pub invariant-loop-one : goal.invariant-loop-one
invariant-loop-one g l = l.items.items ≡ map (λ (d : Prefixed g.row.T.Denot). d.item) l.yielded
