use Rattle.std.proofs.Common.{◌≡◌, ◌++◌, drop, take, map}
use Rattle.pdq_sql.specs.Resolution.{gathered}
use Rattle.pdq_sql.proofs.resolving_checks.gather.Given as goal

abbrev pub invariant-loop-cluster : goal.invariant-loop-cluster
invariant-loop-cluster l = l.clusters ≡ map (gathered l.lost l.kept) (take l.cluster-index l.initial.clusters) ++ drop l.cluster-index l.initial.clusters
