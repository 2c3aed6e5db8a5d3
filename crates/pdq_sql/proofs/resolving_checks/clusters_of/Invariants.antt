use Rattle.std.proofs.Common.{◌≡◌, drop}
use Rattle.pdq_sql.specs.Resolution.{clusters_of, united_by}
use Rattle.pdq_sql.proofs.resolving_checks.clusters_of.Given as goal

abbrev pub invariant-loop-left : goal.invariant-loop-left
invariant-loop-left l = united_by l.clusters (drop l.left-index l.joins) ≡ clusters_of l.joins
