use Rattle.std.proofs.Common.{◌≡◌, ◌<◌, arith, length, get_or}
use Rattle.std.proofs.lemmas.Grind.{common_steps}
use Rattle.std.proofs.lemmas.List.Edits.{map_over_more}
use Rattle.pdq_sql.specs.Resolution.{gathered}
use Rattle.pdq_sql.proofs.resolving_checks.gather.Goals as goal

pub loop-cluster-preserved : goal.loop-cluster-preserved
loop-cluster-preserved c =
    let xs = c.loop-cluster.clusters in
    let i = c.loop-cluster.cluster-index in
    let here : i < length xs = omega arith in
    let is : get_or xs i 0 ≡ get_or xs i (get_or xs i 0) = grind (arith, common_steps) in
    rw c.gathered.ensures.value (map_over_more (gathered c.args.lost c.args.kept) c.args.clusters.now xs i (get_or xs i 0) (omega arith) c.loop-cluster.invariant is)
