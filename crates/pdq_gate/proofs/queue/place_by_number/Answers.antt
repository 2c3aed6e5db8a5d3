use Rattle.std.proofs.Common.{arith, rules}
use Rattle.std.specs.Prelude.{nat_lt}
use Rattle.std.proofs.lemmas.List.Sorted.{IsPartitionPoint-from_clause}
use Rattle.pdq_gate.proofs.Ranks.{prefix_from_point, numbers_parted}
use Rattle.pdq_gate.proofs.queue.place_by_number.Goals as goal

pub returns-clause-value : goal.returns-clause-value
returns-clause-value c =
    let point = IsPartitionPoint-from_clause (λ w. nat_lt w.id c.args.id) _ _ c.partition_point.ensures.partitioned (numbers_parted _ c.args.id c.requires.rising) (λ a r q k. search rules) in
    prefix_from_point (λ w. nat_lt w.id c.args.id) c.args.rows.now.items c.partition_point.result (omega (arith, c.partition_point.ensures.bound)) point
