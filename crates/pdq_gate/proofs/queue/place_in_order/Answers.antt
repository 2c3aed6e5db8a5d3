use Rattle.std.proofs.Common.{arith, rules}
use Rattle.std.proofs.lemmas.List.Sorted.{IsPartitionPoint-from_clause}
use Rattle.pdq_gate.specs.Ranks.{is_ahead}
use Rattle.pdq_gate.proofs.Ranks.{prefix_from_point}
use Rattle.pdq_gate.proofs.queue.place_in_order.Goals as goal

pub returns-clause-value : goal.returns-clause-value
returns-clause-value c =
    let point = IsPartitionPoint-from_clause (λ r. is_ahead r c.args.rank.now) _ _ c.partition_point.ensures.partitioned c.requires.sorted (λ a r q k. search rules) in
    prefix_from_point (λ r. is_ahead r c.args.rank.now) c.args.order.now.items c.partition_point.result (omega (arith, c.partition_point.ensures.bound)) point
