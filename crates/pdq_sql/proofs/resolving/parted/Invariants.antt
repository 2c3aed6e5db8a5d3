use Rattle.std.proofs.Common.{◌≡◌}
use Rattle.std.specs.List.{filter_map}
use Rattle.pdq_sql.specs.Resolution.{filter_of, join_of}
use Rattle.pdq_sql.proofs.resolving.parted.Given as goal

abbrev pub invariant-loop-condition : goal.invariant-loop-condition
invariant-loop-condition l = record {
  filters : l.filters.items ≡ filter_map filter_of l.yielded;
  joins : l.joins.items ≡ filter_map join_of l.yielded;
}
