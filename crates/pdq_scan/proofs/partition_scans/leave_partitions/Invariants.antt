use Rattle.std.proofs.Common.{◌≡◌, ◌+◌, ◌≤◌, ◌++◌, map}
use Rattle.std.specs.Prelude.{vec_capacity, vec_len}
use Rattle.pdq_scan.specs.PartitionLanes.{store_view}
use Rattle.pdq_scan.proofs.partition_scans.leave_partitions.Given as goal

abbrev pub invariant-leaving : goal.invariant-leaving
invariant-leaving g l = record {
  stores : map (λ lane. lane.scanner.store) l.lanes.items ++ map (store_view g.Sp.Spill.blocks g.Sp.Spill.held g.Sp.Spill.puts g.Sp.Spill.faults) l.stores.items ≡ map (λ lane. lane.scanner.store) l.fn.lanes.items ++ map (store_view g.Sp.Spill.blocks g.Sp.Spill.held g.Sp.Spill.puts g.Sp.Spill.faults) l.fn.stores.items;
  room : vec_len l.lanes + vec_len l.stores ≤ vec_capacity l.stores;
  capacity : vec_capacity l.fn.stores ≤ vec_capacity l.stores;
}

abbrev pub decreases-leaving : goal.decreases-leaving
decreases-leaving g l = vec_len l.lanes
