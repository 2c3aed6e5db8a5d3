use Rattle.std.proofs.Common.{◌≡◌, ◌+◌, ◌≤◌, ◌++◌, All, map}
use Rattle.std.specs.Prelude.{None, option_map, vec_capacity, vec_len}
use Rattle.std.specs.List.{AllZip}
use Rattle.pdq_scan.specs.Lanes.{given_width}
use Rattle.pdq_scan.specs.PartitionLanes.{IsReady, comings_from, store_view}
use Rattle.pdq_scan.specs.Readers.{coming_of}
use Rattle.pdq_scan.proofs.partition_scans.partition_lanes.Given as goal

abbrev pub invariant-opening : goal.invariant-opening
invariant-opening g l = record {
  ready : AllZip (IsReady g.Sp.Spill.blocks g.Sp.Spill.held) l.left.items l.stores.items;
  widths : All (λ p. given_width (option_map (λ ps. ps.now) l.picks) p.width ≡ l.width) l.left.items;
  stores : map (λ lane. lane.scanner.store) l.lanes.items ++ map (store_view g.Sp.Spill.blocks g.Sp.Spill.held g.Sp.Spill.puts g.Sp.Spill.faults) l.stores.items ≡ map (store_view g.Sp.Spill.blocks g.Sp.Spill.held g.Sp.Spill.puts g.Sp.Spill.faults) l.fn.stores.items;
  lefts : map (λ lane. coming_of lane.scanner) l.lanes.items ++ comings_from g.Sp.Spill.blocks (option_map (λ ps. ps.now) l.picks) l.left.items l.stores.items ≡ comings_from g.Sp.Spill.blocks (option_map (λ ps. ps.now) l.picks) l.fn.rows.items l.fn.stores.items;
  none : All (λ lane. lane.scanned ≡ 0) l.lanes.items;
  fine : All (λ lane. lane.scanner.fault ≡ None) l.lanes.items;
  lane_widths : All (λ lane. (lane.scanner.width ≡ l.width) × (lane.load.batch.width ≡ l.width)) l.lanes.items;
  count : vec_len l.lanes + vec_len l.stores ≡ vec_len l.fn.stores;
  room : vec_len l.stores + vec_len l.lanes ≤ vec_capacity l.lanes;
  capacity : vec_capacity l.fn.stores ≤ vec_capacity l.stores;
}

abbrev pub decreases-opening : goal.decreases-opening
decreases-opening g l = vec_len l.left
