use Rattle.std.proofs.Common.{◌≡◌, ◌+◌, ◌≤◌, List, ◌++◌}
use Rattle.std.specs.Prelude.{vec_len, vec_capacity}
use Rattle.pdq_spill.specs.declared.bench.Bench.{Bench}
use Rattle.pdq_exchange.specs.declared.desk.Desk.{Desk}
use Rattle.pdq_owner.specs.Folders.{FolderView}
use Rattle.pdq_gather.specs.Homes.{Each, store_of}
use Rattle.pdq_gather.specs.Groups.{DeskHome}
use Rattle.pdq_gather.proofs.ending.leave_folders.Given as goal

abbrev pub invariant-leaving : goal.invariant-leaving
invariant-leaving g l = let s = g.Sp.Spill in record {
  left : (past : List (Desk FolderView)) × (more : List (Bench g.row.Sp.Denot)) × (past ++ l.desks.items ≡ l.fn.desks.items) × (l.benches.items ≡ l.fn.benches.items ++ more) × Each (DeskHome (store_of s.blocks s.held s.puts s.faults)) past more;
  bench_room : vec_len l.benches + vec_len l.desks ≤ vec_capacity l.benches;
  many : vec_len l.benches + vec_len l.desks ≡ vec_len l.fn.benches + vec_len l.fn.desks;
  capacity : vec_capacity l.fn.benches ≤ vec_capacity l.benches;
}

abbrev pub decreases-leaving : goal.decreases-leaving
decreases-leaving g l = vec_len l.desks
