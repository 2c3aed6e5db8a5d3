use Rattle.std.proofs.Common.{◌≡◌, ◌+◌, ◌≤◌, List, ◌++◌}
use Rattle.std.specs.Prelude.{vec_len, vec_capacity}
use Rattle.pdq_spill.specs.declared.bench.Bench.{Bench}
use Rattle.pdq_group.specs.Groupers.{GrouperView}
use Rattle.pdq_gather.specs.Homes.{Each, HomeOf, store_of}
use Rattle.pdq_gather.proofs.ending.leave_groupers.Given as goal

abbrev pub invariant-leaving : goal.invariant-leaving
invariant-leaving g l = let s = g.Sp.Spill in record {
  left : (past : List GrouperView) × (more : List (Bench g.row.Sp.Denot)) × (past ++ l.groupers.items ≡ l.fn.groupers.items) × (l.benches.items ≡ l.fn.benches.items ++ more) × Each (HomeOf (store_of s.blocks s.held s.puts s.faults)) past more;
  bench_room : vec_len l.benches + vec_len l.groupers ≤ vec_capacity l.benches;
}

abbrev pub decreases-leaving : goal.decreases-leaving
decreases-leaving g l = vec_len l.groupers
