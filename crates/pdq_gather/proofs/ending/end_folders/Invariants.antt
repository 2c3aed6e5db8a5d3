use Rattle.std.proofs.Common.{◌≡◌, ◌+◌, ◌≤◌, List, ◌++◌, All}
use Rattle.std.specs.Prelude.{vec_len, vec_capacity}
use Rattle.pdq_exchange.specs.declared.desk.Desk.{Desk}
use Rattle.pdq_group.specs.Folds.{words_of_folds}
use Rattle.pdq_owner.specs.Folders.{FolderView}
use Rattle.pdq_gather.specs.Homes.{Each, store_of}
use Rattle.pdq_gather.specs.Groups.{DeskHome, IsOut, IsReceipt, PutGroups, PutsAtLeast}
use Rattle.pdq_gather.proofs.ending.end_folders.Given as goal

abbrev pub invariant-ending : goal.invariant-ending
invariant-ending g l = let s = g.Sp.Spill in record {
  left : (past : List (Desk FolderView)) × (past ++ l.desks.items ≡ l.fn.desks.items) × Each (DeskHome (store_of s.blocks s.held s.puts s.faults)) past l.benches.items × Each (PutsAtLeast s.puts) past l.benches.items × Each IsReceipt past l.folded.items × PutGroups past l.fn.out.rows l.out.rows;
  widths : All (λ desk. l.out.width ≡ desk.owner.grouper.table.keys + words_of_folds desk.owner.grouper.table.folds) l.desks.items;
  out : IsOut l.out;
  many : vec_len l.benches + vec_len l.desks ≡ vec_len l.fn.desks;
  capacity : vec_capacity l.fn.benches ≤ vec_capacity l.benches;
  bench_room : vec_len l.benches + vec_len l.desks ≤ vec_capacity l.benches;
  folded_room : vec_len l.folded + vec_len l.desks ≤ vec_capacity l.folded;
}

abbrev pub decreases-ending : goal.decreases-ending
decreases-ending g l = vec_len l.desks
