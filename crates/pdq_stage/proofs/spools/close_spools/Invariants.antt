use Rattle.std.proofs.Common.{◌≡◌, ◌+◌, ◌≤◌, List, ◌++◌, map}
use Rattle.std.specs.Prelude.{vec_capacity, vec_len}
use Rattle.std.specs.List.{AllZip}
use Rattle.pdq_owner.specs.Spools.{SpoolView}
use Rattle.pdq_step.specs.Homes.{store_of}
use Rattle.pdq_stage.specs.Spooling.{AreSealedIn, IsLaterView}
use Rattle.pdq_stage.proofs.spools.close_spools.Given as goal

abbrev pub invariant-closing : goal.invariant-closing
invariant-closing g l = record {
  left : (past : List SpoolView) × (past ++ l.spools.items ≡ l.fn.spools.items) × AllZip IsLaterView (map (λ s. s.store) past) (map (store_of g.Sp.Spill.blocks g.Sp.Spill.held g.Sp.Spill.puts g.Sp.Spill.faults) l.stores.items) × AreSealedIn g.Sp.Spill.blocks g.Sp.Spill.held past l.rows.items l.stores.items;
  store_room : vec_len l.spools + vec_len l.stores ≤ vec_capacity l.stores;
  row_room : vec_len l.spools + vec_len l.rows ≤ vec_capacity l.rows;
}

abbrev pub decreases-closing : goal.decreases-closing
decreases-closing g l = vec_len l.spools
