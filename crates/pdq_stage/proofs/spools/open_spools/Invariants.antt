use Rattle.std.proofs.Common.{◌≡◌, ◌+◌, ◌≤◌, ◌++◌, map, All}
use Rattle.std.specs.Prelude.{vec_capacity, vec_len}
use Rattle.pdq_step.specs.Homes.{store_of}
use Rattle.pdq_stage.specs.Spooling.{IsEmptySpool}
use Rattle.pdq_stage.proofs.spools.open_spools.Given as goal

abbrev pub invariant-opening : goal.invariant-opening
invariant-opening g l = record {
  all : map (λ s. s.store) l.spools.items ++ map (store_of g.Sp.Spill.blocks g.Sp.Spill.held g.Sp.Spill.puts g.Sp.Spill.faults) l.stores.items ≡ map (store_of g.Sp.Spill.blocks g.Sp.Spill.held g.Sp.Spill.puts g.Sp.Spill.faults) l.fn.stores.items;
  new : All (IsEmptySpool l.width l.most) l.spools.items;
  count : vec_len l.spools + vec_len l.stores ≡ vec_len l.fn.stores;
  room : vec_len l.spools + vec_len l.stores ≤ vec_capacity l.spools;
  capacity : vec_capacity l.fn.stores ≤ vec_capacity l.stores;
}

abbrev pub decreases-opening : goal.decreases-opening
decreases-opening g l = vec_len l.stores
