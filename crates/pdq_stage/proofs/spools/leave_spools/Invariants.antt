use Rattle.std.proofs.Common.{◌≡◌, ◌+◌, ◌≤◌, ◌++◌, map}
use Rattle.std.specs.Prelude.{vec_capacity, vec_len}
use Rattle.pdq_step.specs.Homes.{store_of}
use Rattle.pdq_stage.proofs.spools.leave_spools.Given as goal

abbrev pub invariant-leaving : goal.invariant-leaving
invariant-leaving g l = record {
  all : map (store_of g.Sp.Spill.blocks g.Sp.Spill.held g.Sp.Spill.puts g.Sp.Spill.faults) l.stores.items ++ map (λ s. s.store) l.spools.items ≡ map (store_of g.Sp.Spill.blocks g.Sp.Spill.held g.Sp.Spill.puts g.Sp.Spill.faults) l.fn.stores.items ++ map (λ s. s.store) l.fn.spools.items;
  room : vec_len l.spools + vec_len l.stores ≤ vec_capacity l.stores;
}

abbrev pub decreases-leaving : goal.decreases-leaving
decreases-leaving g l = vec_len l.spools
