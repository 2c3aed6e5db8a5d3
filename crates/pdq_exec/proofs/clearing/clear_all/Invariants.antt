use Rattle.std.proofs.Common.{◌≡◌, ℕ, ◌<◌, ◌≤◌, length, get_or}
use Rattle.pdq_exec.specs.Answering.{IsClearedStore}
use Rattle.pdq_exec.proofs.clearing.clear_all.Given as goal

abbrev pub invariant-loop-store : goal.invariant-loop-store
invariant-loop-store g l = record {
  long : length l.store-items ≡ length l.fn.stores.items;
  done : (i : ℕ) (d : _) → i < l.store-index → IsClearedStore g.Sp.Spill.blocks g.Sp.Spill.held g.Sp.Spill.faults g.Sp.Spill.puts (get_or l.fn.stores.items i d) (get_or l.store-items i d);
  rest : (i : ℕ) (d : _) → l.store-index ≤ i → get_or l.store-items i d ≡ get_or l.fn.stores.items i d;
}
