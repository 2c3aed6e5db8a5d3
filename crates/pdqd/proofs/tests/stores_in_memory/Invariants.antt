use Rattle.std.proofs.Common.{◌≡◌, vec_len}
use Rattle.pdqd.proofs.tests.stores_in_memory.Given as goal

abbrev pub invariant-loop : goal.invariant-loop
invariant-loop l = vec_len l.stores ≡ l.counter
