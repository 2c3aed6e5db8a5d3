use Rattle.std.proofs.Common.{◌≡◌, vec_len}
use Rattle.pdqd.proofs.stores_made.Given as goal

abbrev pub invariant-loop : goal.invariant-loop
invariant-loop l = vec_len l.stores ≡ l.counter
