use Rattle.std.proofs.Common.{◌≡◌, vec_len}
use Rattle.pdqd.proofs.script_tables_tests.failing_stores.Given as goal

abbrev pub invariant-loop : goal.invariant-loop
invariant-loop l = vec_len l.stores ≡ l.counter
