use Rattle.std.proofs.Common.{◌≡◌, vec_len}
use Rattle.pdq_session.proofs.tests.stores.Given as goal

abbrev pub invariant-stores : goal.invariant-stores
invariant-stores l = vec_len l.stores ≡ l.counter
