use Rattle.std.proofs.Common.{◌<◌}
use Rattle.pdq_exchange.proofs.halves.has_few_rows.Given as goal

abbrev pub invariant-loop-load : goal.invariant-loop-load
invariant-loop-load l = l.rows < 512
