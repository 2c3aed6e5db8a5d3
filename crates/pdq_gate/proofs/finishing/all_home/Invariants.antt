use Rattle.std.proofs.Common.{vec_len}
use Rattle.pdq_gate.proofs.Conserving.{AreComingHome}
use Rattle.pdq_gate.proofs.finishing.all_home.Given as goal

abbrev pub invariant-rows : goal.invariant-rows
invariant-rows l = AreComingHome l.initial.pool l.pool l.initial.active.items l.active.items l.regions.items

abbrev pub decreases-rows : goal.decreases-rows
decreases-rows l = vec_len l.active
