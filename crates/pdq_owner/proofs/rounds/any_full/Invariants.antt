use Rattle.std.proofs.Common.{◌≡◌, ℕ, ◌<◌, get_or, false}
use Rattle.pdq_exchange.specs.declared.desk.Desk.{Desk}
use Rattle.pdq_owner.proofs.rounds.any_full.Given as goal

abbrev pub invariant-loop-desk : goal.invariant-loop-desk
invariant-loop-desk g l = (k : ℕ) (d : Desk g.row.Ow.Denot) → k < l.desk-index → g.Ow.Fills.full (get_or l.desks k d).owner ≡ false
