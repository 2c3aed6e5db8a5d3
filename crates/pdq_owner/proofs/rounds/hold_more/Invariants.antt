use Rattle.std.proofs.Common.{◌≡◌, ◌+◌, take, sum_by}
use Rattle.std.specs.Prelude.{Some}
use Rattle.pdq_owner.proofs.rounds.hold_more.Given as goal

abbrev pub invariant-loop-desk : goal.invariant-loop-desk
invariant-loop-desk g l = l.fn.most ≡ Some (l.room + sum_by (λ desk. g.Ow.Fills.count desk.owner) (take l.desk-index l.desks))
