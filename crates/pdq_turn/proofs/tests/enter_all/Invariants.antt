use Rattle.std.proofs.Common.{◌≡◌, true}
use Rattle.pdq_turn.specs.LockRule.{is_among}
use Rattle.pdq_turn.specs.Pass.{view_of, IsFree}
use Rattle.pdq_turn.proofs.tests.enter_all.Given as goal

abbrev pub invariant-loop-number : goal.invariant-loop-number
invariant-loop-number g l = (l.pass.seat.table_id ≡ l.lock.table.shared.table_id) × IsFree l.pass × (is_among l.party (view_of l.pass).parties ≡ true) × ((view_of l.pass).is_first ≡ (view_of l.fn.pass).is_first) × ((view_of l.pass).given ≡ (view_of l.fn.pass).given)
