-- The words that clauses use of a pass and of a lock.
use Rattle.std.specs.Prelude.{ℕ, List, ◌∷◌}
use Rattle.atomic_table.specs.Seated.{TableId}
use Rattle.pdq_turn.specs.declared.lock.Pass.{Pass}
use Rattle.pdq_turn.specs.declared.lock.Turnstile.{Turnstile}
use Rattle.pdq_turn.specs.declared.view.PassView.{PassView}
use Rattle.pdq_turn.specs.Seats.{IsFreeSeat, HasTurnSeat, SameSeat}

module _ {S E O : Type 0} where
  -- the lock that the pass is of
  abbrev pub lock_of : Pass S E O → TableId
  lock_of p = p.seat.table_id

  -- the view of the pass
  abbrev pub view_of : Pass S E O → PassView E O
  view_of p = p.seat.me.0

  -- the pass is not joined to another, has no ticket and has not the state
  abbrev pub IsFree : Pass S E O → Type 0
  IsFree p = IsFreeSeat p.seat

  -- the pass has the turn, and the state is out with it
  abbrev pub HasTurn : Pass S E O → Type 0
  HasTurn p = HasTurnSeat p.seat p.taken

  -- the same pass of the same lock, with the same parties and entries
  abbrev pub SamePass : Pass S E O → Pass S E O → Type 0
  SamePass p q = SameSeat p.seat q.seat

  -- the identity of the lock
  abbrev pub lock_id : Turnstile S E O → TableId
  lock_id t = t.table.shared.table_id

-- the identity of a lock as plain numbers: two locks with one mark are one
abbrev pub mark_of : TableId → List ℕ
mark_of z = z.words ∷ z.slots ∷ z.views_name ∷ z.atom ∷ z.block ∷ z.offset ∷ z.slot_names
