-- What a pass says through its seat at the table.
use Rattle.std.specs.Prelude.{◌≡◌, ℕ, true, false, [], ◌∷◌, length, Option, Some, None}
use Rattle.atomic_table.specs.declared.shared.Seat.{Seat}
use Rattle.pdq_turn.specs.declared.view.PassView.{PassView}

module _ {E O : Type 0} where
  -- the pass was not joined to another
  abbrev pub IsLive : PassView E O → Type 0
  IsLive v = (o : O) × (v.origin ≡ Some o)

module _ {S E O : Type 0} where
  -- the view of the seat
  abbrev pub known : Seat (Option S) (PassView E O) → PassView E O
  known p = p.me.0

  -- the seat is live, with no ticket and no slot
  abbrev pub IsFreeSeat : Seat (Option S) (PassView E O) → Type 0
  IsFreeSeat p = (p.me.1 ≡ []) × (p.me.0.ticket ≡ None) × (p.me.0.out ≡ false) × IsLive p.me.0

  -- the seat has the slot, out of which the state was taken when it had `taken` entries
  abbrev pub HasTurnSeat : Seat (Option S) (PassView E O) → ℕ → Type 0
  HasTurnSeat p taken = (p.me.1 ≡ (0, None) ∷ []) × (p.me.0.out ≡ true) × (taken ≡ length p.me.0.seen) × IsLive p.me.0

  -- the same seat of the same table, with the same origin, parties and entries
  abbrev pub SameSeat : Seat (Option S) (PassView E O) → Seat (Option S) (PassView E O) → Type 0
  SameSeat p q = (q.table_id ≡ p.table_id) × (q.me.0.origin ≡ p.me.0.origin) × (q.me.0.is_first ≡ p.me.0.is_first) × (q.me.0.parties ≡ p.me.0.parties) × (q.me.0.mine ≡ p.me.0.mine)
