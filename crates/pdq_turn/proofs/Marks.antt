-- One mark, one lock.
use Rattle.std.proofs.Common.{◌≡◌}
use Rattle.atomic_table.specs.Seated.{TableId}
use Rattle.pdq_turn.specs.Pass.{mark_of}

pub one_mark : (a b : TableId) → mark_of a ≡ mark_of b → a ≡ b
one_mark a b e =
    let w : a.words ≡ b.words = cc e in let s : a.slots ≡ b.slots = cc e in let v : a.views_name ≡ b.views_name = cc e in let t : a.atom ≡ b.atom = cc e in
    let k : a.block ≡ b.block = cc e in let o : a.offset ≡ b.offset = cc e in let n : a.slot_names ≡ b.slot_names = cc e in
    λ i. record { words = w i; slots = s i; views_name = v i; atom = t i; block = k i; offset = o i; slot_names = n i }
