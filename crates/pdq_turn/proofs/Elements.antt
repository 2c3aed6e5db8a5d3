-- The elements of a vector that a loop takes one by one.
use Rattle.std.proofs.Common.{◌≡◌, ◌∷◌, All, Option, Some, None, subst, arith}
use Rattle.std.proofs.lemmas.List.Elements.{All-tail}
use Rattle.std.specs.Vec.Iter.{into_iter_items, into_iter_steps}
use Rattle.std.specs.declared.vec.IntoIter.{IntoIter}

-- what holds of each element still to come holds of the next one, and of those behind it
pub all_next : {X Z : Type 0} (P : X → Type 0) (s t : IntoIter X Z) (r : Option X) (x : X) → into_iter_steps s r t → r ≡ Some x → All P (into_iter_items s) → P x × All P (into_iter_items t)
all_next P s t None x h e all = absurd (cc e)
all_next P s t (Some y) x h e all =
    let f : All P (y ∷ into_iter_items t) = subst (All P) h.0 all in
    let is : y ≡ x = cc e in (subst P is (f 0 y (omega arith)), All-tail P y (into_iter_items t) f)
