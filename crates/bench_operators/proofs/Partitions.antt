-- Partitions whose blocks stand in a store.
use Rattle.std.proofs.Common.{◌≡◌, ℕ, ◌<◌, Bool, true, false, List, refl, sym, subst, arith}
use Rattle.std.specs.Prelude.{ℤ, Option, Some, None}
use Rattle.std.proofs.lemmas.List.Elements.{All-nil}
use Rattle.pdq_spill.specs.Partitions.{PartitionView, HandedOut, Next, Stands, fresh_partition, stepped}
use Rattle.pdq_spill.proofs.Standing.{stands-same}

-- no block of a partition without rows stands anywhere else
pub fresh_stands : (w held : ℕ) (told : Option (List (List ℕ))) → Stands (fresh_partition w) held told
fresh_stands w held None = record { places = All-nil (λ (n : ℕ). n < held); blocks = tt }
fresh_stands w held (Some blocks) = record { places = All-nil (λ (n : ℕ). n < held); blocks = λ k l. absurd (omega (arith, l)) }

pub fresh-stands : (p : PartitionView) (w held : ℕ) (told : Option (List (List ℕ))) → p ≡ fresh_partition w → Stands p held told
fresh-stands p w held told e = subst (λ (x : PartitionView). Stands x held told) (sym e) (fresh_stands w held told)

-- the next block was handed out
pub handed : (more : Bool) (old new : PartitionView) (told : Option (List (List ℕ))) (rows : List (List ℤ)) → more ≡ true → Next more old new told rows → HandedOut old new told rows
handed true old new told rows e h = h
handed false old new told rows e h = absurd (cc e)

-- the blocks stand, in a store that stayed the same, once the next was handed out
pub next-stands : (old new : PartitionView) (told now : Option (List (List ℕ))) (rows : List (List ℤ)) (held held_now : ℕ) → HandedOut old new told rows → now ≡ told → held_now ≡ held → Stands old held told → Stands new held_now now
next-stands old new told now rows held held_now out same still stands =
    subst (λ (t : Option (List (List ℕ))). Stands new held_now t) (sym same) (subst (λ (n : ℕ). Stands new n told) (sym still)
    (subst (λ (x : PartitionView). Stands x held told) (sym out.stepped) (stands-same old (stepped old) held told refl refl refl stands)))
