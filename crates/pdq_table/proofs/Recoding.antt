-- Tables recoded one after another.
use Rattle.std.proofs.Common.{ℕ, zero, suc, ◌≡◌, ◌<◌, ◌≤◌, List, [], ◌∷◌, length, set, get_or, refl, arith}
use Rattle.std.specs.Prelude.{⊤}
use Rattle.std.specs.List.{AllZip}

module _ {X : Type 0} (R : X → X → Type 0) where
  -- the first so many elements are changed, and the others as they were
  abbrev pub ChangedTo : ℕ → List X → List X → Type 0
  ChangedTo zero old new = old ≡ new
  ChangedTo (suc n) [] [] = ⊤
  ChangedTo (suc n) [] (y ∷ ys) = ⊥
  ChangedTo (suc n) (x ∷ xs) [] = ⊥
  ChangedTo (suc n) (x ∷ xs) (y ∷ ys) = R x y × ChangedTo n xs ys

  pub changed-next : (n : ℕ) (old new : List X) (y d : X) → ChangedTo n old new → n < length old → R (get_or old n d) y → ChangedTo (suc n) old (set new n y)
  changed-next n [] new y d h less r = absurd (omega (arith, less))
  changed-next zero (x ∷ xs) [] y d h less r = absurd (cc)
  changed-next zero (x ∷ xs) (z ∷ zs) y d h less r = (r, cc)
  changed-next (suc n) (x ∷ xs) [] y d h less r = absurd h
  changed-next (suc n) (x ∷ xs) (z ∷ zs) y d h less r = (h.0, changed-next n xs zs y d h.1 (omega (arith, less)) r)

  pub changed-there : (n : ℕ) (old new : List X) (d : X) → ChangedTo n old new → get_or new n d ≡ get_or old n d
  changed-there zero old new d h = cc
  changed-there (suc n) [] [] d h = refl
  changed-there (suc n) [] (y ∷ ys) d h = absurd h
  changed-there (suc n) (x ∷ xs) [] d h = absurd h
  changed-there (suc n) (x ∷ xs) (y ∷ ys) d h = changed-there n xs ys d h.1

  pub changed-all : (n : ℕ) (old new : List X) → length old ≤ n → ChangedTo n old new → AllZip R old new
  changed-all zero [] [] all h = tt
  changed-all zero [] (y ∷ ys) all h = absurd (cc)
  changed-all zero (x ∷ xs) new all h = absurd (omega (arith, all))
  changed-all (suc n) [] [] all h = tt
  changed-all (suc n) [] (y ∷ ys) all h = absurd h
  changed-all (suc n) (x ∷ xs) [] all h = absurd h
  changed-all (suc n) (x ∷ xs) (y ∷ ys) all h = (h.0, changed-all n xs ys (omega (arith, all)) h.1)
