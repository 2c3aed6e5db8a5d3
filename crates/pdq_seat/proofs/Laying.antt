-- Stores as they stand, and shares of frames.
use Rattle.std.proofs.Common.{◌≡◌, List, [], ◌∷◌, ◌++◌, length, refl, ap, arith}
use Rattle.pdq_spill.specs.declared.bench.Bench.{Bench}
use Rattle.pdq_seat.specs.Seating.{laid}

-- one seat more
pub laid_push : {S : Type 0} (bs : List (Bench S)) (fs ks : List S) (b : Bench S) (f k : S) (rest : List S) → length fs ≡ length bs → length ks ≡ length bs →
    laid (bs ++ b ∷ []) (fs ++ f ∷ []) (ks ++ k ∷ []) ++ rest ≡ laid bs fs ks ++ (b.store ∷ f ∷ k ∷ rest)
laid_push [] [] [] b f k rest n m = refl
laid_push [] (g ∷ fs) ks b f k rest n m = absurd (omega (arith, n))
laid_push [] [] (l ∷ ks) b f k rest n m = absurd (omega (arith, m))
laid_push (c ∷ bs) [] ks b f k rest n m = absurd (omega (arith, n))
laid_push (c ∷ bs) (g ∷ fs) [] b f k rest n m = absurd (omega (arith, m))
laid_push {S} (c ∷ bs) (g ∷ fs) (l ∷ ks) b f k rest n m = ap (λ (xs : List S). c.store ∷ g ∷ l ∷ xs) (laid_push bs fs ks b f k rest (omega (arith, n)) (omega (arith, m)))
