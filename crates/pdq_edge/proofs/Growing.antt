-- What a sink was told, piece by piece.
use Rattle.std.proofs.Common.{◌≡◌, ℕ, ◌+◌, ◌≤◌, ◌-◌, List, [], ◌++◌, length, take, drop, ap, sym, ◌∙◌, append_assoc, arith, Option, subst, take-add}
use Rattle.std.specs.Prelude.{Some, None}
use Rattle.std.proofs.lemmas.Grind.{common_steps}
use Rattle.std.proofs.lemmas.List.{append-nil, take_all}
use Rattle.pdq_edge.specs.Bytes.{Grows, GrewSome}

-- what is told grew by nothing
pub grows_none : (sink : Option (List ℕ)) → Grows sink sink []
grows_none None = tt
grows_none (Some bytes) = sym (append-nil bytes)

-- growing by one piece and then by another is growing by both
pub grows_then : (before between after : Option (List ℕ)) (xs ys : List ℕ) → Grows before between xs → Grows between after ys → Grows before after (xs ++ ys)
grows_then before between None xs ys first second = tt
grows_then before None (Some after) xs ys first second = absurd second
grows_then None (Some between) (Some after) xs ys first second = absurd first
grows_then (Some before) (Some between) (Some after) xs ys first second = second ∙ ap (λ zs. zs ++ ys) first ∙ append_assoc before xs ys

-- growing by the first bytes of a piece and then by some of the rest
pub grows_at : (before between after : Option (List ℕ)) (piece rest : List ℕ) (at n : ℕ) → at ≤ length piece → rest ≡ take (length piece - at) (drop at piece) → n ≤ length piece - at → Grows before between (take at piece) → Grows between after (take n rest) → Grows before after (take (at + n) piece)
grows_at before between after piece rest at n within same fits first second =
    let P : List ℕ → Type 0 = λ ys. Grows between after ys in
    let Q : List ℕ → Type 0 = λ ys. Grows before after ys in
    let cut : take n rest ≡ take n (drop at piece) = ap (take n) same ∙ grind (arith, common_steps) in
    subst Q (sym (take-add at n piece)) (grows_then before between after (take at piece) (take n (drop at piece)) first (subst P cut second))

-- growing by the first bytes of a piece, which are all of them
pub grows_all : (before after : Option (List ℕ)) (piece : List ℕ) (at : ℕ) → length piece ≤ at → Grows before after (take at piece) → Grows before after piece
grows_all before after piece at past grew = let P : List ℕ → Type 0 = λ ys. Grows before after ys in subst P (take_all at piece past) grew

-- growing by the first bytes of a piece
pub grew_some : (before after : Option (List ℕ)) (piece : List ℕ) (at : ℕ) → at ≤ length piece → Grows before after (take at piece) → GrewSome before after piece
grew_some before after piece at within grew = record { count = at; within = within; grew = grew }
