-- The input of a command, piece by piece.
use Rattle.std.proofs.Common.{◌≡◌, ℕ, ◌≤◌, List, [], ◌++◌, length, take, refl, ap, ◌∙◌, subst, arith, Option, Some, None}
use Rattle.std.proofs.lemmas.Grind.{common_steps}
use Rattle.std.proofs.lemmas.List.{append-nil}
use Rattle.pdq_edge.specs.Bytes.{Gave, Gives, told_count}
use Rattle.pdq_reply.specs.Reading.{Took, remaining}
use Rattle.pdq_reply.proofs.Giving.{remaining_none, took_then}

gave_from_gives : (b c : Option (List ℕ)) (xs : List ℕ) → Gives b c xs → Gave b c xs
gave_from_gives None c xs gives = tt
gave_from_gives (Some all) None xs gives = absurd gives
gave_from_gives (Some all) (Some left) xs gives = gives.0

length_piece : (n : ℕ) (piece : List ℕ) → n ≤ length piece → length (take n piece) ≡ n
length_piece n piece within = grind (arith, common_steps)

one_read : (b c : Option (List ℕ)) (t u n : ℕ) (piece : List ℕ) → Gives b c (take n piece) → n ≤ length piece → u ≡ told_count t n → Took b c t u (take n piece)
one_read b c t u n piece gives within told = record {
  gave = gave_from_gives b c (take n piece) gives;
  counted = λ below. omega (arith, below, told, length_piece n piece within);
}

-- one more piece
pub took_more : (a b c : Option (List ℕ)) (s t u n : ℕ) (xs piece : List ℕ) → Took a b s t xs → Gives b c (take n piece) → n ≤ length piece → u ≡ told_count t n → Took a c s u (xs ++ take n piece)
took_more a b c s t u n xs piece first gives within told = took_then a b c s t u xs (take n piece) first (one_read b c t u n piece gives within told)

no_piece : (n : ℕ) (piece : List ℕ) → n ≡ 0 → take n piece ≡ []
no_piece n piece none = ap (λ k. take k piece) none

-- the end of the input
pub took_all : (a b c : Option (List ℕ)) (s t u n : ℕ) (xs piece : List ℕ) → Took a b s t xs → Gives b c (take n piece) → n ≤ length piece → u ≡ told_count t n → n ≡ 0 → Took a c s u xs
took_all a b c s t u n xs piece first gives within told none =
    let e : xs ++ take n piece ≡ xs = ap (λ ys. xs ++ ys) (no_piece n piece none) ∙ append-nil xs in
    subst (Took a c s u) e (took_more a b c s t u n xs piece first gives within told)

pub none_left : (a b c : Option (List ℕ)) (s t n : ℕ) (xs piece : List ℕ) → Took a b s t xs → Gives b c (take n piece) → n ≡ 0 → remaining a c ≡ []
none_left a b c s t n xs piece first gives none = remaining_none a b c xs first.gave (subst (Gives b c) (no_piece n piece none) gives)

-- before a read
pub took_none : (a : Option (List ℕ)) (s : ℕ) → Took a a s s []
took_none None s = record { gave = tt; counted = λ below. omega arith }
took_none (Some all) s = record { gave = refl; counted = λ below. omega arith }
