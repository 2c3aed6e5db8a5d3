-- Reading parts one after the other, as a loop does.
use Rattle.std.proofs.Common.{◌≡◌, ℕ, suc, true, false, List, [], ◌∷◌, ◌++◌, Ok, Err, refl, sym, ap, ◌∙◌, append_assoc}
use Rattle.pdq_sql.specs.declared.tokens.Mark.{Mark}
use Rattle.pdq_sql.specs.declared.tokens.Token.{Token}
use Rattle.pdq_sql.specs.declared.reading.ParseFault.{ParseFault}
use Rattle.pdq_sql.specs.declared.reading.ParseFault.TheVariants as fault
use Rattle.pdq_sql.specs.Reading.{Parse, ◌>>=◌, Fails, next_is, expect_of, parts_within}

-- what was read before, and what is still read
abbrev pub with_front : {X : Type 0} → List X → Parse (List X) → Parse (List X)
with_front front read = read >>= λ x. Ok (front ++ x.0, x.1)

regroup : {X : Type 0} (front : List X) (x : X) (read : Parse (List X)) → with_front front (read >>= λ xs. Ok (x ∷ xs.0, xs.1)) ≡ with_front (front ++ x ∷ []) read
regroup front x (Ok xs) = ap (λ ys. Ok (ys, xs.1)) (simp append_assoc)
regroup front x (Err e) = refl

module _ {X : Type 0} (separator : Mark) (part : List Token → Parse X) (front : List X) (n : ℕ) (ts : List Token) (x : X) (after : List Token) (total : Parse (List X)) where
  -- a part and a separator were read
  pub goes_on : (s : Mark) (rest : List Token) → part ts ≡ Ok (x, after) → next_is separator after ≡ true → expect_of separator after ≡ Ok (s, rest)
      → with_front front (parts_within separator part (suc n) ts) ≡ total → with_front (front ++ x ∷ []) (parts_within separator part n rest) ≡ total
  unfolding parts_within
  goes_on s rest read more there so_far =
      let one : with_front front (parts_within separator part (suc n) ts) ≡ with_front (front ++ x ∷ []) (parts_within separator part n rest) = rw (read, more, there) (regroup front x (parts_within separator part n rest)) in
      sym one ∙ so_far

  -- a part was read, and no separator follows
  pub is_done : part ts ≡ Ok (x, after) → next_is separator after ≡ false
      → with_front front (parts_within separator part (suc n) ts) ≡ total → total ≡ Ok (front ++ x ∷ [], after)
  unfolding parts_within
  is_done read no_more so_far =
      let one : with_front front (parts_within separator part (suc n) ts) ≡ Ok (front ++ x ∷ [], after) = rw (read, no_more) refl in
      sym so_far ∙ one

-- no part was read
pub ends : {X : Type 0} (separator : Mark) (part : List Token → Parse X) (front : List X) (n : ℕ) (ts : List Token) (total : Parse (List X)) (e : ParseFault) → Fails e (part ts)
    → with_front front (parts_within separator part (suc n) ts) ≡ total → Fails e total
unfolding parts_within
ends separator part front n ts total fault.Memory failed so_far = tt
ends separator part front n ts total (fault.Unread h) failed so_far =
    let one : with_front front (parts_within separator part (suc n) ts) ≡ Err h = rw failed refl in
    sym so_far ∙ one
