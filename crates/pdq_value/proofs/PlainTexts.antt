-- What a raw cell says.
use Rattle.std.proofs.Common.{ℕ, suc, ◌≡◌, ◌≤◌, Bool, true, false, cond, List, [], ◌∷◌, length, subst, arith, Option, Some, None}
use Rattle.std.specs.Prelude.{◌==◌, ⊤}
use Rattle.pdq_value.specs.RowLines.{backslash, before_text, escaped_byte, plain_text, plain_text_after}

-- the text, where there is one, has at most so many bytes
abbrev IsAtMost : ℕ → Option (List ℕ) → Type 0
IsAtMost n None = ⊤
IsAtMost n (Some text) = length text ≤ n

one_more : (n : ℕ) (b : Option ℕ) (text : Option (List ℕ)) → IsAtMost n text → IsAtMost (suc n) (before_text b text)
one_more n None text h = tt
one_more n (Some b) None h = tt
one_more n (Some b) (Some text) h = omega (arith, h)

longer : (n : ℕ) (text : Option (List ℕ)) → IsAtMost n text → IsAtMost (suc n) text
longer n None h = tt
longer n (Some text) h = omega (arith, h)

either : (b : Bool) (n : ℕ) (x y : Option (List ℕ)) → IsAtMost n x → IsAtMost n y → IsAtMost n (cond b x y)
either true n x y h k = h
either false n x y h k = k

at_most : (taken : Bool) (bytes : List ℕ) → IsAtMost (length bytes) (plain_text_after taken bytes)
unfolding plain_text_after
at_most true [] = tt
at_most false [] = omega arith
at_most true (b ∷ bytes) = one_more (length bytes) (escaped_byte b) _ (at_most false bytes)
at_most false (b ∷ bytes) = either (b == backslash) (suc (length bytes)) _ _ (longer (length bytes) _ (at_most true bytes)) (one_more (length bytes) (Some b) _ (at_most false bytes))

-- it is no longer than the cell
pub no_longer : (cell text : List ℕ) → plain_text cell ≡ Some text → length text ≤ length cell
no_longer cell text says = subst (IsAtMost (length cell)) says (at_most false cell)
