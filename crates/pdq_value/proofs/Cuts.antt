-- How bytes split at the first that passes a test.
use Rattle.std.proofs.Common.{ℕ, ◌≡◌, ◌+◌, ◌-◌, Bool, true, false, List, [], ◌∷◌, length, take, drop, refl, ap, sym, ◌∙◌, arith, Some, None, All, cond}
use Rattle.std.specs.Prelude.{position}
use Rattle.std.specs.List.{position_or_len, slice_split}
use Rattle.std.proofs.lemmas.Bool.Decides.{nat_tests}
use Rattle.std.proofs.lemmas.Grind.{common_steps}
use Rattle.std.proofs.lemmas.List.Quantifiers.{position-Some}
use Rattle.std.proofs.lemmas.List.Splits.{slice_split_first, slice_split_none}
use Rattle.std.proofs.lemmas.List.Sums.{position_or_len_is, fails_before_first}

pub rest_is : (bytes : List ℕ) (at : ℕ) → take (length bytes - at) (drop at bytes) ≡ drop at bytes
rest_is bytes at = grind (arith, common_steps)

-- the test passes at this place first
pub cut_there : (p : ℕ → Bool) (bytes : List ℕ) (end : ℕ) → position p bytes ≡ Some end → slice_split p bytes ≡ take end bytes ∷ slice_split p (take (length bytes - (end + 1)) (drop (end + 1) bytes))
cut_there p bytes end at =
    let t = position-Some p bytes end 0 at in
    let e : position_or_len p bytes ≡ end = position_or_len_is p bytes end 0 (omega (arith, t.0)) t.2 (λ _. t.1) in
    slice_split_first p bytes 0 (omega (arith, t.0, e))
    ∙ ap (λ n. take n bytes ∷ slice_split p (drop (n + 1) bytes)) e
    ∙ ap (λ rest. take end bytes ∷ slice_split p rest) (sym (rest_is bytes (end + 1)))

none_from_cond : (b : Bool) (n : ℕ) → cond b (Some n) None ≡ None → b ≡ false
none_from_cond true n e = absurd (grind (arith, e))
none_from_cond false n e = refl

-- the test passes nowhere
pub fails_nowhere : (p : ℕ → Bool) (bytes : List ℕ) → position p bytes ≡ None → All (λ b. p b ≡ false) bytes
fails_nowhere p bytes nowhere k d within = fails_before_first p bytes k d (grind (arith, nat_tests, none_from_cond _ _ nowhere))

pub cut_nowhere : (p : ℕ → Bool) (bytes : List ℕ) → position p bytes ≡ None → slice_split p bytes ≡ bytes ∷ []
cut_nowhere p bytes nowhere = slice_split_none p bytes (fails_nowhere p bytes nowhere)
