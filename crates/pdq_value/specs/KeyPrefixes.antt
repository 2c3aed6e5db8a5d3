-- The key prefix of a text: its first bytes as one number, by which texts are compared first.
use Rattle.std.specs.Prelude.{◌≡◌, ℕ, zero, suc, ◌+◌, ◌*◌, ◌^◌, ◌<◌, List, [], ◌∷◌, All}
use Rattle.std.specs.Ordering.{nat_cmp}
use Rattle.std.specs.Cmp.Lexicographic.{slice_cmp}
use Rattle.std.specs.declared.cmp.Ordering.TheVariants.{Less}

-- the first so many numbers of a list as one, base 256, the first counting most; those that are missing are 0
unfoldable pub leading : ℕ → List ℕ → ℕ
leading zero numbers = 0
leading (suc places) [] = 0
leading (suc places) (b ∷ numbers) = b * 256 ^ places + leading places numbers

-- the first 15 bytes
unfoldable pub text_prefix : List ℕ → ℕ
text_prefix bytes = leading 15 bytes

abbrev pub AreBytes : List ℕ → Type 0
AreBytes numbers = All (λ b. b < 256) numbers

-- a text with a lesser key prefix is the lesser one
abbrev pub LesserPrefixesAreLesserTexts : Type 0
LesserPrefixesAreLesserTexts = (a b : List ℕ) → AreBytes b → text_prefix a < text_prefix b → slice_cmp nat_cmp a b ≡ Less
