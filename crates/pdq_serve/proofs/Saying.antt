-- What a given line says is short and has no line end; and how the bytes of an input are lines.
use Rattle.std.proofs.Common.{◌≡◌, ℕ, zero, suc, ◌-◌, ◌≤◌, Bool, true, false, List, [], ◌∷◌, ◌++◌, length, take, refl, ap, add-zero, sym, subst, arith, ◌==◌}
use Rattle.std.specs.Prelude.{Option, Some, None, IsTrue, ◌&&◌, nat_lt, if◌then◌else◌, slice_index}
use Rattle.std.proofs.lemmas.Bool.Decides.{nat_tests}
use Rattle.pdq_base.specs.Lines.{InputLine, lines_of, without_return}
use Rattle.pdq_sql.specs.LineReading.{has_no_end}
use Rattle.pdq_reply.specs.Limits.{is_too_long}
use Rattle.pdq_edge.specs.Bytes.{Gave}
use Rattle.pdq_reply.specs.Reading.{GivesLine, Reader, Took}
use Rattle.pdq_reply.proofs.Splitting.{IsOpenLine, not_same, open_before_end}

open_has_none : (line : List ℕ) → IsOpenLine line → IsTrue (has_no_end line)
open_has_none [] is_open = refl
open_has_none (b ∷ line) is_open = rw (not_same b 10 is_open.0) (open_has_none line is_open.1)

open_take : (n : ℕ) (line : List ℕ) → IsOpenLine line → IsOpenLine (take n line)
open_take zero [] is_open = tt
open_take zero (b ∷ line) is_open = tt
open_take (suc n) [] is_open = tt
open_take (suc n) (b ∷ line) is_open = (is_open.0, open_take n line is_open.1)

shorter : (n : ℕ) (line : List ℕ) → length (take n line) ≤ length line
shorter zero [] = omega arith
shorter zero (b ∷ line) = omega arith
shorter (suc n) [] = omega arith
shorter (suc n) (b ∷ line) = let rest : length (take n line) ≤ length line = shorter n line in omega arith

-- what is said is a part of the line
pub record IsSaid (line says : List ℕ) : Type 0 where
  pub is_open : IsOpenLine says
  pub short : length says ≤ length line

is_said : (line : List ℕ) → IsOpenLine line → IsSaid line (without_return line)
unfolding without_return
is_said line is_open = go (nat_lt 0 (length line) && slice_index line (length line - 1) == 13)
  where
    go : (b : Bool) → IsSaid line (if b then take (length line - 1) line else line)
    go true = record { is_open = open_take (length line - 1) line is_open; short = shorter (length line - 1) line }
    go false = record { is_open = is_open; short = omega arith }

short_line : (line : InputLine) → is_too_long line ≡ false → length line.bytes ≤ 8192
short_line line short = grind (arith, nat_tests)

said_of : (before : ℕ) (bytes : List ℕ) (new : Reader) (g : GivesLine before bytes new) → IsSaid g.line.bytes new.line
said_of before bytes new g =
    let is_open : IsOpenLine g.line.bytes = let P : List ℕ → Type 0 = IsOpenLine in subst P (sym (ap (λ (l : InputLine). l.bytes) g.first)) (open_before_end bytes) in
    let P : List ℕ → Type 0 = IsSaid g.line.bytes in subst P (sym g.says) (is_said g.line.bytes is_open)

pub line_is_short : (before : ℕ) (bytes : List ℕ) (new : Reader) → GivesLine before bytes new → length new.line ≤ 8192
line_is_short before bytes new g = omega (arith, (said_of before bytes new g).short, short_line g.line g.short)

pub line_has_no_end : (before : ℕ) (bytes : List ℕ) (new : Reader) → GivesLine before bytes new → IsTrue (has_no_end new.line)
line_has_no_end before bytes new g = open_has_none new.line (said_of before bytes new g).is_open

-- a line and its end
pub lines_of-line : (line more : List ℕ) → IsOpenLine line → lines_of (line ++ 10 ∷ more) ≡ record { bytes = line; ended = true } ∷ lines_of more
lines_of-line [] more is_open = refl
lines_of-line (b ∷ line) more is_open = rw (not_same b 10 is_open.0, lines_of-line line more is_open.1) refl

-- a line without an end
pub lines_of-last : (b : ℕ) (line : List ℕ) → IsOpenLine (b ∷ line) → lines_of (b ∷ line) ≡ record { bytes = b ∷ line; ended = false } ∷ []
lines_of-last b [] is_open = rw (not_same b 10 is_open.0) refl
lines_of-last b (c ∷ line) is_open = rw (not_same b 10 is_open.0, lines_of-last c line is_open.1) refl

gave_none : (source : Option (List ℕ)) → Gave source source []
gave_none None = tt
gave_none (Some left) = refl

-- nothing was taken
pub took_none : (left : Option (List ℕ)) (taken : ℕ) → Took left left taken taken []
took_none left taken = record { gave = gave_none left; counted = λ below. sym (add-zero taken) }
