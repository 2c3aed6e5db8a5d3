-- How bytes are cut into lines.
use Rattle.std.specs.Prelude.{ℕ, ◌+◌, ◌-◌, List, [], ◌∷◌, Bool, true, false, not, ◌&&◌, ◌||◌, ◌==◌, nat_lt, if◌then◌else◌, length, take, take_while, slice_index}

-- a blank: byte 32 or 9
abbrev pub is_blank : ℕ → Bool
is_blank b = b == 32 || b == 9

-- the bytes of a line, and whether a line end (byte 10) follows them
pub record InputLine : Type 0 where
  pub bytes : List ℕ
  pub ended : Bool

-- the lines with a byte before them that is no line end
abbrev pub onto : ℕ → List InputLine → List InputLine
onto b [] = record { bytes = b ∷ []; ended = false } ∷ []
onto b (line ∷ lines) = record { bytes = b ∷ line.bytes; ended = line.ended } ∷ lines

-- the lines of these bytes: the end of the input ends a line that is not empty
abbrev pub lines_of : List ℕ → List InputLine
lines_of [] = []
lines_of (b ∷ bytes) = if b == 10 then record { bytes = []; ended = true } ∷ lines_of bytes else onto b (lines_of bytes)

-- how many bytes of the input a line takes, its end counted
abbrev pub size_of : InputLine → ℕ
size_of line = length line.bytes + (if line.ended then 1 else 0)

-- what a line says: its bytes without one byte 13 at their end
unfoldable pub without_return : List ℕ → List ℕ
without_return bytes = if nat_lt 0 (length bytes) && slice_index bytes (length bytes - 1) == 13 then take (length bytes - 1) bytes else bytes

-- the bytes before the first line end
abbrev pub before_end : List ℕ → List ℕ
before_end bytes = take_while (λ b. not (b == 10)) bytes

-- the first line of these bytes, as far as they go
abbrev pub first_line : List ℕ → InputLine
first_line bytes = record { bytes = before_end bytes; ended = nat_lt (length (before_end bytes)) (length bytes) }
