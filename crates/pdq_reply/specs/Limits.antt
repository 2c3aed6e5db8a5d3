-- The limits of a line and of an input.
use Rattle.std.specs.Prelude.{ℕ, ◌+◌, Bool, nat_lt, length, min}
use Rattle.pdq_base.specs.Lines.{InputLine, size_of}

-- the most bytes before a line end, and the most bytes of an input
abbrev pub most_line : ℕ
most_line = 8192

abbrev pub most_input : ℕ
most_input = 16777216

-- whether byte 8,193 of the line comes without a line end
abbrev pub is_too_long : InputLine → Bool
is_too_long line = nat_lt most_line (length line.bytes)

-- whether byte 16,777,217 of the input is one of the line's first 8,193 bytes or its line end, where so many bytes stand before the line
abbrev pub is_past_input : ℕ → InputLine → Bool
is_past_input before line = nat_lt most_input (before + min (size_of line) (most_line + 1))
