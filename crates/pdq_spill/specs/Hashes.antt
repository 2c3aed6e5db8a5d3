-- The hash of key words: one definition for all that place rows by their keys, each with a factor of its own.
use Rattle.std.specs.Prelude.{ℕ, ◌+◌, ◌*◌, ◌/◌, ◌%◌, ◌^◌, ℤ}
use Rattle.std.specs.Int.{w64, cast_unsigned}

-- a hash, and one more word in it
abbrev pub mixed : ℕ → ℕ → ℤ → ℕ
mixed factor hash word = ((hash + cast_unsigned w64 word) % 2 ^ 64 * factor) % 2 ^ 64

-- the upper half of a hash, reduced to a number below so many
abbrev pub reduced : ℕ → ℕ → ℕ
reduced parts hash = (hash / 2 ^ 32 * parts) / 2 ^ 32

-- the factor by which a joiner mixes
abbrev pub join_factor : ℕ
join_factor = 11400714819323198485

-- the factor by which a grouper mixes
abbrev pub group_factor : ℕ
group_factor = 15485863646312837395

-- the factor by which an exchange mixes
abbrev pub exchange_factor : ℕ
exchange_factor = 13787848793156543929
