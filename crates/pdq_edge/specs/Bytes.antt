-- What a read and a write do to the bytes that are told.
use Rattle.std.specs.Prelude.{ℕ, ◌≡◌, ◌+◌, ◌-◌, ◌^◌, ◌≤◌, List, [], ◌++◌, length, take, Option, Some, None, min, ⊤}

-- a count in 64 bits, which stays at its end
abbrev pub told_count : ℕ → ℕ → ℕ
told_count before n = min (before + n) (2 ^ 64 - 1)

-- a read took these bytes from the front of those told before, and none only where none were left
abbrev pub Gives : Option (List ℕ) → Option (List ℕ) → List ℕ → Type 0
Gives None after bytes = ⊤
Gives (Some left) None bytes = ⊥
Gives (Some left) (Some rest) bytes = (left ≡ bytes ++ rest) × (bytes ≡ [] → left ≡ [])

-- these bytes were the first of those told before
abbrev pub Gave : Option (List ℕ) → Option (List ℕ) → List ℕ → Type 0
Gave None after bytes = ⊤
Gave (Some left) None bytes = ⊥
Gave (Some left) (Some rest) bytes = left ≡ bytes ++ rest

-- so many bytes were the first of those told before
pub record GaveCount (before after : Option (List ℕ)) (count : ℕ) : Type 0 where
  pub bytes : List ℕ
  pub counted : length bytes ≡ count
  pub gave : Gave before after bytes

-- where bytes are told, these are all of them
abbrev pub AreAll : Option (List ℕ) → List ℕ → Type 0
AreAll None bytes = ⊤
AreAll (Some all) bytes = bytes ≡ all

-- bytes that are told afterwards were told before, and grew by these
abbrev pub Grows : Option (List ℕ) → Option (List ℕ) → List ℕ → Type 0
Grows before None bytes = ⊤
Grows None (Some after) bytes = ⊥
Grows (Some before) (Some after) bytes = after ≡ before ++ bytes

-- the bytes that are told grew by the first of these
pub record GrewSome (before after : Option (List ℕ)) (bytes : List ℕ) : Type 0 where
  pub count : ℕ
  pub within : count ≤ length bytes
  pub grew : Grows before after (take count bytes)
