-- What a store tells of its blocks.
use Rattle.std.specs.Prelude.{ℕ, ◌≤◌, ◌⊎◌, List, [], ◌∷◌, ◌++◌, Option, Some, None}

-- the most blocks that a store holds at once, so that their number stays below 2^32 - 1
abbrev pub most_held : ℕ
most_held = 4294967294

-- the most puts that a store counts
abbrev pub most_puts : ℕ
most_puts = 18446744073709551615

-- one more block would bring either number past its limit
abbrev pub IsFull : ℕ → ℕ → Type 0
IsFull held puts = (most_held ≤ held) ⊎ (most_puts ≤ puts)

-- the blocks with one more at the end, where they are told
abbrev pub appended : Option (List (List ℕ)) → List ℕ → Option (List (List ℕ))
appended None block = None
appended (Some blocks) block = Some (blocks ++ block ∷ [])

-- no block, where the blocks are told
abbrev pub emptied : Option (List (List ℕ)) → Option (List (List ℕ))
emptied None = None
emptied (Some blocks) = Some []
