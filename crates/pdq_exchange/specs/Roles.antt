-- What scanners and owners tell.
use Rattle.std.specs.Prelude.{◌≡◌, ℕ, ◌+◌, List, ◌++◌, length, All, Option, Some, None, IfSome}
use Rattle.pdq_exchange.specs.Batches.{Row}

-- the rows that a scanner has still to give: how many, and which, where they are told
pub record Coming : Type 0 where
  pub count : ℕ
  pub rows : Option (List Row)

-- rows before others, where those are told
abbrev pub behind : List Row → Option (List Row) → Option (List Row)
behind rows None = None
behind rows (Some more) = Some (rows ++ more)

-- these rows were given from the front of what was to come
pub record Gave (before : Coming) (rows : List Row) (after : Coming) : Type 0 where
  pub count : before.count ≡ length rows + after.count
  pub told : before.rows ≡ behind rows after.rows

-- what is told has the count, and each row the width
abbrev pub IsComing : ℕ → Coming → Type 0
IsComing width coming = IfSome coming.rows (λ rows. (length rows ≡ coming.count) × All (λ row. length row ≡ width) rows)
