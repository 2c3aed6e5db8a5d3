-- Rows in flight between threads.
use Rattle.std.specs.Prelude.{◌≡◌, ℕ, ◌*◌, ◌≤◌, List, [], ◌∷◌, ◌++◌, length, take, drop, map, ℤ}
use Rattle.std.specs.List.{range_with_len}

-- a row of 64-bit words
abbrev pub Row : Type 0
Row = List ℤ

-- the most rows of a batch
abbrev pub most_rows : ℕ
most_rows = 1024

-- a batch as its callers see it
pub record BatchView : Type 0 where
  pub width : ℕ
  pub rows : List Row

-- a batch of this width with no row
abbrev pub empty_batch : ℕ → BatchView
empty_batch width = record { width = width; rows = [] }

-- one more row
abbrev pub with_row : BatchView → Row → BatchView
with_row batch row = record { width = batch.width; rows = batch.rows ++ row ∷ [] }

-- the row by its number, in words that stand one row behind the other
abbrev pub row_at : ℕ → List ℤ → ℕ → Row
row_at width words i = take width (drop (i * width) words)

unfoldable pub rows_of : ℕ → ℕ → List ℤ → List Row
rows_of width n words = map (row_at width words) (range_with_len 0 n)

-- what is kept of a batch of width w with n rows
pub record IsBatch (w n : ℕ) (words : List ℤ) : Type 0 where
  pub low : 1 ≤ w
  pub high : w ≤ 511
  pub rows : n ≤ most_rows
  pub room : length words ≡ most_rows * w
