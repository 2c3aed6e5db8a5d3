-- Rows of words in one flat list.
use Rattle.std.specs.Prelude.{◌≡◌, ℕ, zero, suc, ◌*◌, ◌≤◌, List, [], ◌∷◌, ◌++◌, ℤ, drop, length, map, take}
use Rattle.pdq_value.specs.PlainTable.{most_rows}

-- so many rows of this width, one after another
abbrev pub rows_of_words : ℕ → ℕ → List ℤ → List (List ℤ)
rows_of_words width zero words = []
rows_of_words width (suc count) words = take width words ∷ rows_of_words width count (drop width words)

-- a fragment: how many words a row has, and its rows
pub record FragmentView : Type 0 where
  pub width : ℕ
  pub rows : List (List ℤ)

-- the fragment of so many rows of these words
abbrev pub fragment_view : ℕ → ℕ → List ℤ → FragmentView
fragment_view width count words = record { width = width; rows = rows_of_words width count words }

abbrev pub no_rows : ℕ → FragmentView
no_rows width = record { width = width; rows = [] }

-- the fragment with one row more
abbrev pub with_row : FragmentView → List ℤ → FragmentView
with_row f row = record { width = f.width; rows = f.rows ++ row ∷ [] }

-- the fragment with another word for each
abbrev pub with_words : (ℤ → ℤ) → FragmentView → FragmentView
with_words g f = record { width = f.width; rows = map (map g) f.rows }

-- as many words as so many rows have, within the limit of a table
pub record AreWordsOf (width count : ℕ) (words : List ℤ) : Type 0 where
  pub whole : length words ≡ count * width
  pub few : count ≤ most_rows
