-- What is scanned of the coded rows of fragments.
use Rattle.std.specs.Prelude.{◌≡◌, ◌<◌, ◌∷◌, [], ◌++◌, ℕ, List, true, ℤ, pos, filter, flat_map, map, drop, length, slice_index_or, slice_get, Option, None, Some}
use Rattle.pdq_base.specs.Words.{null_word}
use Rattle.pdq_query.specs.declared.query.At.{At}
use Rattle.pdq_exchange.specs.Batches.{BatchView, with_row}
use Rattle.pdq_eval.specs.declared.picks.Pick.{Pick}
use Rattle.pdq_eval.specs.declared.picks.Pick.TheVariants.{Word, Zero}
use Rattle.pdq_scan.specs.declared.word_tests.WordTest.{WordTest}
use Rattle.pdq_scan.specs.WordTests.{all_passed}

-- a word of a row, or what stands for one past its end, or zero
abbrev pub word_or : ℤ → List ℤ → Pick → ℤ
word_or missing w (Word place) = slice_index_or w place missing
word_or missing w Zero = pos 0

-- the row that is made of a row
abbrev pub words_or : ℤ → List Pick → List ℤ → List ℤ
words_or missing picks w = map (word_or missing w) picks

-- the column of a word that a step keeps
abbrev pub column_of : Option At → Pick
column_of (Some a) = Word a.column
column_of None = Zero

abbrev pub column_pick : List At → Pick → Pick
column_pick kept (Word place) = column_of (slice_get kept place)
column_pick kept Zero = Zero

-- the columns of the words that a step keeps, or of what is picked of those
abbrev pub columns_for : List At → Option (List Pick) → List Pick
columns_for kept None = map (λ (a : At). Word a.column) kept
columns_for kept (Some picks) = map (column_pick kept) picks

-- the rows of these fragments, from a row of the first on
abbrev pub rows_from : List (List (List ℤ)) → ℕ → List (List ℤ)
rows_from [] row = []
rows_from (rows ∷ more) row = drop row rows ++ flat_map (λ rs. rs) more

-- what is scanned of some rows
abbrev pub scanned : List WordTest → List Pick → List (List ℤ) → List (List ℤ)
scanned tests columns rows = map (words_or null_word columns) (filter (all_passed tests) rows)

-- what is still to be scanned of fragments, from a row of one of them on
unfoldable pub left_rows : List WordTest → List Pick → List (List (List ℤ)) → ℕ → ℕ → List (List ℤ)
left_rows tests columns fragments at row = scanned tests columns (rows_from (drop at fragments) row)

-- a row that passes stands there
pub record IsPassing (tests : List WordTest) (fragments : List (List (List ℤ))) (at row : ℕ) : Type 0 where
  pub fragment : at < length fragments
  pub within : row < length (slice_index_or fragments at [])
  pub passes : all_passed tests (slice_index_or (slice_index_or fragments at []) row []) ≡ true

-- the next row went into a batch
pub record PutOne (batch batch_now : BatchView) (rows rows_now : List (List ℤ)) : Type 0 where
  pub row : List ℤ
  pub batch_is : batch_now ≡ with_row batch row
  pub rows_are : rows ≡ row ∷ rows_now
