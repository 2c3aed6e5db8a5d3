-- The dictionary of the texts of tables, and the codes that it gives.
use Rattle.std.specs.Prelude.{ℕ, ◌≤◌, List, [], ◌∷◌, Option, All, count_by, length, position, slice_get, slice_index, sum_by, ◌≡◌, ◌<◌}
use Rattle.std.specs.List.{dedup, flat_map}
use Rattle.std.specs.List.Sorted.{IsStrictlySortedBy}
use Rattle.std.specs.Ordering.{is_lt}
use Rattle.pdq_base.specs.Sorting.{in_order}
use Rattle.pdq_value.specs.declared.shapes.Value.{Value}
use Rattle.pdq_value.specs.declared.shapes.Value.TheVariants.{Null, Number, Words}
use Rattle.pdq_value.specs.Tables.{TableView}
use Rattle.pdq_dict.specs.Texts.{IsUtf8Text, is_text, text_cmp}

-- how many values the rows have
abbrev pub cells_in : List TableView → ℕ
cells_in = sum_by (λ (t : TableView). sum_by length t.rows)

-- the most that a database with a dictionary has
abbrev pub cell_limit : ℕ
cell_limit = 32000000

abbrev pub texts_of_value : Value → List (List ℕ)
texts_of_value Null = []
texts_of_value (Number z) = []
texts_of_value (Words t) = t ∷ []

-- the texts as they stand, row by row
abbrev pub texts_of_row : List Value → List (List ℕ)
texts_of_row = flat_map texts_of_value

abbrev pub texts_of_table : TableView → List (List ℕ)
texts_of_table t = flat_map texts_of_row t.rows

abbrev pub texts_of : List TableView → List (List ℕ)
texts_of = flat_map texts_of_table

-- the distinct texts in the order of their bytes
unfoldable pub dictionary_of : List TableView → List (List ℕ)
dictionary_of tables = dedup is_text (in_order text_cmp (texts_of tables))

-- the code of a text: its place, where it is there
abbrev pub code_of : List (List ℕ) → List ℕ → Option ℕ
code_of dictionary text = position (is_text text) dictionary

-- how many texts are less than this one
abbrev pub place_of : List (List ℕ) → List ℕ → ℕ
place_of dictionary text = count_by (λ t. is_lt (text_cmp t text)) dictionary

-- for each number of a note the code of its text
pub record AreCodesOf (notes dictionary : List (List ℕ)) (codes : List ℕ) : Type 0 where
  pub count : length codes ≡ length notes
  pub each : (n : ℕ) → n < length notes → slice_get dictionary (slice_index codes n) ≡ slice_get notes n

-- what a dictionary always is: each text is less than those after it and UTF-8, and there are no more texts than cells may be
pub record IsDictionary (texts : List (List ℕ)) : Type 0 where
  pub rising : IsStrictlySortedBy text_cmp texts
  pub few : length texts ≤ cell_limit
  pub utf8 : All IsUtf8Text texts
