-- Coded rows as they are scanned: filters asked of words, and the columns that are kept.
use Rattle.std.specs.Prelude.{ℕ, List, Bool, false, ◌&&◌, if◌then◌else◌, ℤ, pos, int_lt, Option, None, Some, filter, map, slice_index_or}
use Rattle.std.specs.List.{list_all}
use Rattle.std.specs.Ordering.{int_cmp, int_eq}
use Rattle.std.specs.declared.cmp.Ordering.{Ordering}
use Rattle.std.specs.declared.cmp.Ordering.TheVariants.{Less, Greater}
use Rattle.pdq_base.specs.Words.{is_value, null_word}
use Rattle.pdq_value.specs.declared.shapes.Value.{Value}
use Rattle.pdq_value.specs.declared.shapes.Value.TheVariants.{Null, Number, Words}
use Rattle.pdq_dict.specs.Dictionary.{code_of, place_of}
use Rattle.pdq_query.specs.declared.query.At.{At}
use Rattle.pdq_query.specs.declared.query.Compare.{Compare}
use Rattle.pdq_query.specs.declared.query.Filter.{Filter}
use Rattle.pdq_query.specs.declared.query.Filter.TheVariants.{Literal, Columns}
use Rattle.pdq_query.specs.Conditions.{holds}

-- the word of a column of a table's row
abbrev pub word_of_column : ℕ → List ℤ → ℤ
word_of_column column w = slice_index_or w column null_word

-- two words are equal, and none is Null
abbrev pub are_same : ℤ → ℤ → Bool
are_same v w = int_eq v w && is_value v

-- a text that is not in the dictionary is compared by its place: a code below it is that of a text that is less
abbrev pub absent_cmp : ℤ → ℕ → Ordering
absent_cmp w place = if int_lt w (pos place) then Less else Greater

module _ (texts : List (List ℕ)) where
  -- how a word compares with a text that has this code, or none
  abbrev pub text_word_cmp : ℤ → List ℕ → Option ℕ → Ordering
  text_word_cmp w t (Some code) = int_cmp w (pos code)
  text_word_cmp w t None = absent_cmp w (place_of texts t)

  -- a word compared with a literal of its column's kind; no comparison with Null holds
  abbrev pub word_compares : Compare → ℤ → Value → Bool
  word_compares test w Null = false
  word_compares test w (Number z) = is_value w && holds test (int_cmp w z)
  word_compares test w (Words t) = is_value w && holds test (text_word_cmp w t (code_of texts t))

  -- a filter asked of a coded row
  abbrev pub word_passes : List ℤ → Filter → Bool
  word_passes w (Literal a test v) = word_compares test (word_of_column a.column w) v
  word_passes w (Columns a b) = are_same (word_of_column a.column w) (word_of_column b.column w)

  abbrev pub word_kept : List Filter → List ℤ → Bool
  word_kept filters w = list_all (word_passes w) filters

  -- the columns that a table keeps of a coded row
  abbrev pub kept_words : List At → List ℤ → List ℤ
  kept_words kept w = map (λ (a : At). word_of_column a.column w) kept

  -- what is scanned of some coded rows
  abbrev pub scanned_rows : List Filter → List At → List (List ℤ) → List (List ℤ)
  scanned_rows filters kept rows = map (kept_words kept) (filter (word_kept filters) rows)
