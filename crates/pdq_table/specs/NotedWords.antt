-- The words of rows while files are read: a text stands as the number of its note, above all numbers of tables.
use Rattle.std.specs.Prelude.{⊤, ◌≡◌, ℕ, ◌+◌, ◌-◌, ◌^◌, ◌<◌, List, All, Result, Ok, if◌then◌else◌, ℤ, pos, nat_abs, int_lt, fold, map, Some, unwrap_or, slice_index}
use Rattle.pdq_value.specs.declared.loading.LoadFault.{LoadFault}
use Rattle.pdq_value.specs.declared.shapes.Value.{Value}
use Rattle.pdq_value.specs.declared.shapes.Value.TheVariants.{Null, Number, Words}
use Rattle.pdq_base.specs.Words.{null_word}
use Rattle.pdq_dict.specs.Dictionary.{texts_of_row, texts_of_value}
use Rattle.pdq_dict.specs.Texts.{noted, number_of}

-- above each number of a table
abbrev pub note_base : ℕ
note_base = 1000000000000000000

module _ (notes : List (List ℕ)) where
  abbrev pub noted_word : Value → ℤ
  noted_word Null = null_word
  noted_word (Number z) = z
  noted_word (Words t) = pos (note_base + unwrap_or (number_of notes t) 0)

  abbrev pub noted_row : List Value → List ℤ
  noted_row values = map noted_word values

  -- a number of a table, or a text that was noted
  abbrev pub IsNoted : Value → Type 0
  IsNoted Null = ⊤
  IsNoted (Number z) = nat_abs z < 10 ^ 18
  IsNoted (Words t) = (n : ℕ) × (number_of notes t ≡ Some n)

-- a word with the code of its text in place of the number of its note
abbrev pub recoded : List ℕ → ℤ → ℤ
recoded codes w = if int_lt w (pos note_base) then w else pos (slice_index codes (nat_abs w - note_base))

-- a number of a table
abbrev pub IsSmall : Value → Type 0
IsSmall Null = ⊤
IsSmall (Number z) = nat_abs z < 10 ^ 18
IsSmall (Words t) = ⊤

-- a field was read: its value has this word, and its text, if it is one, was noted
pub record IsReadField (meant : Result Value LoadFault) (before after : List (List ℕ)) (word : ℤ) : Type 0 where
  pub value : Value
  pub said : meant ≡ Ok value
  pub texts : after ≡ fold noted before (texts_of_value value)
  pub is : word ≡ noted_word after value
  pub each : IsNoted after value

-- a record was read: its row has these words, and its texts were noted
pub record IsReadRecord (meant : Result (List Value) LoadFault) (before after : List (List ℕ)) (words : List ℤ) : Type 0 where
  pub row : List Value
  pub said : meant ≡ Ok row
  pub texts : after ≡ fold noted before (texts_of_row row)
  pub are : words ≡ noted_row after row
  pub each : All (IsNoted after) row
