-- Words that stand for values and cells: a number is itself, a text is its code in the one dictionary of all tables, Null is the least word.
use Rattle.std.specs.Prelude.{⊤, ◌≡◌, ℕ, ◌^◌, ◌<◌, List, [], ◌∷◌, if◌then◌else◌, ℤ, pos, nat_abs, map, Some, unwrap_or, slice_index_or}
use Rattle.pdq_value.specs.declared.cells.Cell.{Cell}
use Rattle.pdq_value.specs.declared.cells.Cell.TheVariants as cell
use Rattle.pdq_value.specs.declared.shapes.Column.{Column}
use Rattle.pdq_value.specs.declared.shapes.Kind.{Kind}
use Rattle.pdq_value.specs.declared.shapes.Kind.TheVariants as kind
use Rattle.pdq_value.specs.declared.shapes.Value.{Value}
use Rattle.pdq_value.specs.declared.shapes.Value.TheVariants as value
use Rattle.pdq_base.specs.Words.{is_null, null_word}
use Rattle.pdq_dict.specs.Dictionary.{code_of}

module _ (texts : List (List ℕ)) where
  abbrev pub word_of_text : List ℕ → ℤ
  word_of_text t = pos (unwrap_or (code_of texts t) 0)

  abbrev pub text_of_word : ℤ → List ℕ
  text_of_word w = slice_index_or texts (nat_abs w) []

  -- the word of a value of a table
  abbrev pub word_of_value : Value → ℤ
  word_of_value value.Null = null_word
  word_of_value (value.Number z) = z
  word_of_value (value.Words t) = word_of_text t

  -- a value whose text, if it is one, is in the dictionary
  abbrev pub HasCode : Value → Type 0
  HasCode value.Null = ⊤
  HasCode (value.Number z) = ⊤
  HasCode (value.Words t) = (code : ℕ) × (code_of texts t ≡ Some code)

  -- the value of a word in a column of this kind
  abbrev pub value_of_word : Kind → ℤ → Value
  value_of_word (kind.Number s) w = if is_null w then value.Null else value.Number w
  value_of_word kind.Words w = if is_null w then value.Null else value.Words (text_of_word w)

  -- the word of a cell
  abbrev pub word_of : Cell → ℤ
  word_of cell.Nothing = null_word
  word_of (cell.Number z s) = z
  word_of (cell.Words t) = word_of_text t

  -- nothing, or a cell of the kind: a number below 10^18 in magnitude, or a text of the dictionary
  abbrev pub IsCoded : Kind → Cell → Type 0
  IsCoded k cell.Nothing = ⊤
  IsCoded (kind.Number s) (cell.Number z t) = (t ≡ s) × (nat_abs z < 10 ^ 18)
  IsCoded (kind.Number s) (cell.Words t) = ⊥
  IsCoded kind.Words (cell.Number z t) = ⊥
  IsCoded kind.Words (cell.Words t) = (code : ℕ) × (code_of texts t ≡ Some code)

  -- the cell of a word in a column of this kind
  abbrev pub cell_of_word : Kind → ℤ → Cell
  cell_of_word (kind.Number s) w = if is_null w then cell.Nothing else cell.Number w s
  cell_of_word kind.Words w = if is_null w then cell.Nothing else cell.Words (text_of_word w)

  -- the words of a row
  abbrev pub coded_row : List Value → List ℤ
  coded_row values = map word_of_value values

  -- the values of the words of a row, column by column
  abbrev pub decoded_row : List Column → List ℤ → List Value
  decoded_row [] words = []
  decoded_row (c ∷ cs) [] = []
  decoded_row (c ∷ cs) (w ∷ words) = value_of_word c.kind w ∷ decoded_row cs words
