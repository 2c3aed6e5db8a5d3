-- The laws of words: read back they give what they stand for, and they compare as it does.
use Rattle.std.specs.Prelude.{ℕ, ◌≡◌, List, All}
use Rattle.std.specs.List.Sorted.{IsStrictlySortedBy}
use Rattle.std.specs.Ordering.{int_cmp}
use Rattle.pdq_value.specs.declared.cells.Cell.{Cell}
use Rattle.pdq_value.specs.declared.shapes.Kind.{Kind}
use Rattle.pdq_value.specs.declared.shapes.Value.{Value}
use Rattle.pdq_value.specs.Cells.{cell_cmp, cell_of}
use Rattle.pdq_value.specs.Tables.{IsValueOf, TableView}
use Rattle.pdq_dict.specs.Texts.{text_cmp}
use Rattle.pdq_dict.specs.Dictionary.{dictionary_of}
use Rattle.pdq_dict.specs.Coding.{HasCode, IsCoded, cell_of_word, value_of_word, word_of, word_of_value}

-- a value is read back from its word
abbrev pub ValuesAreReadBack : Type 0
ValuesAreReadBack = (texts : List (List ℕ)) → IsStrictlySortedBy text_cmp texts → (k : Kind) (v : Value) → IsValueOf k v → HasCode texts v → value_of_word texts k (word_of_value texts v) ≡ v

-- a cell is read back from its word
abbrev pub CellsAreReadBack : Type 0
CellsAreReadBack = (texts : List (List ℕ)) → IsStrictlySortedBy text_cmp texts → (k : Kind) (a : Cell) → IsCoded texts k a → cell_of_word texts k (word_of texts a) ≡ a

-- within one column words compare as their cells
abbrev pub WordsCompareAsCells : Type 0
WordsCompareAsCells = (texts : List (List ℕ)) → IsStrictlySortedBy text_cmp texts → (k : Kind) (a b : Cell) → IsCoded texts k a → IsCoded texts k b → cell_cmp a b ≡ int_cmp (word_of texts a) (word_of texts b)

-- in columns of one kind, also of two tables, equal words are of equal cells
abbrev pub EqualWordsAreEqualCells : Type 0
EqualWordsAreEqualCells = (texts : List (List ℕ)) → IsStrictlySortedBy text_cmp texts → (k : Kind) (a b : Cell) → IsCoded texts k a → IsCoded texts k b → word_of texts a ≡ word_of texts b → a ≡ b

-- a value of a column and its cell have one word, and the cell is coded
pub record HasWordOfCell (texts : List (List ℕ)) (k : Kind) (v : Value) : Type 0 where
  pub coded : IsCoded texts k (cell_of k v)
  pub word : word_of_value texts v ≡ word_of texts (cell_of k v)

abbrev pub ValuesHaveWordsOfCells : Type 0
ValuesHaveWordsOfCells = (texts : List (List ℕ)) (k : Kind) (v : Value) → IsValueOf k v → HasCode texts v → HasWordOfCell texts k v

-- each value of some tables has a code in their dictionary
abbrev pub ValuesOfTablesHaveCodes : Type 0
ValuesOfTablesHaveCodes = (tables : List TableView) → All (λ (t : TableView). All (All (HasCode (dictionary_of tables))) t.rows) tables
