-- The laws of dictionaries and codes.
use Rattle.std.specs.Prelude.{ℕ, ◌≡◌, ◌<◌, ◌↔◌, List, Some, Contains}
use Rattle.std.specs.List.Sorted.{IsStrictlySortedBy}
use Rattle.std.specs.Ordering.{nat_cmp}
use Rattle.std.specs.declared.cmp.Ordering.TheVariants.{Less}
use Rattle.pdq_value.specs.Tables.{TableView}
use Rattle.pdq_dict.specs.Texts.{text_cmp}
use Rattle.pdq_dict.specs.Dictionary.{code_of, dictionary_of, place_of, texts_of}

-- a dictionary rises strictly, so each text stands in it once
abbrev pub DictionariesRise : Type 0
DictionariesRise = (tables : List TableView) → IsStrictlySortedBy text_cmp (dictionary_of tables)

-- its texts are those of the tables
abbrev pub DictionariesHoldTheTexts : Type 0
DictionariesHoldTheTexts = (tables : List TableView) (t : List ℕ) → Contains (dictionary_of tables) t ↔ Contains (texts_of tables) t

-- two codes compare as their texts do
abbrev pub CodesCompareAsTexts : Type 0
CodesCompareAsTexts = (dictionary : List (List ℕ)) → IsStrictlySortedBy text_cmp dictionary → (s t : List ℕ) (i j : ℕ) → code_of dictionary s ≡ Some i → code_of dictionary t ≡ Some j →
    nat_cmp i j ≡ text_cmp s t

-- the codes below the place of a text are those of the texts that are less
abbrev pub CodesBelowAPlace : Type 0
CodesBelowAPlace = (dictionary : List (List ℕ)) → IsStrictlySortedBy text_cmp dictionary → (s t : List ℕ) (i : ℕ) → code_of dictionary s ≡ Some i →
    (i < place_of dictionary t) ↔ (text_cmp s t ≡ Less)
