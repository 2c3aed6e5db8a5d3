-- Rows that are made of the words of others.
use Rattle.std.specs.Prelude.{List, ℤ, map, pos}
use Rattle.pdq_base.specs.Words.{word_at}
use Rattle.pdq_eval.specs.declared.picks.Pick.{Pick}
use Rattle.pdq_eval.specs.declared.picks.Pick.TheVariants.{Word, Zero}

-- a word of a row, or zero
abbrev pub picked_word : List ℤ → Pick → ℤ
picked_word w (Word place) = word_at place w
picked_word w Zero = pos 0

-- the row that is made of a row
abbrev pub picked : List Pick → List ℤ → List ℤ
picked picks w = map (picked_word w) picks
