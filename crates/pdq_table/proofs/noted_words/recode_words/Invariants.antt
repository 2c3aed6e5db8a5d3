use Rattle.std.proofs.Common.{◌≡◌, ◌++◌, drop, take, map}
use Rattle.pdq_table.specs.NotedWords.{recoded}
use Rattle.pdq_table.proofs.noted_words.recode_words.Given as goal

abbrev pub invariant-loop-word : goal.invariant-loop-word
invariant-loop-word l = l.words ≡ map (recoded l.codes) (take l.word-index l.initial.words) ++ drop l.word-index l.initial.words
