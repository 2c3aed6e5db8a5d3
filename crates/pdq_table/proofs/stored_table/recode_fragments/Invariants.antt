use Rattle.std.proofs.Common.{◌≡◌, ◌++◌, drop, take, map}
use Rattle.pdq_table.specs.NotedWords.{recoded}
use Rattle.pdq_table.specs.Words.{with_words}
use Rattle.pdq_table.proofs.stored_table.recode_fragments.Given as goal

abbrev pub invariant-loop-fragment : goal.invariant-loop-fragment
invariant-loop-fragment l = l.fragments ≡ map (with_words (recoded l.codes)) (take l.fragment-index l.initial.fragments) ++ drop l.fragment-index l.initial.fragments
