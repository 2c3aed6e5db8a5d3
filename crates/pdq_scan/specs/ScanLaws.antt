-- What the laws of scanners of fragments rest on.
use Rattle.std.proofs.Common.{◌≡◌, ℕ, List, length, refl, filter, ℤ}
use Rattle.std.specs.Prelude.{drop}
use Rattle.std.proofs.lemmas.List.{length-map}
use Rattle.std.proofs.lemmas.List.Elements.{All-map}
use Rattle.pdq_exchange.specs.Roles.{IsComing}
use Rattle.pdq_base.specs.Words.{null_word}
use Rattle.pdq_eval.specs.declared.picks.Pick.{Pick}
use Rattle.pdq_scan.specs.declared.word_tests.WordTest.{WordTest}
use Rattle.pdq_scan.specs.WordTests.{all_passed}
use Rattle.pdq_scan.specs.Lanes.{all_told}
use Rattle.pdq_scan.specs.Scans.{left_rows, rows_from, words_or}

-- what is told has the width
pub left-coming : (tests : List WordTest) (columns : List Pick) (fragments : List (List (List ℤ))) (at row : ℕ) → IsComing (length columns) (all_told (left_rows tests columns fragments at row))
unfolding left_rows
left-coming tests columns fragments at row = (refl, All-map (λ r. length r ≡ length columns) (words_or null_word columns) (filter (all_passed tests) (rows_from (drop at fragments) row)) (λ k d l. length-map columns _))
