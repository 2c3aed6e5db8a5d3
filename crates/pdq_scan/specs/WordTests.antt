-- Filters whose literals are words.
use Rattle.std.specs.Prelude.{◌≡◌, ℕ, List, Bool, false, ◌&&◌, ℤ}
use Rattle.std.specs.List.{AllZip, list_all}
use Rattle.std.specs.Ordering.{int_cmp}
use Rattle.pdq_base.specs.Words.{is_value}
use Rattle.pdq_query.specs.declared.query.Filter.{Filter}
use Rattle.pdq_query.specs.Conditions.{holds}
use Rattle.pdq_scan.specs.declared.word_tests.WordTest.{WordTest}
use Rattle.pdq_scan.specs.declared.word_tests.WordTest.TheVariants.{Word, Absent, Never, Columns}
use Rattle.pdq_eval.specs.Scanning.{absent_cmp, are_same, word_of_column, word_passes}

-- a test asked of a coded row
abbrev pub is_passed : List ℤ → WordTest → Bool
is_passed w (Word column test word) = is_value (word_of_column column w) && holds test (int_cmp (word_of_column column w) word)
is_passed w (Absent column test place) = is_value (word_of_column column w) && holds test (absent_cmp (word_of_column column w) place)
is_passed w Never = false
is_passed w (Columns one other) = are_same (word_of_column one w) (word_of_column other w)

-- it asks what the filter asks
abbrev pub IsTestOf : List (List ℕ) → Filter → WordTest → Type 0
IsTestOf texts f t = (w : List ℤ) → is_passed w t ≡ word_passes texts w f

-- the tests ask what the filters ask, one for each
abbrev pub AreTestsOf : List (List ℕ) → List Filter → List WordTest → Type 0
AreTestsOf texts = AllZip (IsTestOf texts)

abbrev pub all_passed : List WordTest → List ℤ → Bool
all_passed tests w = list_all (is_passed w) tests
