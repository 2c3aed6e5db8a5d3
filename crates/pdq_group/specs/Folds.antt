-- What is folded of the words of a key, and the words in which a group keeps it.
use Rattle.std.specs.Prelude.{◌≡◌, ◌⊎◌, ⊤, ℕ, suc, ◌+◌, ◌*◌, ◌≤◌, ◌^◌, ◌<◌, ℤ, pos, ◌+ℤ◌, nat_abs, int_lt, List, [], ◌∷◌, ◌++◌, length, map, filter, take, drop, slice_index_or, cond}
use Rattle.std.specs.Int.{w64, w128, int_wrap}
use Rattle.pdq_base.specs.Words.{word_at}
use Rattle.pdq_value.specs.Averages.{average_of}
use Rattle.pdq_group.specs.Words.{values, low_word, high_word, wide_number, total_of, least_of, greatest_of, lesser, greater}
use Rattle.pdq_base.specs.Words.{null_word, is_null}
use Rattle.pdq_group.specs.declared.shape.Fold.{Fold}
use Rattle.pdq_group.specs.declared.shape.Fold.TheVariants.{Sum, Avg, Min, Max, Count}

-- a number as two words
abbrev pub wide_words : ℤ → List ℤ
wide_words z = low_word z ∷ high_word z ∷ []

-- a sum and an average over no value are no value
abbrev pub sum_words : List ℤ → List ℤ
sum_words [] = pos 0 ∷ null_word ∷ []
sum_words (v ∷ vs) = wide_words (total_of (v ∷ vs))

abbrev pub average_words : List ℤ → List ℤ
average_words [] = pos 0 ∷ null_word ∷ []
average_words (v ∷ vs) = wide_words (average_of (total_of (v ∷ vs)) (length (v ∷ vs)))

-- what is put of a fold over some words
unfoldable pub fold_words : Fold → List ℤ → List ℤ
fold_words Sum ws = sum_words (values ws)
fold_words Avg ws = average_words (values ws)
fold_words Min ws = least_of (values ws) ∷ []
fold_words Max ws = greatest_of (values ws) ∷ []
fold_words Count ws = pos (length ws) ∷ []

-- the folds of the words of rows from a place on
abbrev pub folded_from : List Fold → ℕ → List (List ℤ) → List ℤ
folded_from [] j rows = []
folded_from (f ∷ fs) j rows = fold_words f (map (word_at j) rows) ++ folded_from fs (suc j) rows

-- how many words are put of a fold
abbrev pub words_of_fold : Fold → ℕ
words_of_fold Sum = 2
words_of_fold Avg = 2
words_of_fold Min = 1
words_of_fold Max = 1
words_of_fold Count = 1

abbrev pub words_of_folds : List Fold → ℕ
words_of_folds [] = 0
words_of_folds (f ∷ fs) = words_of_fold f + words_of_folds fs

-- the three words in which a group keeps a fold: of a sum the low and the high word and how many values there were
abbrev pub sum_state : List ℤ → List ℤ
sum_state vs = low_word (int_wrap w128 (total_of vs)) ∷ high_word (int_wrap w128 (total_of vs)) ∷ int_wrap w64 (pos (length vs)) ∷ []

unfoldable pub state_words : Fold → List ℤ → List ℤ
state_words Sum ws = sum_state (values ws)
state_words Avg ws = sum_state (values ws)
state_words Min ws = least_of (values ws) ∷ pos 0 ∷ pos 0 ∷ []
state_words Max ws = greatest_of (values ws) ∷ pos 0 ∷ pos 0 ∷ []
state_words Count ws = int_wrap w64 (pos (length ws)) ∷ pos 0 ∷ pos 0 ∷ []

-- the words in which a group keeps its folds
abbrev pub states_from : List Fold → ℕ → List (List ℤ) → List ℤ
states_from [] j rows = []
states_from (f ∷ fs) j rows = state_words f (map (word_at j) rows) ++ states_from fs (suc j) rows

-- one more word in a fold's words
abbrev pub added : ℤ → ℤ → ℤ → ℤ → List ℤ
added a b c w = let s = int_wrap w128 (wide_number a b +ℤ w) in low_word s ∷ high_word s ∷ int_wrap w64 (c +ℤ pos 1) ∷ []

unfoldable pub folded : Fold → ℤ → ℤ → ℤ → ℤ → List ℤ
folded Sum a b c w = cond (is_null w) (a ∷ b ∷ c ∷ []) (added a b c w)
folded Avg a b c w = cond (is_null w) (a ∷ b ∷ c ∷ []) (added a b c w)
folded Min a b c w = lesser a w ∷ b ∷ c ∷ []
folded Max a b c w = greater a w ∷ b ∷ c ∷ []
folded Count a b c w = int_wrap w64 (a +ℤ pos 1) ∷ b ∷ c ∷ []

-- one more word in each fold of a group
abbrev pub all_folded : List Fold → List ℤ → List ℤ → List ℤ
all_folded [] st ws = []
all_folded (f ∷ fs) (a ∷ b ∷ c ∷ st) (w ∷ ws) = folded f a b c w ++ all_folded fs st ws
all_folded (f ∷ fs) st ws = []

-- the words of a group with one more row
abbrev pub with_row : ℕ → List Fold → List ℤ → List ℤ → List ℤ
with_row keys folds group row = take keys row ++ all_folded folds (drop keys group) (drop keys row)

-- what is put of a fold's three words
abbrev pub put_of_sum : ℤ → ℤ → ℤ → List ℤ
put_of_sum a b c = cond (int_lt (pos 0) c) (a ∷ b ∷ []) (pos 0 ∷ null_word ∷ [])

abbrev pub put_of_average : ℤ → ℤ → ℤ → List ℤ
put_of_average a b c = cond (int_lt (pos 0) c) (wide_words (average_of (wide_number a b) (nat_abs c))) (pos 0 ∷ null_word ∷ [])

unfoldable pub put_of : Fold → ℤ → ℤ → ℤ → List ℤ
put_of Sum a b c = put_of_sum a b c
put_of Avg a b c = put_of_average a b c
put_of Min a b c = a ∷ []
put_of Max a b c = a ∷ []
put_of Count a b c = a ∷ []

abbrev pub all_put : List Fold → List ℤ → List ℤ
all_put [] st = []
all_put (f ∷ fs) (a ∷ b ∷ c ∷ st) = put_of f a b c ++ all_put fs st
all_put (f ∷ fs) st = []

-- the row that is put of a group
abbrev pub put_row : ℕ → List Fold → List ℤ → List ℤ
put_row keys folds group = take keys group ++ all_put folds (drop keys group)

-- the first word in which a group keeps a fold of no row
abbrev pub first_word : Fold → ℤ
first_word Sum = pos 0
first_word Avg = pos 0
first_word Min = null_word
first_word Max = null_word
first_word Count = pos 0

-- the words in which a group of no row keeps its folds
abbrev pub no_states : List Fold → List ℤ
no_states folds = states_from folds 0 []

-- a word that may be folded: of a sum and an average no value, or below 10^18 in magnitude
abbrev pub FitsFold : Fold → ℤ → Type 0
FitsFold Sum w = (w ≡ null_word) ⊎ (nat_abs w < 10 ^ 18)
FitsFold Avg w = (w ≡ null_word) ⊎ (nat_abs w < 10 ^ 18)
FitsFold Min w = ⊤
FitsFold Max w = ⊤
FitsFold Count w = ⊤

-- the words of a row from a place on may be folded
abbrev pub FitsFolds : List Fold → ℕ → List ℤ → Type 0
FitsFolds [] j row = ⊤
FitsFolds (f ∷ fs) j row = FitsFold f (word_at j row) × FitsFolds fs (suc j) row

-- all rows may be folded
pub record AreFoldable (folds : List Fold) (keys : ℕ) (rows : List (List ℤ)) : Type 0 where
  pub words : (k : ℕ) (d : List ℤ) → k < length rows → FitsFolds folds keys (slice_index_or rows k d)
  pub few : length rows ≤ 20000000
