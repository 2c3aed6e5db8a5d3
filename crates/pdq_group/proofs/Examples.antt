-- The definitions compute.
use Rattle.std.proofs.Common.{◌≡◌, ◌-◌, ◌*◌, refl, [], ◌∷◌, List}
use Rattle.std.specs.Prelude.{ℤ, pos, negsuc}
use Rattle.std.specs.Int.{int_wrap}
use Rattle.pdq_spill.specs.Blocks.{blocks_beyond, blocks_for}
use Rattle.pdq_frame.specs.Regions.{rows_per_frame}
use Rattle.pdq_group.specs.declared.shape.Fold.{Fold}
use Rattle.pdq_group.specs.declared.shape.Fold.TheVariants.{Sum, Avg, Min, Max, Count}
use Rattle.pdq_base.specs.Words.{null_word}
use Rattle.pdq_value.specs.Averages.{average_of}
use Rattle.pdq_group.specs.Folds.{fold_words}
use Rattle.pdq_group.specs.Groups.{is_among, keys_of, rows_of_key, grouped_words}
use Rattle.pdq_group.specs.Tables.{groups_in, group_width}
use Rattle.pdq_group.specs.Passes.{passes_for}

sums_and_counts : grouped_words 1 (Sum ∷ Count ∷ []) ((pos 1 ∷ pos 10 ∷ pos 0 ∷ []) ∷ (pos 2 ∷ pos 5 ∷ pos 0 ∷ []) ∷ (pos 1 ∷ negsuc 3 ∷ pos 0 ∷ []) ∷ [])
    ≡ (pos 1 ∷ pos 6 ∷ pos 0 ∷ pos 2 ∷ []) ∷ (pos 2 ∷ pos 5 ∷ pos 0 ∷ pos 1 ∷ []) ∷ []
unfolding grouped_words keys_of rows_of_key fold_words is_among int_wrap
sums_and_counts = refl

-- no value among two: the sum, the average and the least are no value, the count is two
of_no_value : grouped_words 1 (Sum ∷ Avg ∷ Min ∷ Count ∷ []) ((null_word ∷ null_word ∷ null_word ∷ null_word ∷ pos 0 ∷ []) ∷ (null_word ∷ null_word ∷ null_word ∷ null_word ∷ pos 0 ∷ []) ∷ [])
    ≡ (null_word ∷ pos 0 ∷ null_word ∷ pos 0 ∷ null_word ∷ null_word ∷ pos 2 ∷ []) ∷ []
unfolding grouped_words keys_of rows_of_key fold_words is_among int_wrap average_of
of_no_value = refl

room_of_two_frames : groups_in 2 1 (Count ∷ []) ≡ 102
room_of_two_frames = refl

ten_passes : passes_for 1000 102 ≡ 10
ten_passes = refl

four_blocks : blocks_beyond 1000 (2 * rows_per_frame (group_width 1 (Count ∷ []))) 2 ≡ 4
four_blocks = refl

thirty-six_blocks : (passes_for 1000 102 - 1) * blocks_for 1000 2 ≡ 36
thirty-six_blocks = refl

one_pass : passes_for 0 102 ≡ 1
one_pass = refl
