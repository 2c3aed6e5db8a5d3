-- The answer does not depend on the order of the choices.
use Rattle.std.proofs.Common.{◌≡◌, ℕ, ◌-◌, ◌+◌, List, [], ◌∷◌, Bool, true, false, cond, refl, sym, ap, ap₂, ◌∙◌, subst, ℤ, pos, ◌+ℤ◌, map, max, arith, IsPermutation, Some, None, ◌||◌, nat_lt, length}
use Rattle.std.proofs.Math.IntN.{+ℤ_assoc, +ℤ_comm}
use Rattle.std.specs.List.{dedup, list_any}
use Rattle.std.proofs.lemmas.List.Sorted.{IsPermutation-refl, IsPermutation-map, length_permutation}
use Rattle.pdq_base.proofs.Permutations.{IsPermutation-by_swaps, filter-IsPermutation}
use Rattle.pdq_base.proofs.InOrder.{in_order-alike}
use Rattle.pdq_value.specs.declared.cells.Cell.{Cell}
use Rattle.pdq_value.specs.declared.cells.Cell.TheVariants.{Number, Nothing}
use Rattle.pdq_value.specs.Cells.{cell_at, number_of, scale_of}
use Rattle.pdq_value.specs.Averages.{average_of}
use Rattle.pdq_value.proofs.Orders.{cell_cmp-IsLinearOrder, row_cmp-IsLinearOrder}
use Rattle.pdq_query.specs.declared.query.At.{At}
use Rattle.pdq_query.specs.declared.query.Item.{Item}
use Rattle.pdq_query.specs.declared.query.Item.TheVariants.{Plain, Sum, Avg, Min, Max, Count}
use Rattle.pdq_query.specs.Queries.{QueryView}
use Rattle.pdq_query.specs.Conditions.{Choice, cell_in, is_something}
use Rattle.pdq_query.specs.Folds.{average_cell, group_rows, is_fold, is_grouped, is_row, item_of_group, key_of, keys_of, scale_in, sum_of, total_of, values_in}
use Rattle.pdq_query.specs.Answer.{answer_of, projected, row_limit, rows_of}
use Rattle.pdq_query.proofs.Orders.{answer_cmp-IsLinearOrder}

three : (a b c : ℤ) → a +ℤ (b +ℤ c) ≡ b +ℤ (a +ℤ c)
three a b c = sym (+ℤ_assoc a b c) ∙ ap (λ z. z +ℤ c) (+ℤ_comm a b) ∙ +ℤ_assoc b a c

total_of-IsPermutation : (vs ws : List Cell) → IsPermutation vs ws → total_of vs ≡ total_of ws
total_of-IsPermutation = IsPermutation-by_swaps (λ vs ws. total_of vs ≡ total_of ws) (λ vs. refl) (λ vs ws us h k. h ∙ k) (λ v vs ws h. ap (λ z. number_of v +ℤ z) h) (λ v w vs. three (number_of v) (number_of w) (total_of vs))

greatest_three : (a b c : ℕ) → max a (max b c) ≡ max b (max a c)
greatest_three a b c = omega arith

scale_in-IsPermutation : (vs ws : List Cell) → IsPermutation vs ws → scale_in vs ≡ scale_in ws
scale_in-IsPermutation = IsPermutation-by_swaps (λ vs ws. scale_in vs ≡ scale_in ws) (λ vs. refl) (λ vs ws us h k. h ∙ k) (λ v vs ws h. ap (max (scale_of v)) h) (λ v w vs. greatest_three (scale_of v) (scale_of w) (scale_in vs))

-- a cell that depends on a sum, a scale and a number of cells, and is nothing for no cell
abbrev made_of : (ℤ → ℕ → ℕ → Cell) → List Cell → Cell
made_of make [] = Nothing
made_of make (v ∷ vs) = make (total_of (v ∷ vs)) (scale_in (v ∷ vs)) (length (v ∷ vs))

sum_of-made : (vs : List Cell) → sum_of vs ≡ made_of (λ z s n. Number z s) vs
sum_of-made [] = refl
sum_of-made (v ∷ vs) = refl

average_cell-made : (vs : List Cell) → average_cell vs ≡ made_of (λ z s n. Number (average_of z n) (s + 2)) vs
average_cell-made [] = refl
average_cell-made (v ∷ vs) = refl

made_of-IsPermutation : (make : ℤ → ℕ → ℕ → Cell) (vs ws : List Cell) → IsPermutation vs ws → made_of make vs ≡ made_of make ws
made_of-IsPermutation make [] [] s = refl
made_of-IsPermutation make [] (w ∷ ws) s = absurd (omega (arith, length_permutation _ _ s))
made_of-IsPermutation make (v ∷ vs) [] s = absurd (omega (arith, length_permutation _ _ s))
made_of-IsPermutation make (v ∷ vs) (w ∷ ws) s =
    ap₂ (λ z k. make z k (length (v ∷ vs))) (total_of-IsPermutation (v ∷ vs) (w ∷ ws) s) (scale_in-IsPermutation (v ∷ vs) (w ∷ ws) s)
    ∙ ap (λ n. make (total_of (w ∷ ws)) (scale_in (w ∷ ws)) n) (sym (length_permutation (v ∷ vs) (w ∷ ws) s))

sum_of-IsPermutation : (vs ws : List Cell) → IsPermutation vs ws → sum_of vs ≡ sum_of ws
sum_of-IsPermutation vs ws s = sum_of-made vs ∙ made_of-IsPermutation (λ z s n. Number z s) vs ws s ∙ sym (sum_of-made ws)

average_cell-IsPermutation : (vs ws : List Cell) → IsPermutation vs ws → average_cell vs ≡ average_cell ws
average_cell-IsPermutation vs ws s = average_cell-made vs ∙ made_of-IsPermutation (λ z s n. Number (average_of z n) (s + 2)) vs ws s ∙ sym (average_cell-made ws)

values_in-IsPermutation : (a : At) (cs ds : List Choice) → IsPermutation cs ds → IsPermutation (values_in a cs) (values_in a ds)
values_in-IsPermutation a cs ds s = filter-IsPermutation is_something _ _ (IsPermutation-map (λ c. cell_in c a) cs ds s)

item_of_group-alike : (q : QueryView) (key : List Cell) (i : Item) (cs ds : List Choice) → IsPermutation cs ds → item_of_group q key cs i ≡ item_of_group q key ds i
unfolding item_of_group
item_of_group-alike q key (Plain a) cs ds s = refl
item_of_group-alike q key (Sum a) cs ds s = sum_of-IsPermutation _ _ (values_in-IsPermutation a cs ds s)
item_of_group-alike q key (Avg a) cs ds s = average_cell-IsPermutation _ _ (values_in-IsPermutation a cs ds s)
item_of_group-alike q key (Min a) cs ds s = ap (cell_at 0) (in_order-alike cell_cmp-IsLinearOrder _ _ (values_in-IsPermutation a cs ds s))
item_of_group-alike q key (Max a) cs ds s =
    let m = values_in-IsPermutation a cs ds s in
    ap₂ (λ n l. cell_at (n - 1) l) (sym (length_permutation _ _ m)) (in_order-alike cell_cmp-IsLinearOrder _ _ m)
item_of_group-alike q key Count cs ds s = ap (λ n. Number (pos n) 0) (sym (length_permutation _ _ s))

keys_of-alike : (q : QueryView) (cs ds : List Choice) → IsPermutation cs ds → keys_of q cs ≡ keys_of q ds
unfolding keys_of
keys_of-alike q cs ds s = ap (λ l. cond (is_grouped q) (dedup is_row l) ([] ∷ [])) (in_order-alike row_cmp-IsLinearOrder _ _ (IsPermutation-map (key_of q) cs ds s))

pub group_rows-alike : (q : QueryView) (cs ds : List Choice) → IsPermutation cs ds → group_rows q cs ≡ group_rows q ds
unfolding group_rows
group_rows-alike q cs ds s = ap₂ (λ (f : List Cell → Item → Cell) l. map (λ key. map (f key) q.items) l)
    (λ n key i. item_of_group-alike q key i _ _ (filter-IsPermutation (λ c. is_row (key_of q c) key) cs ds s) n)
    (keys_of-alike q cs ds s)

either_rows : (b : Bool) (us vs xs ys : List (List Cell)) → us ≡ vs → IsPermutation xs ys → IsPermutation (cond b us xs) (cond b vs ys)
either_rows true us vs xs ys e s = subst (IsPermutation us) e (IsPermutation-refl us)
either_rows false us vs xs ys e s = s

rows_of-IsPermutation : (q : QueryView) (cs ds : List Choice) → IsPermutation cs ds → IsPermutation (rows_of q cs) (rows_of q ds)
unfolding rows_of
rows_of-IsPermutation q cs ds s = either_rows (is_grouped q || list_any is_fold q.items) _ _ _ _ (group_rows-alike q cs ds s) (IsPermutation-map (λ c. map (projected c) q.items) cs ds s)

pub answer_of-alike : (q : QueryView) (cs ds : List Choice) → IsPermutation cs ds → answer_of q cs ≡ answer_of q ds
unfolding answer_of
answer_of-alike q cs ds s = ap₂ (λ n l. cond (nat_lt row_limit n) None (Some l)) (sym (length_permutation _ _ s)) (in_order-alike (answer_cmp-IsLinearOrder q.keys) _ _ (rows_of-IsPermutation q cs ds s))
