-- What the evaluator gathers, sorted, is the answer.
use Rattle.std.proofs.Common.{◌≡◌, ◌<◌, ◌≤◌, ◌+◌, ℕ, List, [], ◌∷◌, true, false, cond, ◌||◌, nat_lt, refl, sym, ap, ap₂, ◌∙◌, subst, arith, length, get_or, map, filter, is_lt, IsPermutation, IsSorted, Some, None, lt-ltb, le-ltb}
use Rattle.std.specs.Global.{Vec}
use Rattle.std.proofs.lemmas.List.{length-map}
use Rattle.std.proofs.lemmas.List.Sorted.{IsPermutation-map}
use Rattle.pdq_value.specs.declared.cells.Cell.{Cell}
use Rattle.pdq_base.specs.Sorting.{in_order}
use Rattle.std.specs.List.{dedup, list_any}
use Rattle.pdq_value.specs.Cells.{row_cmp}
use Rattle.pdq_value.specs.Tables.{TableView}
use Rattle.pdq_query.specs.declared.query.Key.{Key}
use Rattle.pdq_query.specs.Queries.{QueryView}
use Rattle.pdq_query.specs.Conditions.{Choice, cell_in}
use Rattle.pdq_query.specs.Folds.{group_rows, is_fold, is_grouped, is_row, item_of_group, key_of, keys_of}
use Rattle.pdq_query.specs.Answer.{answer, answer_cmp, answer_of, choices, projected, row_limit, rows_of}
use Rattle.pdq_query.proofs.Planning.{answers_sort_one_way}
use Rattle.pdq_mean.specs.Loops.{chosen, lists_of}
use Rattle.pdq_mean.specs.Groups.{choices_of, first_key}
use Rattle.pdq_mean.specs.Rows.{vector_cmp}
use Rattle.pdq_mean.proofs.Kept.{get_or-mapped}
use Rattle.pdq_mean.proofs.PlainItems.{get_or-any}

list_at : (vs : List (Vec Cell)) (v : Vec Cell) (k : ℕ) (d : List Cell) → k < length vs → get_or (lists_of vs) k d ≡ (get_or vs k v).items
list_at vs v k d below = get_or-mapped (λ (w : Vec Cell). w.items) vs k (get_or vs k v) d below (get_or-any vs k v (get_or vs k v) below)

sorted_lists : (keys : List Key) (vs : List (Vec Cell)) → IsSorted (vector_cmp keys) vs → IsSorted (answer_cmp keys) (lists_of vs)
unfolding vector_cmp
sorted_lists keys [] h k d p r = absurd (omega (arith, r))
sorted_lists keys (v ∷ vs) h k d p r =
    let size = length-map (v ∷ vs) (λ (w : Vec Cell). w.items) in
    let below : k + 1 < length (v ∷ vs) = omega (arith, r, size) in
    ap₂ (λ a b. is_lt (answer_cmp keys a b)) (list_at (v ∷ vs) v (k + 1) d below) (list_at (v ∷ vs) v k d (omega arith)) ∙ h k v p below

module _ (tables : List TableView) (q : QueryView) where
  pub evaluated : (vs : List (Vec ℕ)) (rows sorted : List (Vec Cell)) → choices_of tables q vs ≡ choices tables q → length vs ≤ row_limit → lists_of rows ≡ rows_of q (choices_of tables q vs) → IsPermutation rows sorted → IsSorted (vector_cmp q.keys) sorted → answer tables q ≡ Some (lists_of sorted)
  evaluated vs rows sorted all few made moved rising =
      let size = length-map (lists_of vs) (chosen tables q) ∙ length-map vs (λ (v : Vec ℕ). v.items) in
      let within : nat_lt row_limit (length (choices_of tables q vs)) ≡ false = le-ltb row_limit (length (choices_of tables q vs)) (omega (arith, size)) in
      ap (answer_of q) (sym all)
      ∙ answers_sort_one_way q (choices_of tables q vs) (lists_of sorted) (subst (λ l. IsPermutation l (lists_of sorted)) made (IsPermutation-map (λ (v : Vec Cell). v.items) rows sorted moved)) (sorted_lists q.keys sorted rising)
      ∙ ap (λ b. cond b None (Some (lists_of sorted))) within

  pub too_many : row_limit < length (choices tables q) → answer tables q ≡ None
  unfolding answer_of
  too_many h = ap (λ b. cond b None (Some (in_order (answer_cmp q.keys) (rows_of q (choices tables q))))) (lt-ltb row_limit (length (choices tables q)) h)

-- without group columns all choices make one row
module _ (q : QueryView) (alone : q.groups ≡ []) where
  one_key : (cs : List Choice) → first_key q cs ≡ []
  one_key [] = refl
  one_key (c ∷ cs) = ap (map (cell_in c)) alone

  all_kept : (cs : List Choice) → filter (λ c. is_row (key_of q c) []) cs ≡ cs
  all_kept [] = refl
  all_kept (c ∷ cs) = ap₂ (λ b l. cond b (c ∷ l) l) (ap (λ g. is_row (map (cell_in c) g) []) alone) (all_kept cs)

  pub group_rows-alone : (cs : List Choice) → map (item_of_group q (first_key q cs) cs) q.items ∷ [] ≡ group_rows q cs
  unfolding group_rows keys_of
  group_rows-alone cs =
      let row : List Cell → List Cell = λ key. map (item_of_group q key (filter (λ c. is_row (key_of q c) key) cs)) q.items in
      ap₂ (λ k l. map (item_of_group q k l) q.items ∷ []) (one_key cs) (sym (all_kept cs))
      ∙ ap (λ g. map row (cond (nat_lt 0 (length g)) (dedup is_row (in_order row_cmp (map (key_of q) cs))) ([] ∷ []))) (sym alone)

pub empty_list : {X : Type 0} (xs : List X) → length xs ≡ 0 → xs ≡ []
empty_list [] e = refl
empty_list (x ∷ xs) e = absurd (omega (arith, e))

pub rows_of-grouped : (q : QueryView) (cs : List Choice) → (is_grouped q || list_any is_fold q.items) ≡ true → group_rows q cs ≡ rows_of q cs
unfolding rows_of
rows_of-grouped q cs e = ap (λ b. cond b (group_rows q cs) (map (λ c. map (projected c) q.items) cs)) (sym e)

pub rows_of-projected : (q : QueryView) (cs : List Choice) → (is_grouped q || list_any is_fold q.items) ≡ false → map (λ c. map (projected c) q.items) cs ≡ rows_of q cs
unfolding rows_of
rows_of-projected q cs e = ap (λ b. cond b (group_rows q cs) (map (λ c. map (projected c) q.items) cs)) (sym e)
