-- The last rows of a run, decoded and sorted, are the answer.
use Rattle.std.proofs.Common.{All, ◌≡◌, ℕ, zero, suc, ◌+◌, ◌<◌, ◌≤◌, ◌⊎◌, inl, inr, ⊎_elim, List, [], ◌∷◌, true, false, cond, refl, ap, ap₂, ◌∙◌, subst, arith, length, get_or, map, nat_lt, is_lt, ℤ, Some, None, IsPermutation, IsSorted, le-ltb}
use Rattle.std.specs.List.{range_with_len}
use Rattle.std.specs.Global.{Vec}
use Rattle.std.proofs.lemmas.List.{length-map}
use Rattle.std.proofs.lemmas.List.Sorted.{IsPermutation-map, IsPermutation-trans}
use Rattle.pdq_value.specs.declared.cells.Cell.{Cell}
use Rattle.pdq_value.specs.Tables.{ShapeView, TableView}
use Rattle.pdq_dict.specs.Dictionary.{dictionary_of}
use Rattle.pdq_query.specs.declared.query.Key.{Key}
use Rattle.pdq_query.specs.Fits.{IsPlainInGroups}
use Rattle.pdq_query.specs.Folds.{is_grouped}
use Rattle.pdq_query.specs.Answer.{answer, answer_cmp, row_limit}
use Rattle.pdq_plan.specs.Plans.{PlanView, columns_of, order_of}
use Rattle.pdq_exchange.specs.Routing.{owner_of}
use Rattle.pdq_mean.specs.Loops.{lists_of}
use Rattle.pdq_mean.specs.Rows.{vector_cmp}
use Rattle.pdq_eval.specs.Owners.{gathered}
use Rattle.pdq_eval.specs.Results.{folds, group_answer_row, item_of_nothing, plain_row}
use Rattle.pdq_eval.specs.Running.{all_running}
use Rattle.pdq_eval.specs.Laws.{IsOrderOf, shapes_of}
use Rattle.pdq_eval.proofs.Whole.{empty_runs_answer, grouped_runs_answer, plain_runs_answer}
use Rattle.pdq_result.specs.Answers.{AreGroups, AreRunning, IsPlanOver}
use Rattle.pdq_result.specs.Sources.{cells_from, group_sources, plain_source}
use Rattle.pdq_result.proofs.Foldable.{foldable}
use Rattle.pdq_result.proofs.Nothing.{no_element, nothing_ran, something_ran}
use Rattle.pdq_result.proofs.Rows.{cells_from-group, cells_from-plain}

-- sorted vectors of cells are sorted lists of cells
list_at : (vs : List (Vec Cell)) (v : Vec Cell) (k : ℕ) (d : List Cell) → k < length vs → get_or (lists_of vs) k d ≡ (get_or vs k v).items
list_at [] v k d p = absurd (omega arith)
list_at (w ∷ vs) v zero d p = refl
list_at (w ∷ vs) v (suc k) d p = list_at vs v k d (omega arith)

sorted_lists : (keys : List Key) (vs : List (Vec Cell)) → IsSorted (vector_cmp keys) vs → IsSorted (answer_cmp keys) (lists_of vs)
unfolding vector_cmp
sorted_lists keys [] h k d p r = absurd (omega (arith, r))
sorted_lists keys (v ∷ vs) h k d p r =
    let size = length-map (v ∷ vs) (λ (w : Vec Cell). w.items) in
    let below : k + 1 < length (v ∷ vs) = omega (arith, r, size) in
    ap₂ (λ a b. is_lt (answer_cmp keys a b)) (list_at (v ∷ vs) v (k + 1) d below) (list_at (v ∷ vs) v k d (omega arith)) ∙ h k v p below

moved_lists : (rows sorted : List (Vec Cell)) (cells : List (List Cell)) → lists_of rows ≡ cells → IsPermutation rows sorted → IsPermutation cells (lists_of sorted)
moved_lists rows sorted cells e h = subst (λ l. IsPermutation l (lists_of sorted)) e (IsPermutation-map (λ (v : Vec Cell). v.items) rows sorted h)

-- within the limit there is an answer
within : (ws : List (List ℤ)) (rows : List (List Cell)) → length ws ≤ row_limit → cond (nat_lt row_limit (length ws)) None (Some rows) ≡ Some rows
within ws rows few = ap (λ b. cond b None (Some rows)) (le-ltb row_limit (length ws) few)

map-same : (f g : List ℤ → List Cell) → ((w : List ℤ) → f w ≡ g w) → (ws : List (List ℤ)) → map f ws ≡ map g ws
map-same f g h ws = ap (λ (k : List ℤ → List Cell). map k ws) (λ i w. h w i)

module _ (texts : List (List ℕ)) (shapes : List ShapeView) (p : PlanView) (tables : List TableView) (over : IsPlanOver texts shapes p tables) (rows sorted : List (Vec Cell)) (moved : IsPermutation rows sorted) (rising : IsSorted (vector_cmp p.query.keys) sorted) where
  abbrev Plain : List ℤ → List Cell
  Plain = cells_from texts (map (plain_source shapes p.query (columns_of p)) p.query.items)

  plain_rows : (ws : List (List ℤ)) → map Plain ws ≡ map (plain_row (dictionary_of tables) (shapes_of tables) p.query (columns_of p)) ws
  plain_rows ws =
      map-same Plain (plain_row texts shapes p.query (columns_of p)) (λ w. cells_from-plain texts shapes p.query (columns_of p) w p.query.items) ws
      ∙ ap₂ (λ t s. map (plain_row t s p.query (columns_of p)) ws) over.texts_are over.shapes_are

  pub plain_answer : folds p.query ≡ false → (ws : List (List ℤ)) → AreRunning tables p ws → lists_of rows ≡ map Plain ws → answer tables p.query ≡ Some (lists_of sorted)
  plain_answer plain ws run made =
      plain_runs_answer tables p.query (order_of p) over.order plain ws run.all (lists_of sorted) (moved_lists rows sorted _ (made ∙ plain_rows ws) moved) (sorted_lists p.query.keys sorted rising)
      ∙ within ws (lists_of sorted) run.few

  abbrev Grouped : List ℤ → List Cell
  Grouped = cells_from texts (group_sources shapes p.query p.query.items (length p.query.groups))

  grouped_rows : All (IsPlainInGroups p.query.groups) p.query.items → (ws : List (List ℤ)) → map Grouped ws ≡ map (group_answer_row (dictionary_of tables) (shapes_of tables) p.query) ws
  grouped_rows found ws =
      map-same Grouped (group_answer_row texts shapes p.query) (λ w. cells_from-group texts shapes p.query w p.query.items found (length p.query.groups)) ws
      ∙ ap₂ (λ t s. map (group_answer_row t s p.query) ws) over.texts_are over.shapes_are

  pub grouped_answer : folds p.query ≡ true → (groups : List (List ℤ)) (g : AreGroups tables p groups) → (is_grouped p.query ≡ true) ⊎ (0 < length g.ws) → lists_of rows ≡ map Grouped groups → answer tables p.query ≡ Some (lists_of sorted)
  grouped_answer folding groups g some made =
      let decode = group_answer_row (dictionary_of tables) (shapes_of tables) p.query in
      let all = IsPermutation-map decode (gathered g.owners g.out) groups g.together in
      let put = moved_lists rows sorted _ (made ∙ grouped_rows (over.order.fits.grouped folding) groups) moved in
      grouped_runs_answer tables p.query (order_of p) over.order folding g.ws g.running.all some g.sent g.inputs g.owners g.some_owner g.out
      (λ j below. g.puts j below (foldable tables p over.order g.ws g.running g.sent g.inputs (owner_of (range_with_len 0 (length p.query.groups)) g.owners) j))
      (lists_of sorted) (IsPermutation-trans _ _ _ all put) (sorted_lists p.query.keys sorted rising)
      ∙ within g.ws (lists_of sorted) g.running.few

-- where no row ran
pub empty_answer : (p : PlanView) (tables : List TableView) → IsOrderOf tables p.query (order_of p) → folds p.query ≡ true → is_grouped p.query ≡ false → AreRunning tables p [] → answer tables p.query ≡ Some (map item_of_nothing p.query.items ∷ [])
empty_answer p tables order folding alone run = empty_runs_answer tables p.query (order_of p) order folding alone (no_element (all_running tables p.query (order_of p)) run.all)

-- no cells are of no rows
no_read : (read : List ℤ → List Cell) (ws : List (List ℤ)) (rows : List (Vec Cell)) → lists_of rows ≡ map read ws → length rows ≡ 0 → ws ≡ []
no_read read [] rows made none = refl
no_read read (w ∷ ws) rows made none =
    let same = ap length made in
    let size = length-map rows (λ (v : Vec Cell). v.items) in
    absurd (omega (arith, same, size, none))

-- some cells are of some rows
some_read : (read : List ℤ → List Cell) (ws : List (List ℤ)) (rows : List (Vec Cell)) → lists_of rows ≡ map read ws → 0 < length rows → 0 < length ws
some_read read ws rows made some =
    let same = ap length made in
    let size = length-map rows (λ (v : Vec Cell). v.items) in
    let more = length-map ws read in
    omega (arith, same, size, more, some)

-- without a group and without GROUP BY: one row of nothing
pub nothing_answer : (p : PlanView) (tables : List TableView) → IsOrderOf tables p.query (order_of p) → folds p.query ≡ true → is_grouped p.query ≡ false → (groups : List (List ℤ)) → AreGroups tables p groups →
    (read : List ℤ → List Cell) (rows : List (Vec Cell)) → lists_of rows ≡ map read groups → length rows ≡ 0 → answer tables p.query ≡ Some (map item_of_nothing p.query.items ∷ [])
nothing_answer p tables order folding alone groups g read rows made none =
    empty_answer p tables order folding alone (subst (AreRunning tables p) (nothing_ran tables p order groups g (no_read read groups rows made none)) g.running)

-- with GROUP BY, or some group
pub some_ran : (p : PlanView) (tables : List TableView) → IsOrderOf tables p.query (order_of p) → (groups : List (List ℤ)) (g : AreGroups tables p groups) → (read : List ℤ → List Cell) (rows : List (Vec Cell)) → lists_of rows ≡ map read groups →
    (is_grouped p.query ≡ true) ⊎ (0 < length rows) → (is_grouped p.query ≡ true) ⊎ (0 < length g.ws)
some_ran p tables order groups g read rows made some = ⊎_elim (λ e. inl e) (λ r. inr (something_ran tables p order groups g (some_read read groups rows made r))) some
