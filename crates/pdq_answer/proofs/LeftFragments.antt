-- A plan that reads the fragments that are left reads each row that meets the filters on its table.
use Rattle.std.proofs.Common.{◌≡◌, ℕ, zero, suc, ◌+◌, ◌<◌, Bool, true, false, List, [], ◌∷◌, ◌++◌, All, length, get_or, map, refl, ap, ap₂, sym, ◌∙◌, subst, arith, true≢false, ◌==◌, eq-eqb}
use Rattle.std.specs.Prelude.{◌&&◌, ◌||◌, not, Option, Some, Contains, filter}
use Rattle.std.specs.List.{AllByRecursion, IsDistinct, enumerate_from, list_all, list_any, range_with_len}
use Rattle.std.specs.List.Sorted.{IsPermutation}
use Rattle.std.proofs.lemmas.Bool.Decides.{nat_tests}
use Rattle.std.proofs.lemmas.List.Elements.{All-cons, All-from_get_or, Contains-get_or, All-contains, All-contains_itself, All-filter, All-head, All-tail}
use Rattle.std.proofs.lemmas.List.FromFn.{get_or-range_with_len, length-range_with_len}
use Rattle.std.proofs.lemmas.List.Sorted.{All-permutation}
use Rattle.std.proofs.lemmas.Map.Keys.{IsDistinct-IsPermutation}
use Rattle.pdq_value.specs.declared.cells.Cell.{Cell}
use Rattle.pdq_value.specs.declared.shapes.Value.{Value}
use Rattle.pdq_value.specs.Tables.{ShapeView, cells_of}
use Rattle.pdq_schema.specs.Fragments.{fragment_count, placed_rows, stands_in}
use Rattle.pdq_query.specs.declared.query.Filter.{Filter}
use Rattle.pdq_query.specs.declared.query.Filter.TheVariants.{Literal, Columns}
use Rattle.pdq_query.specs.Answer.{places}
use Rattle.pdq_query.specs.Conditions.{passes}
use Rattle.pdq_query.specs.Fits.{FilterFits, Fits}
use Rattle.pdq_query.specs.Plans.{Filtered, is_due, reads, reads_any}
use Rattle.pdq_query.specs.Queries.{QueryView}
use Rattle.pdq_plan.specs.PlanOrder.{IsPlanOrder, plan_order}
use Rattle.pdq_plan.specs.PlanSteps.{PlanStep, due_filters, kept_columns, plan_steps, step_for}
use Rattle.pdq_query.specs.declared.query.At.{At}
use Rattle.pdq_plan.proofs.Distinct.{range_once}
use Rattle.pdq_plan.specs.Plans.{PlanView, is_read, steps_of}
use Rattle.pdq_plan.proofs.Ordering.{takes_each_table}
use Rattle.pdq_table.specs.Storing.{IsStored, StoredView, fragment_of}
use Rattle.pdq_prune.specs.Elimination.{cut_at, fragments_left}
use Rattle.pdq_prune.specs.Laws.{LeftFragmentsHoldTheRows, table_at}
use Rattle.pdq_eval.specs.Running.{is_kept, row_passes}
use Rattle.pdq_exec.specs.Runs.{KeepsEnough, fragment_cells, fragments_of, number_at}

-- the later places differ from this one
abbrev Apart : ℕ → List ℕ → Type 0
Apart place later = AllByRecursion (λ y. (place == y) ≡ false) later

-- what reads the table at this place reads no later one
alone : (t place : ℕ) (later : List ℕ) → t ≡ place → Apart place later → list_any (λ p. t == p) later ≡ false
alone t place [] is apart = refl
alone t place (y ∷ ys) is apart = ap₂ (λ a b. a || b) (ap (λ k. k == y) is ∙ apart.0) (alone t place ys is apart.1)

both_alone : (t u place : ℕ) (later : List ℕ) → t ≡ place → u ≡ place → Apart place later → list_any (λ p. (t == p) || (u == p)) later ≡ false
both_alone t u place [] is is' apart = refl
both_alone t u place (y ∷ ys) is is' apart = ap₂ (λ a b. a || b) (ap₂ (λ a b. a || b) (ap (λ k. k == y) is ∙ apart.0) (ap (λ k. k == y) is' ∙ apart.0)) (both_alone t u place ys is is' apart.1)

same_place : (t place : ℕ) → (t == place) ≡ true → t ≡ place
same_place t place is = grind (arith, nat_tests)

either_place : (t u place : ℕ) → t ≡ u → ((t == place) || (u == place)) ≡ true → t ≡ place
either_place t u place same is = grind (arith, nat_tests)

due_is : (shapes : List ShapeView) (tables : List ℕ) (place : ℕ) (later : List ℕ) (f : Filter) → FilterFits shapes tables f → Apart place later → is_due place later (Filtered f) ≡ reads place (Filtered f)
due_is shapes tables place later (Literal a test v) fits apart = go (a.table == place) refl
  where
    go : (b : Bool) → (a.table == place) ≡ b → ((a.table == place) && not (list_any (λ p. a.table == p) later)) ≡ (a.table == place)
    go true e = rw (alone a.table place later (same_place a.table place e) apart, e) refl
    go false e = rw e refl
due_is shapes tables place later (Columns a b) fits apart = go ((a.table == place) || (b.table == place)) refl
  where
    go : (d : Bool) → ((a.table == place) || (b.table == place)) ≡ d → (((a.table == place) || (b.table == place)) && not (list_any (λ p. (a.table == p) || (b.table == p)) later)) ≡ ((a.table == place) || (b.table == place))
    go true e = let is : a.table ≡ place = either_place a.table b.table place fits.0 e in rw (both_alone a.table b.table place later is (sym fits.0 ∙ is) apart, e) refl
    go false e = rw e refl

passes_same : (r : List Cell) (f : Filter) → row_passes r f ≡ passes (λ p. r) f
passes_same r (Literal a test v) = refl
passes_same r (Columns a b) = refl

met_same : (shapes : List ShapeView) (tables : List ℕ) (place : ℕ) (later : List ℕ) (r : List Cell) (fs : List Filter) → All (FilterFits shapes tables) fs → Apart place later →
    list_all (row_passes r) (filter (λ f. is_due place later (Filtered f)) fs) ≡ list_all (passes (λ p. r)) (filter (λ f. reads place (Filtered f)) fs)
met_same shapes tables place later r [] fits apart = refl
met_same shapes tables place later r (f ∷ fs) fits apart = go (reads place (Filtered f)) refl (met_same shapes tables place later r fs (All-tail (FilterFits shapes tables) f fs fits) apart)
  where
    due : is_due place later (Filtered f) ≡ reads place (Filtered f)
    due = due_is shapes tables place later f (All-head (FilterFits shapes tables) f fs fits) apart

    go : (b : Bool) → reads place (Filtered f) ≡ b → list_all (row_passes r) (filter (λ f. is_due place later (Filtered f)) fs) ≡ list_all (passes (λ p. r)) (filter (λ f. reads place (Filtered f)) fs) →
        list_all (row_passes r) (filter (λ f. is_due place later (Filtered f)) (f ∷ fs)) ≡ list_all (passes (λ p. r)) (filter (λ f. reads place (Filtered f)) (f ∷ fs))
    go true e rest = rw (due, e) (ap₂ (λ a b. a && b) (passes_same r f) rest)
    go false e rest = rw (due, e) rest

contains_any : (xs : List ℕ) (f k : ℕ) → k < length xs → get_or xs k f ≡ f → list_any (λ g. g == f) xs ≡ true
contains_any [] f k lt is = absurd (omega (arith, lt))
contains_any (x ∷ xs) f zero lt is = ap (λ b. b || list_any (λ g. g == f) xs) (eq-eqb x f is)
contains_any (x ∷ xs) f (suc k) lt is = ap (λ b. (x == f) || b) (contains_any xs f k (omega (arith, lt)) is) ∙ or_true (x == f)
  where
    or_true : (b : Bool) → (b || true) ≡ true
    or_true true = refl
    or_true false = refl

-- where none is kept nothing is left
none_kept : {W X Y : Type 0} (p : Y → Bool) (g : X → Y) (h : W → X) (xs : List W) → All (λ x. p (g (h x)) ≡ false) xs → filter p (map g (map h xs)) ≡ []
none_kept p g h [] all = refl
none_kept p g h (x ∷ xs) all = rw (All-head (λ x. p (g (h x)) ≡ false) x xs all) (none_kept p g h xs (All-tail (λ x. p (g (h x)) ≡ false) x xs all))

module _ (s : StoredView) (stored : IsStored s) (q : QueryView) (fits : Fits s.schema.shapes q) (law : LeftFragmentsHoldTheRows) where
  Unread : ℕ → ℕ → Type 0
  Unread place f = is_read (Some (fragments_left s.schema q)) place f ≡ false

  row_out : (place : ℕ) (later : List ℕ) (f : ℕ) → place < length q.tables → Apart place later → is_read (Some (fragments_left s.schema q)) place f ≡ false → (x : ℕ × List Value) → Contains (placed_rows (cut_at s.schema q place) f (table_at s q place).rows) x →
      is_kept (due_filters q place later) (cells_of (table_at s q place).shape.columns x.1) ≡ false
  row_out place later f within apart unread x stands = go (is_kept (due_filters q place later) r) refl
    where
      r : List Cell
      r = cells_of (table_at s q place).shape.columns x.1

      rows : List (List Value)
      rows = (table_at s q place).rows

      there : Contains (enumerate_from 0 rows) x
      there = All-contains (Contains (enumerate_from 0 rows)) (filter (stands_in (cut_at s.schema q place) f) (enumerate_from 0 rows)) x (All-filter (stands_in (cut_at s.schema q place) f) (Contains (enumerate_from 0 rows)) (enumerate_from 0 rows) (All-contains_itself (enumerate_from 0 rows))) stands

      go : (b : Bool) → is_kept (due_filters q place later) r ≡ b → b ≡ false
      go false e = refl
      go true e =
          let left = law s stored q fits place within x.0 x.1 there (λ p. r) (record { chosen = refl; met = sym (met_same s.schema.shapes q.tables place later r q.filters fits.filters apart) ∙ e }) f stands in
          absurd (true≢false (sym (contains_any (get_or (fragments_left s.schema q) place []) f left.0 left.1 left.2) ∙ unread))

  abbrev Idle : PlanStep → Type 0
  Idle t = (f : ℕ) → f < length (fragments_of s (number_at q t.place)) → is_read (Some (fragments_left s.schema q)) t.place f ≡ false → filter (is_kept t.filters) (fragment_cells s (number_at q t.place) f) ≡ []

  step_idle : (place : ℕ) (later : List ℕ) (run : List At) → place < length q.tables → Apart place later → Idle (step_for q run place later)
  step_idle place later run within apart f lt unread =
      let placed = placed_rows (cut_at s.schema q place) f (table_at s q place).rows in
      let cells : List Value → List Cell = cells_of (table_at s q place).shape.columns in
      none_kept (is_kept (due_filters q place later)) cells (λ (x : ℕ × List Value). x.1) placed (λ k d l. row_out place later f within apart unread (get_or placed k d) (Contains-get_or placed k d l))

  idle_steps : (order : List ℕ) (run : List At) → IsDistinct (λ x y. x == y) order → All (λ p. p < length q.tables) order → All Idle (plan_steps q run order)
  unfolding IsDistinct
  idle_steps [] run apart within = λ k d lt. absurd (omega (arith, lt))
  idle_steps (place ∷ later) run apart within = All-cons Idle (step_for q run place later) (plan_steps q (run ++ kept_columns q place) later) (step_idle place later run (All-head (λ p. p < length q.tables) place later within) apart.0)
      (idle_steps later (run ++ kept_columns q place) apart.1 (All-tail (λ p. p < length q.tables) place later within))

pub keeps_enough : (s : StoredView) (p : PlanView) → IsStored s → Fits s.schema.shapes p.query → p.left ≡ Some (fragments_left s.schema p.query) → LeftFragmentsHoldTheRows → KeepsEnough s p
keeps_enough s p stored fits left law =
    let q : QueryView = p.query in
    let perm : IsPermutation (places q) (plan_order q p.sizes) = (takes_each_table s.schema.shapes q fits p.sizes).each_place in
    let apart = IsDistinct-IsPermutation (λ x y. x == y) flips (places q) (plan_order q p.sizes) perm (range_once 0 (length q.tables)) in
    let within : All (λ k. k < length q.tables) (plan_order q p.sizes) = All-permutation (λ k. k < length q.tables) (places q) (plan_order q p.sizes) perm (below (length q.tables)) in
    let P : Option (List (List ℕ)) → Type 0 = λ o. All (λ (t : PlanStep). (f : ℕ) → f < length (fragments_of s (number_at q t.place)) → is_read o t.place f ≡ false → filter (is_kept t.filters) (fragment_cells s (number_at q t.place) f) ≡ []) (steps_of p) in
    record { idle = subst P (sym left) (idle_steps s stored q fits law (plan_order q p.sizes) [] apart within) }
  where
    flips : (x y : ℕ) → (x == y) ≡ (y == x)
    flips x y = grind (arith, nat_tests)

    below : (n : ℕ) → All (λ k. k < n) (range_with_len 0 n)
    below n = All-from_get_or (λ f. f < n) (range_with_len 0 n) 0 (λ i l. let same : get_or (range_with_len 0 n) i 0 ≡ 0 + i = get_or-range_with_len 0 n i 0 (omega (arith, length-range_with_len 0 n)) in omega (arith, length-range_with_len 0 n))

-- what holds of the images holds of each
pub each_image : {X Y : Type 0} (P : Y → Type 0) (f : X → Y) (xs : List X) → All P (map f xs) → All (λ x. P (f x)) xs
each_image P f [] all = λ k d lt. absurd (omega (arith, lt))
each_image P f (x ∷ xs) all = All-cons (λ x. P (f x)) x xs (All-head P (f x) (map f xs) all) (each_image P f xs (All-tail P (f x) (map f xs) all))
