-- What lanes over a table give, and how many rows they count.
use Rattle.std.proofs.Common.{◌≡◌, ℕ, zero, suc, ◌+◌, ◌-◌, ◌^◌, ◌<◌, ◌≤◌, min, List, [], ◌∷◌, ◌++◌, length, get_or, map, refl, sym, ap, ap₂, ◌∙◌, subst, arith, All, Bool, cond, false, true, IsPermutation}
use Rattle.std.specs.Prelude.{None, Some, filter, flat_map}
use Rattle.std.specs.List.{Contains, range_with_len}
use Rattle.std.proofs.lemmas.List.{append-nil, length-append, length-map}
use Rattle.std.proofs.lemmas.List.Elements.{All-head, All-tail}
use Rattle.std.proofs.lemmas.List.Sorted.{IsPermutation-refl, length_permutation}
use Rattle.pdq_value.specs.PlainTable.{most_rows}
use Rattle.pdq_value.specs.Tables.{TableView, cells_of, no_table}
use Rattle.pdq_dict.specs.Dictionary.{dictionary_of}
use Rattle.pdq_query.specs.Answer.{answer, rows_at}
use Rattle.pdq_query.specs.Fits.{Fits}
use Rattle.pdq_plan.specs.PlanSteps.{PlanStep}
use Rattle.pdq_plan.specs.Plans.{PlanView, order_of, steps_of}
use Rattle.pdq_plan.proofs.Ordering.{takes_each_table}
use Rattle.pdq_table.specs.Storing.{IsStored, StoredView}
use Rattle.pdq_exchange.specs.Batches.{Row}
use Rattle.pdq_exchange.specs.Roles.{Coming}
use Rattle.pdq_exchange.specs.Waves.{at_each}
use Rattle.pdq_exchange.specs.declared.lane.Lane.{Lane}
use Rattle.pdq_owner.specs.Phases.{CountsGiven, LaneFailed}
use Rattle.pdq_spill.specs.declared.faults.ExecFault.{ExecFault}
use Rattle.pdq_eval.specs.Laws.{IsOrderOf}
use Rattle.pdq_eval.specs.Owners.{gathered, owners}
use Rattle.pdq_eval.specs.Running.{all_running, is_kept, no_words, row_words, run_words, scanned_words}
use Rattle.pdq_eval.proofs.Stages.{the_first_table_is_scanned}
use Rattle.pdq_eval.proofs.Whole.{too_many_running_rows}
use Rattle.pdq_scan.specs.Lanes.{AreFresh, ScanTheStep, all_told, lane_count, lane_words}
use Rattle.pdq_gather.specs.Rows.{Comes}
use Rattle.pdq_exec.specs.Runs.{scanned_counts}

-- the plan's order is one of the places of its query
pub order-is : (s : StoredView) (p : PlanView) → IsStored s → Fits s.schema.shapes p.query → IsOrderOf s.tables p.query (order_of p)
order-is s p st fits = record {
  database = st.tables.database;
  fits = subst (λ shapes. Fits shapes p.query) (sym st.tables.same) fits;
  each_place = (takes_each_table s.schema.shapes p.query fits p.sizes).each_place;
}

pub map-index : {X : Type 0} (f : X → ℕ) (h : ℕ → ℕ) (a : ℕ) (xs : List X) → ((i : ℕ) (d : X) → i < length xs → f (get_or xs i d) ≡ h (a + i)) → map f xs ≡ map h (range_with_len a (length xs))
map-index f h a [] k = refl
map-index f h a (x ∷ xs) k =
    let e : a + 0 ≡ a = omega arith in
    ap₂ (λ (n : ℕ) (l : List ℕ). n ∷ l) (k 0 x (omega arith) ∙ ap h e) (map-index f h (a + 1) xs (λ i d l. let g : a + suc i ≡ (a + 1) + i = omega arith in k (suc i) d (omega arith) ∙ ap h g))

module _ (rows : ℕ → List Row) where
  one-of : (a n i : ℕ) → i < n → length (rows (a + i)) ≤ length (flat_map rows (range_with_len a n))
  one-of a zero i l = absurd (omega arith)
  one-of a (suc n) zero l = let e : a + 0 ≡ a = omega arith in omega (arith, length-append (rows a) (flat_map rows (range_with_len (a + 1) n)), ap (λ (k : ℕ). length (rows k)) e)
  one-of a (suc n) (suc i) l = let e : a + suc i ≡ (a + 1) + i = omega arith in omega (arith, length-append (rows a) (flat_map rows (range_with_len (a + 1) n)), ap (λ (k : ℕ). length (rows k)) e, one-of (a + 1) n i (omega arith))

  pub one-lane : (n i : ℕ) → i < n → length (rows i) ≤ length (gathered n rows)
  one-lane n i l = let e : 0 + i ≡ i = omega arith in omega (arith, one-of 0 n i l, ap (λ (k : ℕ). length (rows k)) e)

filter-le : {X : Type 0} (p : X → Bool) (xs : List X) → length (filter p xs) ≤ length xs
filter-le p [] = omega arith
filter-le {X} p (x ∷ xs) = by (p x) (filter-le p xs)
  where
    by : (b : Bool) → length (filter p xs) ≤ length xs → length (cond b (x ∷ filter p xs) (filter p xs)) ≤ suc (length xs)
    by true h = omega (arith, h)
    by false h = omega (arith, h)

all-or : {X : Type 0} (P : X → Type 0) (xs : List X) (i : ℕ) (d : X) → All P xs → P d → P (get_or xs i d)
all-or P [] i d h k = k
all-or P (x ∷ xs) zero d h k = All-head P x xs h
all-or P (x ∷ xs) (suc i) d h k = all-or P xs i d (All-tail P x xs h) k

-- what is scanned of a table is not more than its rows
pub few-scanned : (s : StoredView) (p : PlanView) → IsStored s → (t : PlanStep) → length (scanned_words (dictionary_of s.tables) (rows_at s.tables p.query) t) ≤ most_rows
few-scanned s p st t =
    let table = get_or s.tables (get_or p.query.tables t.place 0) no_table in
    let few : length table.rows ≤ most_rows = all-or (λ (x : TableView). length x.rows ≤ most_rows) s.tables (get_or p.query.tables t.place 0) no_table st.tables.rows (omega arith) in
    let a = length-map (filter (is_kept t.filters) (rows_at s.tables p.query t.place)) (row_words (dictionary_of s.tables) t.kept) in
    let b = filter-le (is_kept t.filters) (rows_at s.tables p.query t.place) in
    let c = length-map table.rows (cells_of table.shape.columns) in
    omega (arith, a, b, c, few)

module _ {Sc : Type 0} (left : Sc → Coming) (width : Sc → ℕ) (w n : ℕ) (rows : ℕ → List Row) (lanes : List (Lane Sc)) (fresh : AreFresh left width w n (λ i. all_told (rows i)) lanes) where
  pub fresh-comes : (all : List Row) → IsPermutation all (gathered n rows) → Comes left lanes all
  fresh-comes all h = record {
    rows_of = rows;
    told = λ i d l. ap (λ (c : Coming). c.rows) (fresh.each i d (omega (arith, l, fresh.count))).lefts;
    are = subst (λ (m : ℕ). IsPermutation all (gathered m rows)) (sym fresh.count) h;
  }

  -- once all was given, each lane has counted its rows
  pub fresh-counts : (now : List (Lane Sc)) → length now ≡ length lanes → at_each lanes now (λ i old new. CountsGiven left old new) → All (λ lane. (left lane.scanner).count ≡ 0) now → ((i : ℕ) → i < n → length (rows i) < 2 ^ 64 - 1) → (h : ℕ → ℕ) → ((i : ℕ) → h i ≡ length (rows i)) →
      map (λ (lane : Lane Sc). lane.scanned) now ≡ map h (owners n)
  fresh-counts now m counts ended few h is =
      map-index (λ (lane : Lane Sc). lane.scanned) h 0 now one ∙ ap (λ (k : ℕ). map h (range_with_len 0 k)) (m ∙ fresh.count)
    where
      one : (i : ℕ) (d : Lane Sc) → i < length now → (get_or now i d).scanned ≡ h (0 + i)
      one i d l =
          let within : i < length lanes = omega (arith, l, m) in
          let below : i < n = omega (arith, within, fresh.count) in
          let c = counts i d within in
          let f = fresh.each i d below in
          let zero_left : (left (get_or now i d).scanner).count ≡ 0 = ended i d l in
          let all : (left (get_or lanes i d).scanner).count ≡ length (rows i) = ap (λ (k : Coming). k.count) f.lefts in
          let begun : (get_or lanes i d).scanned < 2 ^ 64 = omega (arith, f.none) in
          let e : 0 + i ≡ i = omega arith in
          let counts_are : (get_or now i d).scanned ≡ min ((get_or lanes i d).scanned + c.more) (2 ^ 64 - 1) = c.counts begun in
          let small : length (rows i) < 2 ^ 64 - 1 = few i below in
          let sum : (get_or lanes i d).scanned + c.more ≡ length (rows i) = omega (arith, f.none, c.gave, zero_left, all) in
          omega (arith, counts_are, sum, small, is i, ap h e)

-- a plan of one table
module _ (s : StoredView) (p : PlanView) (st : IsStored s) (fits : Fits s.schema.shapes p.query) (t : PlanStep) (only : steps_of p ≡ t ∷ []) (unjoined : t.pairs ≡ []) where
  abbrev pub Scanned : List Row
  Scanned = scanned_words (dictionary_of s.tables) (rows_at s.tables p.query) t

  pub one-running : all_running s.tables p.query (order_of p) ≡ Scanned
  one-running = ap (λ (ss : List PlanStep). run_words (dictionary_of s.tables) (rows_at s.tables p.query) ss no_words) only ∙ the_first_table_is_scanned (dictionary_of s.tables) (rows_at s.tables p.query) t unjoined

  pub too-many : 20000000 < length Scanned → answer s.tables p.query ≡ None
  too-many h = too_many_running_rows s.tables p.query (order_of p) (order-is s p st fits) Scanned (record { more = []; are = part }) h
    where
      part : IsPermutation (all_running s.tables p.query (order_of p)) (Scanned ++ [])
      part = subst (λ (l : List Row). IsPermutation (all_running s.tables p.query (order_of p)) l) (one-running ∙ sym (append-nil Scanned)) (IsPermutation-refl (all_running s.tables p.query (order_of p)))

  pub one-counts : (n : ℕ) → map (lane_count s p t n) (owners n) ≡ scanned_counts s p n
  one-counts n = sym (append-nil (map (lane_count s p t n) (owners n))) ∙ ap (λ (ss : List PlanStep). flat_map (λ (u : PlanStep). map (lane_count s p u n) (owners n)) ss) (sym only)

  pub few-of-lane : (n i : ℕ) → ScanTheStep s p t n → i < n → length (lane_words s p t n i) < 2 ^ 64 - 1
  few-of-lane n i scan l = omega (arith, one-lane (lane_words s p t n) n i l, length_permutation Scanned (gathered n (lane_words s p t n)) scan.whole, few-scanned s p st t)

-- a scanner that never fails
pub never-failed : {S W : Type 0} (lanes : List (Lane S)) (cause : ExecFault) → LaneFailed (λ s. None) lanes cause → W
never-failed [] cause h = absurd (omega (arith, h.1))
never-failed {S} {W} (x ∷ xs) cause h = absurd (never cause (h.2 x))
  where
    never : (c : ExecFault) → None ≡ Some c → ⊥
    never c e = cc e

pub the-one : (t : PlanStep) (ts : List PlanStep) → ts ≡ t ∷ [] → Contains ts t
the-one t ts e = subst (λ (l : List PlanStep). Contains l t) (sym e) (zero, omega arith, refl)

pub behind-none : {A B : Type 0} (f : A → ℕ) (h : B → ℕ) (news olds : List A) (ls : List B) → map f news ≡ map f olds ++ map h ls → olds ≡ [] → map f news ≡ map h ls
behind-none {A} f h news olds ls e none = e ∙ ap (λ (l : List A). map f l ++ map h ls) none

pub comes-same : {Sc : Type 0} (left : Sc → Coming) (xs ys : List (Lane Sc)) (rows : List Row) → ys ≡ xs → Comes left xs rows → Comes left ys rows
comes-same {Sc} left xs ys rows e h = subst (λ (l : List (Lane Sc)). Comes left l rows) (sym e) h
