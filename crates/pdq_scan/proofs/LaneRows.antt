-- The lanes of a step scan together what the step scans.
use Rattle.std.proofs.Common.{All, ◌≡◌, ℕ, ◌+◌, ◌%◌, ◌<◌, ◌≤◌, ◌==◌, ◌⊎◌, inl, inr, List, [], ◌∷◌, ◌++◌, false, refl, sym, ap, ◌∙◌, subst, arith, length, get_or, map, filter, flat_map, ℤ, IsPermutation}
use Rattle.std.specs.Prelude.{Contains, sum_by}
use Rattle.std.specs.List.{enumerate_from, range_with_len}
use Rattle.std.proofs.lemmas.List.{get_or_past, length-map, map-append}
use Rattle.std.proofs.lemmas.List.Concat.{length-flat_map}
use Rattle.std.proofs.lemmas.List.Elements.{All-contains, All-cons, All-filter, All-from_get_or, All-get_or, All-head, All-map, All-nil, All-tail, All-weaker, filter-append}
use Rattle.std.proofs.lemmas.List.FromFn.{get_or-range_with_len, length-range_with_len}
use Rattle.std.proofs.lemmas.List.Sorted.{IsPermutation-map}
use Rattle.pdq_value.specs.declared.cells.Cell.{Cell}
use Rattle.pdq_value.specs.declared.shapes.Value.{Value}
use Rattle.pdq_value.specs.Tables.{IsRowOf, IsTable, ShapeView, TableView, cells_of, no_table}
use Rattle.pdq_query.specs.declared.query.At.{At}
use Rattle.pdq_query.specs.Queries.{QueryView}
use Rattle.pdq_query.specs.Fits.{Fits}
use Rattle.pdq_query.specs.Answer.{rows_at}
use Rattle.pdq_dict.specs.Coding.{HasCode, coded_row, word_of}
use Rattle.pdq_dict.specs.Dictionary.{dictionary_of}
use Rattle.pdq_dict.proofs.CodedCells.{values_of_tables_have_codes}
use Rattle.pdq_dict.proofs.Dictionaries.{dictionaries_rise}
use Rattle.pdq_dict.proofs.Rising.{Rises}
use Rattle.pdq_schema.specs.Fragments.{fragment_count, fragment_rows, stands_in}
use Rattle.pdq_schema.specs.Schemas.{CutView, rounds}
use Rattle.pdq_plan.specs.PlanSteps.{PlanStep, columns_used, kept_columns, plan_steps, step_for}
use Rattle.pdq_plan.proofs.Keeping.{few_kept}
use Rattle.pdq_plan.proofs.Stepping.{few_used}
use Rattle.pdq_plan.specs.Plans.{PlanView, is_read, order_of, steps_of}
use Rattle.pdq_table.specs.Laws.{fragment_numbers}
use Rattle.pdq_table.specs.Storing.{IsStored, StoredView, fragment_of}
use Rattle.pdq_table.proofs.Whole.{fragments_hold_the_rows}
use Rattle.pdq_eval.specs.Laws.{shapes_of}
use Rattle.pdq_eval.specs.Owners.{gathered, part}
use Rattle.pdq_eval.specs.Running.{is_kept, row_words, scanned_words}
use Rattle.pdq_eval.specs.Scanning.{kept_words, scanned_rows, word_kept}
use Rattle.pdq_eval.proofs.Lanes.{lanes_scan_together, left_fragments_are_enough}
use Rattle.pdq_eval.proofs.Running.{IsCodedRow}
use Rattle.pdq_eval.proofs.Scans.{IsFilterOf, due_filters-own, scanned_rows-words}
use Rattle.pdq_eval.proofs.Stores.{HaveCodes, coded_rows-words, coded_tables}
use Rattle.pdq_eval.proofs.Whole.{scans_are_of_the_step}
use Rattle.pdq_scan.specs.Lanes.{KeepsEnough, LanesScanTheStep, coded_rows, fragment_cells, lane_count, lane_fragments, lane_words, number_at}

-- what holds of each row of a table holds of those of a fragment
placed-all : {X : Type 0} (P : X → Type 0) (k : ℕ) (rows : List X) → All P rows → All (λ (e : ℕ × X). P e.1) (enumerate_from k rows)
placed-all P k [] h = All-nil (λ e. P e.1)
placed-all P k (row ∷ rows) h = All-cons (λ e. P e.1) (k, row) (enumerate_from (k + 1) rows) (All-head P row rows h) (placed-all P (k + 1) rows (All-tail P row rows h))

fragment-all : (P : List Value → Type 0) (cut : CutView) (f : ℕ) (rows : List (List Value)) → All P rows → All P (fragment_rows cut f rows)
fragment-all P cut f rows h = All-map P (λ (e : ℕ × List Value). e.1) (filter (stands_in cut f) (enumerate_from 0 rows)) (All-filter (stands_in cut f) (λ (e : ℕ × List Value). P e.1) (enumerate_from 0 rows) (placed-all P 0 rows h))

-- what holds of all images
images-all : {X Y : Type 0} (P : Y → Type 0) (f : X → Y) (xs : List X) → All P (map f xs) → All (λ x. P (f x)) xs
images-all P f [] h = All-nil (λ x. P (f x))
images-all P f (x ∷ xs) h = All-cons (λ x. P (f x)) x xs (All-head P (f x) (map f xs) h) (images-all P f xs (All-tail P (f x) (map f xs) h))

map-flat_map : {X Y Z : Type 0} (f : Y → Z) (g : X → List Y) (xs : List X) → map f (flat_map g xs) ≡ flat_map (λ x. map f (g x)) xs
map-flat_map f g [] = refl
map-flat_map f g (x ∷ xs) = map-append f (g x) (flat_map g xs) ∙ ap (λ l. map f (g x) ++ l) (map-flat_map f g xs)

-- nothing was there to map
none-mapped : {X Y : Type 0} (f : X → Y) (xs : List X) → map f xs ≡ [] → xs ≡ []
none-mapped f [] e = refl
none-mapped f (x ∷ xs) e = cc e

numbers_below : (n : ℕ) → All (λ f. f < length (range_with_len 0 n)) (range_with_len 0 n)
numbers_below n = All-from_get_or (λ f. f < length (range_with_len 0 n)) (range_with_len 0 n) 0 (λ i l. let same : get_or (range_with_len 0 n) i 0 ≡ 0 + i = get_or-range_with_len 0 n i 0 (omega (arith, length-range_with_len 0 n)) in omega arith)

-- a number of a table, or the first
pub number-within : (numbers : List ℕ) (n place : ℕ) → 1 ≤ length numbers → All (λ t. t < n) numbers → get_or numbers place 0 < n
number-within numbers n place some h = by (place_there (length numbers))
  where
    place_there : (m : ℕ) → (place < m) ⊎ (m ≤ place)
    place_there m = search arith

    by : (place < length numbers) ⊎ (length numbers ≤ place) → get_or numbers place 0 < n
    by (inl l) = All-get_or (λ t. t < n) numbers place 0 l h
    by (inr l) = let first : get_or numbers 0 0 < n = All-get_or (λ t. t < n) numbers 0 0 some h in subst (λ t. t < n) (sym (get_or_past numbers place 0 l)) (omega arith)

-- a step of a plan is that of some place
pub record IsStepOf (q : QueryView) (t : PlanStep) : Type 0 where
  pub run : List At
  pub later : List ℕ
  pub is : step_for q run t.place later ≡ t

steps-of : (q : QueryView) (run : List At) (order : List ℕ) → All (IsStepOf q) (plan_steps q run order)
steps-of q run [] = All-nil (IsStepOf q)
steps-of q run (place ∷ later) =
    let more = run ++ kept_columns q place in
    All-cons (IsStepOf q) (step_for q run place later) (plan_steps q more later) (record { run = run; later = later; is = refl }) (steps-of q (run ++ kept_columns q place) later)

module _ (s : StoredView) (stored : IsStored s) (p : PlanView) (fits : Fits s.schema.shapes p.query) (t : PlanStep) (step : IsStepOf p.query t) where
  abbrev texts : List (List ℕ)
  texts = dictionary_of s.tables

  abbrev rises : Rises texts
  rises = dictionaries_rise s.tables

  abbrev codes : HaveCodes texts s.tables
  codes = values_of_tables_have_codes s.tables

  abbrev table : ℕ
  table = number_at p.query t.place

  abbrev Table : TableView
  Table = get_or s.tables table no_table

  abbrev cut : CutView
  cut = get_or s.schema.cuts table (rounds 1)

  -- the rows of a fragment, as a table
  abbrev Piece : ℕ → TableView
  Piece f = record { shape = Table.shape; rows = fragment_of s table f }

  here : Fits (shapes_of s.tables) p.query
  here = subst (λ (shapes : List ShapeView). Fits shapes p.query) (sym stored.tables.same) fits

  pub table-within : table < length s.schema.shapes
  table-within = number-within p.query.tables (length s.schema.shapes) t.place fits.some_table fits.tables

  table-there : table < length s.tables
  table-there =
      let within = number-within p.query.tables (length (shapes_of s.tables)) t.place here.some_table here.tables in
      omega (arith, within, length-map s.tables (λ (x : TableView). x.shape))

  table-is : IsTable Table
  table-is = All-get_or IsTable s.tables table no_table table-there stored.tables.database

  -- the words of a fragment are those of its cells
  fragment_words : (f : ℕ) → coded_rows s table f ≡ map (map (word_of texts)) (fragment_cells s table f)
  unfolding coded_rows
  fragment_words f =
      let there = All-get_or (λ (x : TableView). All (All (HasCode texts)) x.rows) s.tables table no_table table-there codes in
      let is : IsTable (Piece f) = record { kinds = table-is.kinds; rows = fragment-all (IsRowOf Table.shape.columns) cut f Table.rows table-is.rows } in
      let coded : All (All (HasCode texts)) (Piece f).rows = fragment-all (All (HasCode texts)) cut f Table.rows there in
      coded_rows-words texts (Piece f ∷ []) (All-cons IsTable (Piece f) [] is (All-nil IsTable)) (All-cons (λ (x : TableView). All (All (HasCode texts)) x.rows) (Piece f) [] coded (All-nil (λ (x : TableView). All (All (HasCode texts)) x.rows))) 0

  abbrev IsCodedHere : List Cell → Type 0
  IsCodedHere = IsCodedRow texts rises (shapes_of s.tables) p.query t.place

  fragment_coded : (f : ℕ) → All IsCodedHere (fragment_cells s table f)
  fragment_coded f =
      let all = coded_tables texts rises s.tables stored.tables.database codes p.query t.place in
      All-map IsCodedHere (cells_of Table.shape.columns) (fragment_of s table f)
      (fragment-all (λ r. IsCodedHere (cells_of Table.shape.columns r)) cut f Table.rows (images-all IsCodedHere (cells_of Table.shape.columns) Table.rows all))

  own_filters : All (IsFilterOf texts rises (shapes_of s.tables) p.query t.place) t.filters
  own_filters = subst (λ (x : PlanStep). All (IsFilterOf texts rises (shapes_of s.tables) p.query t.place) x.filters) step.is
      (due_filters-own texts rises (shapes_of s.tables) p.query t.place step.later p.query.filters here.filters)

  -- what is scanned of a fragment
  scanned_fragment : (f : ℕ) → scanned_rows texts t.filters t.kept (coded_rows s table f) ≡ map (row_words texts t.kept) (filter (is_kept t.filters) (fragment_cells s table f))
  scanned_fragment f =
      ap (scanned_rows texts t.filters t.kept) (fragment_words f)
      ∙ scanned_rows-words texts rises (shapes_of s.tables) p.query t.place t.filters t.kept (fragment_cells s table f) (fragment_coded f) own_filters

  scanned-append : (us vs : List (List ℤ)) → scanned_rows texts t.filters t.kept (us ++ vs) ≡ scanned_rows texts t.filters t.kept us ++ scanned_rows texts t.filters t.kept vs
  scanned-append us vs = ap (map (kept_words texts t.kept)) (filter-append (word_kept texts t.filters) us vs) ∙ map-append (kept_words texts t.kept) (filter (word_kept texts t.filters) us) (filter (word_kept texts t.filters) vs)

  scanned-fragments : (fs : List ℕ) → scanned_rows texts t.filters t.kept (flat_map (coded_rows s table) fs) ≡ flat_map (λ f. scanned_rows texts t.filters t.kept (coded_rows s table f)) fs
  scanned-fragments [] = refl
  scanned-fragments (f ∷ fs) = scanned-append (coded_rows s table f) (flat_map (coded_rows s table) fs) ∙ ap (λ l. scanned_rows texts t.filters t.kept (coded_rows s table f) ++ l) (scanned-fragments fs)

  -- a lane has as many rows as meet the filters in its fragments
  lane-counts : (lanes i : ℕ) → length (lane_words s p t lanes i) ≡ lane_count s p t lanes i
  lane-counts lanes i =
      let fs = lane_fragments s p t lanes i in
      ap (λ (l : List (List ℤ)). length l) (scanned-fragments fs)
      ∙ length-flat_map (λ f. scanned_rows texts t.filters t.kept (coded_rows s table f)) fs
      ∙ ap (λ (count : ℕ → ℕ). sum_by count fs) (λ j f. (ap (λ (l : List (List ℤ)). length l) (scanned_fragment f) ∙ length-map (filter (is_kept t.filters) (fragment_cells s table f)) (row_words texts t.kept)) j)

  -- the words of all fragments are those of the table
  table_words : IsPermutation (flat_map (coded_rows s table) (fragment_numbers s table)) (map (coded_row texts) Table.rows)
  unfolding coded_rows
  table_words = subst (λ (l : List (List ℤ)). IsPermutation l (map (coded_row texts) Table.rows)) (map-flat_map (coded_row texts) (fragment_of s table) (fragment_numbers s table))
      (IsPermutation-map (coded_row texts) _ _ (fragments_hold_the_rows s stored table table-within))

  -- what is scanned of them is what the step scans
  table_scanned : scanned_rows texts t.filters t.kept (map (coded_row texts) Table.rows) ≡ scanned_words texts (rows_at s.tables p.query) t
  table_scanned = subst (λ (x : PlanStep). scanned_rows texts x.filters x.kept (map (coded_row texts) Table.rows) ≡ scanned_words texts (rows_at s.tables p.query) x) step.is
      (scans_are_of_the_step s.tables p.query stored.tables.database here step.run t.place step.later)

  module _ (keeps : KeepsEnough s p) (there : Contains (steps_of p) t) (lanes : ℕ) (some : 0 < lanes) where
    abbrev Idle : ℕ → Type 0
    Idle f = is_read p.left t.place f ≡ false → filter (word_kept texts t.filters) (coded_rows s table f) ≡ []

    idle : (f : ℕ) → f < length (fragment_numbers s table) → Idle f
    idle f l e = none-mapped (kept_words texts t.kept) (filter (word_kept texts t.filters) (coded_rows s table f))
        (scanned_fragment f ∙ ap (map (row_words texts t.kept)) (All-contains (λ (x : PlanStep). (g : ℕ) → g < length (fragment_numbers s (number_at p.query x.place)) → is_read p.left x.place g ≡ false → filter (is_kept x.filters) (fragment_cells s (number_at p.query x.place) g) ≡ []) (steps_of p) t keeps.idle there f l e))

    abbrev Numbers : ℕ → List ℕ
    Numbers i = part (λ f. f % lanes) i (fragment_numbers s table)

    all_idle : (i : ℕ) → All Idle (Numbers i)
    all_idle i = All-filter (λ f. (f % lanes) == i) Idle (fragment_numbers s table)
        (All-weaker (λ f. f < length (fragment_numbers s table)) Idle idle (fragment_numbers s table) (numbers_below (fragment_count cut)))

    lane-whole : (i : ℕ) → scanned_rows texts t.filters t.kept (flat_map (coded_rows s table) (Numbers i)) ≡ lane_words s p t lanes i
    lane-whole i = sym (left_fragments_are_enough texts t.filters t.kept (coded_rows s table) (Numbers i) (is_read p.left t.place) (all_idle i))

    lanes-whole : IsPermutation (scanned_words texts (rows_at s.tables p.query) t) (gathered lanes (lane_words s p t lanes))
    lanes-whole =
        subst (λ (l : List (List ℤ)). IsPermutation l (gathered lanes (lane_words s p t lanes))) table_scanned
        (subst (λ (g : ℕ → List (List ℤ)). IsPermutation (scanned_rows texts t.filters t.kept (map (coded_row texts) Table.rows)) (gathered lanes g)) (λ i j. lane-whole j i)
        (lanes_scan_together texts t.filters t.kept (coded_rows s table) (fragment_numbers s table) (map (coded_row texts) Table.rows) lanes some table_words))

-- the step of a plan
pub step-there : (p : PlanView) (t : PlanStep) → Contains (steps_of p) t → IsStepOf p.query t
step-there p t there = All-contains (IsStepOf p.query) (steps_of p) t (steps-of p.query [] (order_of p)) there

-- a step keeps at most 64 columns
pub kept-few : (shapes : List ShapeView) (p : PlanView) → Fits shapes p.query → (t : PlanStep) → Contains (steps_of p) t → length t.kept ≤ 64
kept-few shapes p fits t there =
    let step = step-there p t there in
    let few = few_kept t.place (columns_used p.query) in
    let used = few_used shapes p.query fits in
    subst (λ (x : PlanStep). length x.kept ≤ 64) step.is (omega (arith, few, used))

pub lanes_scan_the_step : LanesScanTheStep
lanes_scan_the_step s p stored fits keeps t there lanes some =
    let step = step-there p t there in
    record { whole = lanes-whole s stored p fits t step keeps there lanes some; counts = lane-counts s stored p fits t step lanes }
