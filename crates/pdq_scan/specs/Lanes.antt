-- The lanes of a step of a plan: which fragments of its table each one reads, and what it gives of them.
use Rattle.std.specs.Prelude.{◌≡◌, ℕ, ◌%◌, ◌<◌, List, [], All, Contains, Option, None, Some, false, filter, flat_map, length, map, slice_index_or, sum_by, ℤ}
use Rattle.std.specs.List.Sorted.{IsPermutation}
use Rattle.pdq_value.specs.declared.cells.Cell.{Cell}
use Rattle.pdq_value.specs.Tables.{cells_of, no_table}
use Rattle.pdq_query.specs.Queries.{QueryView}
use Rattle.pdq_query.specs.Fits.{Fits}
use Rattle.pdq_query.specs.Answer.{rows_at}
use Rattle.pdq_dict.specs.Coding.{coded_row}
use Rattle.pdq_dict.specs.Dictionary.{dictionary_of}
use Rattle.pdq_plan.specs.PlanSteps.{PlanStep}
use Rattle.pdq_plan.specs.Plans.{PlanView, is_read, steps_of}
use Rattle.pdq_table.specs.Laws.{fragment_numbers}
use Rattle.pdq_table.specs.Storing.{IsStored, StoredView, fragment_of}
use Rattle.pdq_exchange.specs.Roles.{Coming}
use Rattle.pdq_exchange.specs.declared.lane.Lane.{Lane}
use Rattle.pdq_eval.specs.declared.picks.Pick.{Pick}
use Rattle.pdq_eval.specs.Owners.{gathered, part}
use Rattle.pdq_eval.specs.Picks.{picked}
use Rattle.pdq_eval.specs.Running.{is_kept, scanned_words}
use Rattle.pdq_eval.specs.Scanning.{scanned_rows}

-- the number of a query's table at a place in FROM
abbrev pub number_at : QueryView → ℕ → ℕ
number_at q place = slice_index_or q.tables place 0

-- the cells of the rows of a fragment
abbrev pub fragment_cells : StoredView → ℕ → ℕ → List (List Cell)
fragment_cells s table f = map (cells_of (slice_index_or s.tables table no_table).shape.columns) (fragment_of s table f)

-- the words of the rows of a fragment
unfoldable pub coded_rows : StoredView → ℕ → ℕ → List (List ℤ)
coded_rows s table f = map (coded_row (dictionary_of s.tables)) (fragment_of s table f)

-- the fragments that one lane reads of the table of a step: those that the plan keeps, of which each so many is its own
abbrev pub lane_fragments : StoredView → PlanView → PlanStep → ℕ → ℕ → List ℕ
lane_fragments s p t lanes i = filter (is_read p.left t.place) (part (λ f. f % lanes) i (fragment_numbers s (number_at p.query t.place)))

-- each row that meets the filters on its table stands in a fragment that the plan keeps
pub record KeepsEnough (s : StoredView) (p : PlanView) : Type 0 where
  pub idle : All (λ (t : PlanStep). (f : ℕ) → f < length (fragment_numbers s (number_at p.query t.place)) → is_read p.left t.place f ≡ false → filter (is_kept t.filters) (fragment_cells s (number_at p.query t.place) f) ≡ []) (steps_of p)

-- how many rows of a lane's fragments meet the filters
abbrev pub lane_count : StoredView → PlanView → PlanStep → ℕ → ℕ → ℕ
lane_count s p t lanes i = sum_by (λ f. length (filter (is_kept t.filters) (fragment_cells s (number_at p.query t.place) f))) (lane_fragments s p t lanes i)

-- what a lane gives: of the rows of its fragments that meet the filters the words that the step keeps
abbrev pub lane_words : StoredView → PlanView → PlanStep → ℕ → ℕ → List (List ℤ)
lane_words s p t lanes i = scanned_rows (dictionary_of s.tables) t.filters t.kept (flat_map (coded_rows s (number_at p.query t.place)) (lane_fragments s p t lanes i))

-- the lanes of a step scan together what the step scans, and each as many rows as meet the filters in its fragments
pub record ScanTheStep (s : StoredView) (p : PlanView) (t : PlanStep) (lanes : ℕ) : Type 0 where
  pub whole : IsPermutation (scanned_words (dictionary_of s.tables) (rows_at s.tables p.query) t) (gathered lanes (lane_words s p t lanes))
  pub counts : (i : ℕ) → length (lane_words s p t lanes i) ≡ lane_count s p t lanes i

abbrev pub LanesScanTheStep : Type 0
LanesScanTheStep = (s : StoredView) (p : PlanView) → IsStored s → Fits s.schema.shapes p.query → KeepsEnough s p → (t : PlanStep) → Contains (steps_of p) t → (lanes : ℕ) → 0 < lanes → ScanTheStep s p t lanes

-- rows to come, all of them told
abbrev pub all_told : List (List ℤ) → Coming
all_told rows = record { count = length rows; rows = Some rows }

-- a row as it is, or what is picked of it
abbrev pub given_row : Option (List Pick) → List ℤ → List ℤ
given_row None row = row
given_row (Some picks) row = picked picks row

-- rows as they are, or what is picked of each
abbrev pub given : Option (List Pick) → List (List ℤ) → List (List ℤ)
given None rows = rows
given (Some picks) rows = map (picked picks) rows

-- their width
abbrev pub given_width : Option (List Pick) → ℕ → ℕ
given_width None width = width
given_width (Some picks) width = length picks

-- a lane that gave no row yet, of this width: it has these rows to give
pub record IsFresh {S : Type 0} (left : S → Coming) (width : S → ℕ) (w : ℕ) (coming : Coming) (lane : Lane S) : Type 0 where
  pub lefts : left lane.scanner ≡ coming
  pub none : lane.scanned ≡ 0
  pub wide : width lane.scanner ≡ w
  pub batch_wide : lane.load.batch.width ≡ w

-- so many of them: each has its rows to give
pub record AreFresh {S : Type 0} (left : S → Coming) (width : S → ℕ) (w n : ℕ) (comings : ℕ → Coming) (lanes : List (Lane S)) : Type 0 where
  pub count : length lanes ≡ n
  pub each : (i : ℕ) (d : Lane S) → i < n → IsFresh left width w (comings i) (slice_index_or lanes i d)
