-- What a run answers, and what becomes of its stores.
use Rattle.std.specs.Prelude.{◌≡◌, ℕ, ◌+◌, ◌-◌, ◌*◌, ◌%◌, ◌<◌, ◌≤◌, List, [], All, IsSome, Option, filter, flat_map, length, map, sum_by, take, drop, slice_index_or, if◌then◌else◌, true, false}
use Rattle.std.specs.List.{range_with_len}
use Rattle.pdq_edge.specs.Causes.{Rose}
use Rattle.pdq_value.specs.declared.cells.Cell.{Cell}
use Rattle.pdq_value.specs.Tables.{cells_of, no_table}
use Rattle.pdq_schema.specs.Fragments.{fragment_count}
use Rattle.pdq_schema.specs.Schemas.{rounds}
use Rattle.pdq_query.specs.Queries.{QueryView}
use Rattle.pdq_query.specs.Answer.{rows_at}
use Rattle.pdq_plan.specs.PlanSteps.{PlanStep}
use Rattle.pdq_plan.specs.Plans.{PlanView, is_read, steps_of}
use Rattle.pdq_table.specs.Storing.{StoredView, fragment_of}
use Rattle.pdq_join.specs.Receipts.{BuiltView}
use Rattle.pdq_group.specs.declared.grouper.Folded.{Folded}
use Rattle.std.specs.Global.{Vec}
use Rattle.pdq_eval.specs.Owners.{owners, part}
use Rattle.pdq_eval.specs.Results.{folds}
use Rattle.pdq_eval.specs.Running.{is_kept}

-- the rows of an answer
abbrev pub rows_are : Vec (Vec Cell) → List (List Cell)
rows_are rows = map (λ (row : Vec Cell). row.items) rows.items

-- each store tells its blocks
abbrev pub AreTold : {S : Type 0} → (S → Option (List (List ℕ))) → List S → Type 0
AreTold blocks stores = All (λ s. IsSome (blocks s)) stores

-- a store after a run: its counts did not fall, and where it told its blocks it tells them
pub record IsStoreAfter {S : Type 0} (blocks : S → Option (List (List ℕ))) (faults puts : S → ℕ) (old new : S) : Type 0 where
  pub later : faults old ≤ faults new
  pub more : puts old ≤ puts new
  pub told : IsSome (blocks old) → IsSome (blocks new)

-- each store after a run, in its place
pub record AreStoresAfter {S : Type 0} (blocks : S → Option (List (List ℕ))) (faults puts : S → ℕ) (old new : List S) : Type 0 where
  pub count : length new ≡ length old
  pub each : (i : ℕ) (d : S) → i < length old → IsStoreAfter blocks faults puts (slice_index_or old i d) (slice_index_or new i d)

-- some store failed
abbrev pub AnyRose : {S : Type 0} → (S → ℕ) → List S → List S → Type 0
AnyRose {S} faults old new = (i : ℕ) × (i < length old) × ((d : S) → Rose (faults (slice_index_or old i d)) (faults (slice_index_or new i d)))

-- the number of a query's table at a place in FROM
abbrev pub number_at : QueryView → ℕ → ℕ
number_at q place = slice_index_or q.tables place 0

-- the numbers of the fragments of a table
abbrev pub fragments_of : StoredView → ℕ → List ℕ
fragments_of s table = range_with_len 0 (fragment_count (slice_index_or s.schema.cuts table (rounds 1)))

-- the cells of the rows of a fragment
abbrev pub fragment_cells : StoredView → ℕ → ℕ → List (List Cell)
fragment_cells s table f = map (cells_of (slice_index_or s.tables table no_table).shape.columns) (fragment_of s table f)

-- the fragments that one lane reads of the table of a step: those that the plan keeps, of which each so many is its own
abbrev pub lane_fragments : StoredView → PlanView → PlanStep → ℕ → ℕ → List ℕ
lane_fragments s p t lanes i = filter (is_read p.left t.place) (part (λ f. f % lanes) i (fragments_of s (number_at p.query t.place)))

-- each row that meets the filters on its table stands in a fragment that the plan keeps
pub record KeepsEnough (s : StoredView) (p : PlanView) : Type 0 where
  pub idle : All (λ (t : PlanStep). (f : ℕ) → f < length (fragments_of s (number_at p.query t.place)) → is_read p.left t.place f ≡ false → filter (is_kept t.filters) (fragment_cells s (number_at p.query t.place) f) ≡ []) (steps_of p)

-- how many rows of a lane's fragments meet the filters
abbrev pub lane_count : StoredView → PlanView → PlanStep → ℕ → ℕ → ℕ
lane_count s p t lanes i = sum_by (λ f. length (filter (is_kept t.filters) (fragment_cells s (number_at p.query t.place) f))) (lane_fragments s p t lanes i)

-- what each lane scanned of each table, in the order of the plan
abbrev pub scanned_counts : StoredView → PlanView → ℕ → List ℕ
scanned_counts s p lanes = flat_map (λ (t : PlanStep). map (lane_count s p t lanes) (owners lanes)) (steps_of p)

-- the receipts of the owners that built the table at this place of the plan, of which the first is not built
abbrev pub of_step : {X : Type 0} → ℕ → ℕ → List X → List X
of_step n k xs = take n (drop (k * n) xs)

-- one receipt for each owner and each table but the first: their rows are those of the table that meet the filters, their frames all frames
pub record AreBuilt (s : StoredView) (p : PlanView) (n frames : ℕ) (built : List BuiltView) : Type 0 where
  pub count : length built ≡ n * (length (steps_of p) - 1)
  pub rows : (k : ℕ) (t : PlanStep) → k + 1 < length (steps_of p) → sum_by (λ (b : BuiltView). b.rows) (of_step n k built) ≡ length (filter (is_kept (slice_index_or (steps_of p) (k + 1) t).filters) (rows_at s.tables p.query (slice_index_or (steps_of p) (k + 1) t).place))
  pub frames_are : (k : ℕ) → k + 1 < length (steps_of p) → sum_by (λ (b : BuiltView). b.frames) (of_step n k built) ≡ frames

-- one receipt for each owner of a query with groups: their frames are all frames
pub record AreFolded (q : QueryView) (n frames : ℕ) (folded : List Folded) : Type 0 where
  pub count : length folded ≡ (if folds q then n else 0)
  pub frames_are : folds q ≡ true → sum_by (λ (f : Folded). f.frames) folded ≡ frames
