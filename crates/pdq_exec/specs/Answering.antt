-- What a run answers over its stores, and why it fails.
use Rattle.std.specs.Prelude.{◌≡◌, ℕ, ◌+◌, ◌≤◌, ◌<◌, ◌⊎◌, List, All, Option, IsSome, Some, None, length, map, slice_index_or, sum_by, true}
use Rattle.pdq_value.specs.Cells.{scale_of}
use Rattle.pdq_query.specs.Answer.{answer, choices}
use Rattle.pdq_plan.specs.Plans.{PlanView, order_of}
use Rattle.pdq_table.specs.Storing.{StoredView}
use Rattle.pdq_spill.specs.declared.faults.ExecFault.{ExecFault}
use Rattle.pdq_spill.specs.declared.faults.ExecFault.TheVariants.{Memory, RowLimit, SpillFault}
use Rattle.pdq_group.specs.declared.grouper.Folded.{Folded}
use Rattle.pdq_exchange.specs.declared.lane.Scanned.{Scanned}
use Rattle.pdq_owner.specs.Phases.{WasStopped}
use Rattle.pdq_seat.specs.Stores.{SomeRose}
use Rattle.pdq_eval.specs.Overflow.{blocks_needed, joins_needed}
use Rattle.pdq_eval.specs.Results.{folds}
use Rattle.pdq_exec.specs.declared.answer.Ran.{Ran}
use Rattle.pdq_exec.specs.Runs.{AreBuilt, AreFolded, AreTold, rows_are, scanned_counts}

-- a store that was cleared: its counts stayed, and where it told its blocks it tells them
pub record IsClearedStore {S : Type 0} (blocks : S → Option (List (List ℕ))) (held faults puts : S → ℕ) (old new : S) : Type 0 where
  pub held_is : held new ≡ 0
  pub faults_are : faults new ≡ faults old
  pub puts_are : puts new ≡ puts old
  pub told : IsSome (blocks old) → IsSome (blocks new)

pub record AreCleared {S : Type 0} (blocks : S → Option (List (List ℕ))) (held faults puts : S → ℕ) (old new : List S) : Type 0 where
  pub count : length new ≡ length old
  pub each : (i : ℕ) (d : S) → i < length old → IsClearedStore blocks held faults puts (slice_index_or old i d) (slice_index_or new i d)

-- a run that answered, with so many lanes, owners and frames, over these stores
pub record IsRun {S : Type 0} (blocks : S → Option (List (List ℕ))) (puts : S → ℕ) (s : StoredView) (p : PlanView) (lanes n frames : ℕ) (old new : List S) (ran : Ran) : Type 0 where
  pub rows_are_right : AreTold blocks old → answer s.tables p.query ≡ Some (rows_are ran.rows)
  pub scales : All (All (λ c. scale_of c ≤ 8)) (rows_are ran.rows)
  pub built : AreBuilt s p n frames ran.built.items
  pub folded : AreFolded p.query n frames ran.folded.items
  pub folded_rows : AreTold blocks old → folds p.query ≡ true → sum_by (λ (f : Folded). f.rows) ran.folded.items ≡ length (choices s.tables p.query)
  pub scanned : map (λ (r : Scanned). r.rows) ran.scanned.items ≡ scanned_counts s p lanes
  pub overflow : sum_by puts old + joins_needed s.tables p.query (order_of p) frames ≤ sum_by puts new
  pub overflow_told : AreTold blocks old → sum_by puts old + blocks_needed s.tables p.query (order_of p) frames ≤ sum_by puts new

-- why it failed: memory was wanting, there are too many choices, or a store failed; or it was told to stop
abbrev pub RunFailed : {S : Type 0} → (S → Option (List (List ℕ))) → (S → ℕ) → StoredView → PlanView → List S → List S → ℕ → ℕ → ℕ → ExecFault → Type 0
RunFailed blocks faults s p old new told told_now last cause =
    (((cause ≡ Memory) ⊎ (((cause ≡ RowLimit) × (AreTold blocks old → answer s.tables p.query ≡ None)) ⊎ ((cause ≡ SpillFault) × SomeRose faults old new))) × (told_now ≡ told)) ⊎ WasStopped told told_now last cause
