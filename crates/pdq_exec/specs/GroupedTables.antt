-- A run over one table with groups.
use Rattle.std.specs.Prelude.{◌≡◌, ℕ, ◌+◌, ◌≤◌, ◌⊎◌, List, [], All, Option, IsSome, Some, None, length, map, sum_by}
use Rattle.pdq_value.specs.Cells.{scale_of}
use Rattle.pdq_query.specs.Answer.{answer, choices}
use Rattle.pdq_plan.specs.Plans.{PlanView}
use Rattle.pdq_table.specs.Storing.{StoredView}
use Rattle.pdq_spill.specs.declared.bench.Bench.{Bench}
use Rattle.pdq_spill.specs.declared.faults.ExecFault.{ExecFault}
use Rattle.pdq_spill.specs.declared.faults.ExecFault.TheVariants.{Memory, RowLimit, SpillFault}
use Rattle.pdq_group.specs.declared.grouper.Folded.{Folded}
use Rattle.pdq_exchange.specs.declared.lane.Scanned.{Scanned}
use Rattle.pdq_owner.specs.Phases.{WasStopped}
use Rattle.pdq_eval.specs.Overflow.{blocks_of_groups}
use Rattle.pdq_seat.specs.Seating.{all_frames}
use Rattle.pdq_seat.specs.Stores.{SomeRose}
use Rattle.pdq_fold.specs.Folding.{AreReceipts}
use Rattle.pdq_exec.specs.declared.answer.Ran.{Ran}
use Rattle.pdq_exec.specs.Runs.{rows_are, scanned_counts}

-- a run over one table with groups: no owner built, and each grouped over its bench
pub record IsGroupedRun {S : Type 0} (blocks : S → Option (List (List ℕ))) (puts : S → ℕ) (s : StoredView) (p : PlanView) (lanes : ℕ) (old new : List (Bench S)) (ran : Ran) : Type 0 where
  pub rows_are_right : All (λ (b : Bench S). IsSome (blocks b.store)) old → answer s.tables p.query ≡ Some (rows_are ran.rows)
  pub scales : All (All (λ c. scale_of c ≤ 8)) (rows_are ran.rows)
  pub none_built : ran.built.items ≡ []
  pub receipts : AreReceipts old ran.folded.items
  pub folded_rows : sum_by (λ (f : Folded). f.rows) ran.folded.items ≡ length (choices s.tables p.query)
  pub scanned : map (λ (r : Scanned). r.rows) ran.scanned.items ≡ scanned_counts s p lanes
  pub least : sum_by (λ (b : Bench S). puts b.store) old + blocks_of_groups s.tables p.query (all_frames old) ≤ sum_by (λ (b : Bench S). puts b.store) new

-- why it failed
abbrev pub GroupedFailed : {S : Type 0} → (S → ℕ) → StoredView → PlanView → List (Bench S) → List (Bench S) → ℕ → ℕ → ℕ → ExecFault → Type 0
GroupedFailed faults s p old new told told_now last cause =
    (((cause ≡ Memory) ⊎ (((cause ≡ RowLimit) × (answer s.tables p.query ≡ None)) ⊎ ((cause ≡ SpillFault) × SomeRose (λ b. faults b.store) old new))) × (told_now ≡ told)) ⊎ WasStopped told told_now last cause
