-- A run over one table.
use Rattle.std.specs.Prelude.{◌≡◌, ℕ, ◌≤◌, ◌⊎◌, [], All, Some, None, map}
use Rattle.pdq_value.specs.Cells.{scale_of}
use Rattle.pdq_query.specs.Answer.{answer}
use Rattle.pdq_plan.specs.Plans.{PlanView}
use Rattle.pdq_table.specs.Storing.{StoredView}
use Rattle.pdq_spill.specs.declared.faults.ExecFault.{ExecFault}
use Rattle.pdq_spill.specs.declared.faults.ExecFault.TheVariants.{Memory, RowLimit}
use Rattle.pdq_exchange.specs.declared.lane.Scanned.{Scanned}
use Rattle.pdq_owner.specs.Phases.{WasStopped}
use Rattle.pdq_exec.specs.declared.answer.Ran.{Ran}
use Rattle.pdq_exec.specs.Runs.{rows_are, scanned_counts}

-- a run over one table without groups: no owner built or grouped
pub record IsPlainRun (s : StoredView) (p : PlanView) (lanes : ℕ) (ran : Ran) : Type 0 where
  pub rows_are_right : answer s.tables p.query ≡ Some (rows_are ran.rows)
  pub scales : All (All (λ c. scale_of c ≤ 8)) (rows_are ran.rows)
  pub none_built : ran.built.items ≡ []
  pub none_folded : ran.folded.items ≡ []
  pub scanned : map (λ (r : Scanned). r.rows) ran.scanned.items ≡ scanned_counts s p lanes

-- why it failed
abbrev pub TableFailed : StoredView → PlanView → ℕ → ℕ → ℕ → ExecFault → Type 0
TableFailed s p told told_now last cause = (((cause ≡ Memory) ⊎ ((cause ≡ RowLimit) × (answer s.tables p.query ≡ None))) × (told_now ≡ told)) ⊎ WasStopped told told_now last cause
