-- What is grouped at the end of a run, and what comes of it.
use Rattle.std.specs.Prelude.{◌≡◌, ℕ, ◌+◌, ◌⊎◌, List, Option, None, length, map, sum_by}
use Rattle.std.specs.List.Sorted.{IsPermutation}
use Rattle.pdq_value.specs.Tables.{TableView}
use Rattle.pdq_query.specs.Queries.{QueryView}
use Rattle.pdq_query.specs.Answer.{answer}
use Rattle.pdq_plan.specs.Plans.{PlanView, columns_of, order_of}
use Rattle.pdq_spill.specs.declared.bench.Bench.{Bench}
use Rattle.pdq_spill.specs.declared.faults.ExecFault.{ExecFault}
use Rattle.pdq_spill.specs.declared.faults.ExecFault.TheVariants.{Memory, RowLimit, SpillFault}
use Rattle.pdq_exchange.specs.Batches.{Row}
use Rattle.pdq_exchange.specs.Roles.{Coming}
use Rattle.pdq_exchange.specs.declared.lane.Lane.{Lane}
use Rattle.pdq_group.specs.declared.grouper.Folded.{Folded}
use Rattle.pdq_owner.specs.Phases.{LaneFailed, WasStopped}
use Rattle.pdq_eval.specs.Laws.{IsOrderOf}
use Rattle.pdq_eval.specs.Results.{folds_of, group_input}
use Rattle.pdq_eval.specs.Running.{all_running}
use Rattle.pdq_gather.specs.Rows.{Comes}
use Rattle.pdq_seat.specs.Seating.{all_frames}
use Rattle.pdq_seat.specs.Stores.{SomeRose}

-- how many words a running row hands to a grouper
abbrev pub input_width : QueryView → ℕ
input_width q = length q.groups + length (folds_of q.items)

-- lanes give what the running rows of a plan after all tables hand to groupers, in any order
pub record GiveInputs {C : Type 0} (left : C → Coming) (tables : List TableView) (p : PlanView) (lanes : List (Lane C)) : Type 0 where
  pub order : IsOrderOf tables p.query (order_of p)
  pub ws : List Row
  pub running : IsPermutation (all_running tables p.query (order_of p)) ws
  pub come : Comes left lanes (map (group_input (columns_of p) p.query) ws)

-- one receipt for each bench: their frames are all frames
pub record AreReceipts {S : Type 0} (benches : List (Bench S)) (folded : List Folded) : Type 0 where
  pub one_each : length folded ≡ length benches
  pub frames_are : sum_by (λ (f : Folded). f.frames) folded ≡ all_frames benches

-- why it failed: memory was wanting, there are too many running rows, or a lane or the store of a bench failed; or it was told to stop
abbrev pub FoldFailed : {S C : Type 0} → (S → ℕ) → (C → Coming) → (C → Option ExecFault) → PlanView → List (Lane C) → List (Lane C) → List (Bench S) → List (Bench S) → ℕ → ℕ → ℕ → ExecFault → Type 0
FoldFailed faults left fault p lanes lanes_now benches benches_now told told_now last cause =
    (((cause ≡ Memory)
    ⊎ (((cause ≡ RowLimit) × ((tables : List TableView) → GiveInputs left tables p lanes → answer tables p.query ≡ None))
    ⊎ (LaneFailed fault lanes_now cause
    ⊎ ((cause ≡ SpillFault) × SomeRose (λ b. faults b.store) benches benches_now)))) × (told_now ≡ told))
    ⊎ WasStopped told told_now last cause
