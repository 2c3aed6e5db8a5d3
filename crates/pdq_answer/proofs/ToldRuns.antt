-- What a run came to, told as an evaluation.
use Rattle.std.proofs.Common.{◌≡◌, ◌≢◌, ℕ, ◌<◌, ◌≤◌, List, refl, sym, ap, subst, ◌∙◌, All, length, get_or, map, Result, Ok, Err, IfOk, OnOk}
use Rattle.std.specs.Global.{Vec}
use Rattle.std.proofs.Math.ListN.{get_or-map}
use Rattle.std.proofs.lemmas.List.{length-map}
use Rattle.pdq_base.specs.declared.Memory.{Memory}
use Rattle.pdq_value.specs.declared.cells.Cell.{Cell}
use Rattle.pdq_value.specs.Cells.{scale_of}
use Rattle.pdq_spill.specs.declared.faults.ExecFault.{ExecFault}
use Rattle.pdq_spill.specs.declared.faults.ExecFault.TheVariants as fault
use Rattle.pdq_exec.specs.Runs.{rows_are}
use Rattle.pdq_exec.specs.declared.answer.Ran.{Ran}
use Rattle.pdq_answer.specs.declared.evaluating.Evaluated.{Evaluated}
use Rattle.pdq_answer.specs.declared.evaluating.Evaluated.TheVariants.{Rows, TooManyRows, StoreFailed, Stopped}
use Rattle.pdq_answer.specs.Evaluations.{IsPrintable, IsRunAs}

-- a fact that holds in any case
pub on_ok : {T E P : Type 0} (r : Result T E) → P → OnOk r P
on_ok (Ok x) p = p
on_ok (Err e) p = tt

printable_rows : (ran : Result Ran ExecFault) (rows : Vec (Vec Cell)) → IsRunAs ran (Rows rows) → IfOk ran (λ r. All (All (λ c. scale_of c ≤ 8)) (rows_are r.rows)) → IsPrintable (Rows rows)
printable_rows (Ok r) rows same scales = let P : Vec (Vec Cell) → Type 0 = λ v. All (All (λ c. scale_of c ≤ 8)) (rows_are v) in subst P same scales
printable_rows (Err e) rows same scales = absurd same

-- rows come of a run whose rows can be printed
pub printable : (ran : Result Ran ExecFault) (told : Result Evaluated Memory) → IfOk told (IsRunAs ran) → IfOk ran (λ r. All (All (λ c. scale_of c ≤ 8)) (rows_are r.rows)) → IfOk told IsPrintable
printable ran (Err e) same scales = tt
printable ran (Ok (Rows rows)) same scales = printable_rows ran rows same scales
printable ran (Ok TooManyRows) same scales = tt
printable ran (Ok StoreFailed) same scales = tt
printable ran (Ok (Stopped step)) same scales = tt

memory_is_not : (ran : Result Ran ExecFault) (told : Evaluated) → IsRunAs ran told → ran ≢ Err fault.Memory
memory_is_not (Ok r) (Rows rows) same is = cc
memory_is_not (Err e) (Rows rows) same is = absurd same
memory_is_not ran TooManyRows same is = cc
memory_is_not ran StoreFailed same is = cc
memory_is_not ran (Stopped step) same is = cc

-- a run that did not want memory was told, and had this
pub told_had : {P : Type 0} (ran : Result Ran ExecFault) (told : Result Evaluated Memory) → IfOk told (IsRunAs ran) → (ran ≢ Err fault.Memory → P) → OnOk told P
told_had ran (Err e) same had = tt
told_had ran (Ok v) same had = had (memory_is_not ran v same)

-- a stop is that of the run
pub told_stop : (ran : Result Ran ExecFault) (told : Result Evaluated Memory) (step : ℕ) → IfOk told (IsRunAs ran) → told ≡ Ok (Stopped step) → ran ≡ Err (fault.Stopped step)
told_stop ran told step same is = let P : Result Evaluated Memory → Type 0 = λ t. IfOk t (IsRunAs ran) in subst P is same

-- what holds of the rows holds of each of them
pub each_row : (rows : Vec (Vec Cell)) → All (All (λ c. scale_of c ≤ 8)) (rows_are rows) → All (λ (row : Vec Cell). All (λ c. scale_of c ≤ 8) row.items) rows.items
each_row rows all = λ k d lt.
    let P : List Cell → Type 0 = All (λ c. scale_of c ≤ 8) in
    let items : Vec Cell → List Cell = λ row. row.items in
    let within : k < length (map items rows.items) = rw length-map lt in
    subst P (get_or-map items rows.items k d) (all k (items d) within)
