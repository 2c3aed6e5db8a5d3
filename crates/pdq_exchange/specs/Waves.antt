-- What a wave does.
use Rattle.std.specs.Prelude.{◌≡◌, ℕ, ◌+◌, ◌-◌, ◌^◌, ◌<◌, ◌↔◌, min, Bool, false, ◌||◌, List, [], ◌∷◌, length, slice_index_or, Option, Some, Result, Ok, Err, IfOk, IfErr, OnOk, IsTrue, ⊤}
use Rattle.pdq_spill.specs.declared.faults.ExecFault.{ExecFault}
use Rattle.pdq_exchange.specs.Batches.{Row}
use Rattle.pdq_exchange.specs.Roles.{Coming, Gave}

-- a number that is kept in 64 bits, raised
abbrev pub counted : ℕ → ℕ → ℕ
counted n more = min (n + more) (2 ^ 64 - 1)

-- a scanner filled a batch with these rows, or failed
pub record LaneRan {S : Type 0} (left : S → Coming) (fault : S → Option ExecFault) (old new : S) (scanned scanned_new : ℕ) (rows : List Row) (outcome : Result Bool ExecFault) : Type 0 where
  pub gave : OnOk outcome (Gave (left old) rows (left new))
  pub some : OnOk outcome (0 < (left old).count → 0 < length rows)
  pub more : IfOk outcome (λ more. IsTrue more ↔ (0 < (left new).count))
  pub counts : OnOk outcome (scanned_new ≡ counted scanned (length rows))
  pub fine : OnOk outcome (fault new ≡ fault old)
  pub failed : IfErr outcome (λ cause. (fault new ≡ Some cause) × (scanned_new ≡ scanned))

-- an owner absorbed these rows, or failed
pub record DeskRan {O : Type 0} (takes : O → List Row → O → Type 0) (fault : O → Option ExecFault) (old new : O) (rows : List Row) (outcome : Result ⊤ ExecFault) : Type 0 where
  pub took : OnOk outcome (takes old rows new)
  pub fine : OnOk outcome (fault new ≡ fault old)
  pub failed : IfErr outcome (λ cause. fault new ≡ Some cause)

-- what a lane said, before what the others came to
abbrev pub or_more : Bool → Result Bool ExecFault → Result Bool ExecFault
or_more more (Ok others) = Ok (more || others)
or_more more (Err cause) = Err cause

-- the fault of smallest number, or whether some lane said that there is more
abbrev pub lanes_answer : List (Result Bool ExecFault) → Result Bool ExecFault
lanes_answer [] = Ok false
lanes_answer (Err cause ∷ rest) = Err cause
lanes_answer (Ok more ∷ rest) = or_more more (lanes_answer rest)

-- the fault of smallest number, else what there was before
abbrev pub desks_answer : Bool → List (Result ⊤ ExecFault) → Result Bool ExecFault
desks_answer more [] = Ok more
desks_answer more (Err cause ∷ rest) = Err cause
desks_answer more (Ok _ ∷ rest) = desks_answer more rest

-- what a wave answers by the answers of its lanes, from the first on, and then of its desks
abbrev pub answered : Result Bool ExecFault → List (Result ⊤ ExecFault) → Result Bool ExecFault
answered (Ok more) desks = desks_answer more desks
answered (Err cause) desks = Err cause

-- a wave as its callers see it: the width of the rows, the places of the key's words, and the rows that each scanner
-- gave in the last wave
pub record WaveView : Type 0 where
  pub width : ℕ
  pub keys : List ℕ
  pub given : List (List Row)

-- all but what was given is the same
pub record IsSamePlan (old new : WaveView) : Type 0 where
  pub same_width : new.width ≡ old.width
  pub same_keys : new.keys ≡ old.keys
  pub same_lanes : length new.given ≡ length old.given

-- the relation holds at each place of two lists, of the length of the first
abbrev pub at_each : {X : Type 0} → List X → List X → (ℕ → X → X → Type 0) → Type 0
at_each {X} olds news R = (i : ℕ) (d : X) → i < length olds → R i (slice_index_or olds i d) (slice_index_or news i d)
