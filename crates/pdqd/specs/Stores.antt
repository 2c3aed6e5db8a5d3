-- The stores of a run, before and after it.
use Rattle.std.specs.Prelude.{ℕ, ◌≡◌, ◌+◌, ◌<◌, ◌≤◌, ◌-◌, ◌^◌, List, Bool, [], ◌∷◌, true, All, Result, Option, is_some, map, sum}
use Rattle.std.specs.List.{list_all}
use Rattle.pdq_session.specs.ScriptTranscript.{Failures, failures_in}
use Rattle.pdq_query.specs.Answer.{answer}
use Rattle.pdq_query.specs.Queries.{QueryView}
use Rattle.pdq_value.specs.Tables.{TableView}
use Rattle.pdqd.specs.Ask.{Answers, Question, blocks_of, shown}
use Rattle.pdqd.specs.Output.{Output}

pub record StoresView : Type 0 where
  -- whether each of them tells its blocks
  pub told : Bool
  -- how often each has failed
  pub faults : List ℕ
  -- how many blocks were ever put in each
  pub puts : List ℕ

abbrev pub stores_view : {S : Type 0} → (S → Option (List (List ℕ))) → (S → ℕ) → (S → ℕ) → List S → StoresView
stores_view blocks faults puts stores = record { told = list_all (λ s. is_some (blocks s)) stores; faults = map faults stores; puts = map puts stores }

-- at no more lines did a store fail than the counts of the stores rose together, where each of them is below the end of its 64 bits
abbrev pub FewFailed : List ℕ → List ℕ → Failures → Type 0
FewFailed before now failed = All (λ count. count < 2 ^ 64 - 1) now → failures_in failed ≤ sum now - sum before

-- where the stores tell their blocks, what queries are answered is their answer
pub record AreRight (stores : StoresView) (answers : Answers) : Type 0 where
  pub each : stores.told ≡ true → (tables : List TableView) (q : QueryView) → answers tables q ≡ answer tables q

-- a reply to what is asked, with these stores before and after it
pub record IsReplyTo (before now : StoresView) (asked : Result Question (List ℕ)) (output : Output) : Type 0 where
  pub fails : Bool
  pub answers : Answers
  pub right : AreRight before answers
  pub few : FewFailed before.faults now.faults (fails ∷ [])
  pub is : output ≡ shown fails answers asked
  pub puts : output.status ≡ 0 → before.told ≡ true → sum before.puts + blocks_of asked ≤ sum now.puts
