-- What a run came to is what is known of its answer.
use Rattle.std.proofs.Common.{ℕ, zero, suc, ◌≡◌, ◌∙◌, ◌≤◌, ◌<◌, List, [], ◌∷◌, length, get_or, Bool, true, false, Option, Some, None, All, refl, sym, ap, subst, arith}
use Rattle.std.specs.Prelude.{Result, Ok, Err, IfOk, IsSome, IsTrue, is_some, ◌&&◌, if◌then◌else◌}
use Rattle.std.proofs.lemmas.Bool.{false≢true}
use Rattle.std.proofs.lemmas.Option.{none-some, same_Some}
use Rattle.std.specs.Global.{Vec}
use Rattle.pdq_base.specs.declared.Memory.{Memory}
use Rattle.pdq_value.specs.declared.cells.Cell.{Cell}
use Rattle.pdq_query.specs.Queries.{QueryView}
use Rattle.pdq_query.specs.Answer.{answer}
use Rattle.pdq_table.specs.Storing.{StoredView}
use Rattle.pdq_reply.specs.Answers.{rows_text}
use Rattle.pdq_exec.specs.Runs.{AnyRose, AreStoresAfter, AreTold, rows_are}
use Rattle.pdq_answer.specs.declared.evaluating.Evaluated.{Evaluated}
use Rattle.pdq_answer.specs.declared.evaluating.Evaluated.TheVariants as run
use Rattle.pdq_answer.specs.Evaluations.{IsAnswer}
use Rattle.pdq_talk.specs.Lines.{Expected}
use Rattle.pdq_talk.specs.Lines.Expected.{AnyAnswer}
use Rattle.pdq_talk.specs.declared.replied.Evaluated.TheVariants as anend
use Rattle.pdq_serve.specs.declared.outcomes.Outcome.{Outcome}
use Rattle.pdq_serve.specs.declared.outcomes.Outcome.TheVariants as outcome
use Rattle.pdq_serve.specs.Outcomes.{HasFailed, IsAnswered, IsOutcomeOf}
use Rattle.pdq_serve.specs.Questions.{all_tell, expected, expects}

module _ {S : Type 0} (blocks : S → Option (List (List ℕ))) where
  -- where a test says that all tell, they do
  pub told_all : (stores : List S) → all_tell blocks stores ≡ true → AreTold blocks stores
  unfolding all_tell
  told_all [] tell k d within = absurd (omega arith)
  told_all (s ∷ stores) tell zero d within = first (is_some (blocks s)) (all_tell blocks stores) tell
    where
      first : (a b : Bool) → (a && b) ≡ true → a ≡ true
      first true b is = refl
      first false b is = is
  told_all (s ∷ stores) tell (suc k) d within = told_all stores (rest (is_some (blocks s)) (all_tell blocks stores) tell) k d (omega arith)
    where
      rest : (a b : Bool) → (a && b) ≡ true → b ≡ true
      rest true b is = is
      rest false b is = absurd (false≢true is)

  -- and where they do, it says so
  pub all_told : (stores : List S) → AreTold blocks stores → all_tell blocks stores ≡ true
  unfolding all_tell
  all_told [] tell = refl
  all_told (s ∷ stores) tell = both (is_some (blocks s)) (all_tell blocks stores) (tell zero s (omega arith)) (all_told stores (λ k d within. tell (suc k) d (omega arith)))
    where
      both : (a b : Bool) → a ≡ true → b ≡ true → (a && b) ≡ true
      both true b is rest = rest
      both false b is rest = absurd (false≢true is)

  -- stores that told their blocks before a run tell them after it
  pub told_after : (faults puts : S → ℕ) (old new : List S) → AreStoresAfter blocks faults puts old new → all_tell blocks old ≡ true → all_tell blocks new ≡ true
  told_after faults puts old new after tell = all_told new (λ k d within. (after.each k d (let few : length new ≡ length old = after.count in omega arith)).told (told_all old tell k d (let few : length new ≡ length old = after.count in omega arith)))

known_answer : (x : Option (List (List Cell))) (e : Result Evaluated Memory) (o : Outcome) → IsOutcomeOf e o → IfOk e (IsAnswer x) → IsAnswered (expected x) o
known_answer x (Err m) o is right = subst (IsAnswered (expected x)) (sym is) tt
known_answer x (Ok (run.Stopped step)) o is right = subst (IsAnswered (expected x)) (sym is) tt
known_answer x (Ok run.StoreFailed) o is right = subst (IsAnswered (expected x)) (sym is) tt
known_answer x (Ok run.TooManyRows) o is right = subst (IsAnswered (expected x)) (sym is) (subst (λ (y : Option (List (List Cell))). IsAnswered (expected y) (outcome.Ended anend.TooManyRows)) (sym right) tt)
known_answer x (Ok (run.Rows rows)) (outcome.Ended (anend.Rows text)) is right = subst (λ (y : Option (List (List Cell))). IsAnswered (expected y) (outcome.Ended (anend.Rows text))) (sym right) is
known_answer x (Ok (run.Rows rows)) (outcome.Ended anend.NoMemory) is right = tt
known_answer x (Ok (run.Rows rows)) (outcome.Ended anend.TooManyRows) is right = absurd is
known_answer x (Ok (run.Rows rows)) (outcome.Ended anend.StoreFailed) is right = absurd is
known_answer x (Ok (run.Rows rows)) (outcome.Stopped by) is right = absurd is

any_answer : (e : Result Evaluated Memory) (o : Outcome) → IsOutcomeOf e o → IsAnswered AnyAnswer o
any_answer e (outcome.Ended (anend.Rows text)) is = tt
any_answer e (outcome.Ended anend.TooManyRows) is = tt
any_answer e (outcome.Ended anend.StoreFailed) is = tt
any_answer e (outcome.Ended anend.NoMemory) is = tt
any_answer e (outcome.Stopped by) is = tt

-- what a run came to is the answer, where the stores tell their blocks
pub run_answered : {S : Type 0} (blocks : S → Option (List (List ℕ))) (stores : List S) (db : StoredView) (q : QueryView) (e : Result Evaluated Memory) (o : Outcome) → IsOutcomeOf e o → (AreTold blocks stores → IfOk e (IsAnswer (answer db.tables q))) → IsAnswered (expects blocks stores db q) o
unfolding expects
run_answered blocks stores db q e o is right = go (all_tell blocks stores) (λ tell. right (told_all blocks stores tell))
  where
    go : (b : Bool) → (b ≡ true → IfOk e (IsAnswer (answer db.tables q))) → IsAnswered (if b then expected (answer db.tables q) else AnyAnswer) o
    go true known = known_answer (answer db.tables q) e o is (known refl)
    go false known = any_answer e o is

-- it was stopped only where it says so
pub run_stopped : (e : Result Evaluated Memory) (o : Outcome) (step : ℕ) → IsOutcomeOf e o → o ≡ outcome.Stopped step → e ≡ Ok (run.Stopped step)
run_stopped (Err m) o step is stopped = absurd (let same : outcome.Ended anend.NoMemory ≡ outcome.Stopped step = sym is ∙ stopped in cc)
run_stopped (Ok (run.Stopped at)) o step is stopped = let same : outcome.Stopped at ≡ outcome.Stopped step = sym is ∙ stopped in cc
run_stopped (Ok run.StoreFailed) o step is stopped = absurd (let same : outcome.Ended anend.StoreFailed ≡ outcome.Stopped step = sym is ∙ stopped in cc)
run_stopped (Ok run.TooManyRows) o step is stopped = absurd (let same : outcome.Ended anend.TooManyRows ≡ outcome.Stopped step = sym is ∙ stopped in cc)
run_stopped (Ok (run.Rows rows)) (outcome.Ended e) step is stopped = absurd (let same : outcome.Ended e ≡ outcome.Stopped step = stopped in cc)
run_stopped (Ok (run.Rows rows)) (outcome.Stopped by) step is stopped = absurd is

-- and a store failed only where it says so
pub run_failed : (e : Result Evaluated Memory) (o : Outcome) → IsOutcomeOf e o → HasFailed o → e ≡ Ok run.StoreFailed
run_failed (Err m) o is fails = absurd (subst HasFailed is fails)
run_failed (Ok (run.Stopped at)) o is fails = absurd (subst HasFailed is fails)
run_failed (Ok run.StoreFailed) o is fails = refl
run_failed (Ok run.TooManyRows) o is fails = absurd (subst HasFailed is fails)
run_failed (Ok (run.Rows rows)) (outcome.Ended (anend.Rows text)) is fails = absurd fails
run_failed (Ok (run.Rows rows)) (outcome.Ended anend.NoMemory) is fails = absurd fails
run_failed (Ok (run.Rows rows)) (outcome.Ended anend.TooManyRows) is fails = absurd fails
run_failed (Ok (run.Rows rows)) (outcome.Ended anend.StoreFailed) is fails = absurd is
run_failed (Ok (run.Rows rows)) (outcome.Stopped by) is fails = absurd is
