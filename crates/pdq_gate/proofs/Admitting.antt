-- What an event leads to beyond what it changes itself: a pending change is taken where it can be, and then there are admissions alone.
use Rattle.std.proofs.Common.{ℕ, ◌≡◌, ◌+◌, Bool, true, false, refl, subst, sym}
use Rattle.pdq_model.specs.declared.events.Event.{Event}
use Rattle.pdq_model.specs.declared.events.Answer.{Answer}
use Rattle.pdq_model.specs.State.{State}
use Rattle.pdq_model.specs.Settling.{take_pending, Admissions, IsSettled}
use Rattle.pdq_model.specs.Settling.Admissions.{no_more}
use Rattle.pdq_model.specs.Step.{changed, decide, next, is_entered, after_answer}
use Rattle.pdq_model.proofs.Heads.{settling_admits}
use Rattle.pdq_gate.specs.Queries.{unsettled, unsettled_by}
use Rattle.pdq_gate.proofs.Settling.{pending_stays}

pub admissions_after : (s : State) (who : ℕ) (event : Event) → IsSettled s → Admissions (take_pending (unsettled s who event)) (next s who event)
admissions_after s who event settled = go (decide s who event)
  where
    by : (e : Bool) (answer : Answer) → is_entered answer ≡ e → Admissions (take_pending (unsettled_by s who event answer)) (after_answer s who event answer)
    by true answer e = rw e (settling_admits (record (changed s who event) { entries = s.entries + 1 }))
    by false answer e = rw e (subst (λ (x : State). Admissions x s) (sym (pending_stays s settled.changed)) (no_more s))

    go : (answer : Answer) → Admissions (take_pending (unsettled_by s who event answer)) (after_answer s who event answer)
    go answer = by (is_entered answer) answer refl
