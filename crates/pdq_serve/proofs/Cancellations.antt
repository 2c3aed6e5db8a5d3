-- A flag, and the step at which a query was withdrawn, is the place of a Cancel entry of that query.
use Rattle.std.proofs.Common.{ℕ, ◌≡◌, List, Option, None, Some, Bool, refl, sym, subst}
use Rattle.std.specs.Prelude.{◌==◌, ◌&&◌, slice_get, position, option_and_then}
use Rattle.std.proofs.lemmas.Bool.{and_parts, eqb-true}
use Rattle.std.proofs.lemmas.Option.{none-some}
use mathlib.Core.List.{IsPrefix}
use Rattle.pdq_model.specs.declared.rows.Active.{Active}
use Rattle.pdq_model.specs.declared.rows.Withdrawn.{Withdrawn}
use Rattle.pdq_model.specs.declared.events.Entry.{Entry}
use Rattle.pdq_model.specs.declared.events.Event.TheVariants.{Collect}
use Rattle.pdq_model.specs.declared.events.Reply.TheVariants as reply
use Rattle.pdq_model.specs.declared.events.Answer.TheVariants.{Entered}
use Rattle.pdq_model.specs.Configuration.{Configuration}
use Rattle.pdq_model.specs.State.{State}
use Rattle.pdq_model.specs.Given.{MarksCancellations, WasCancelledAt}
use Rattle.pdq_model.specs.Step.{decide, active_place, active_row, withdrawn_place, withdrawn_of, answer_to_collect}
use Rattle.pdq_model.specs.Gates.{waiting_place}
use Rattle.pdq_model.specs.History.{IsLegal, replay}
use Rattle.pdq_model.proofs.Lists.{place_passes}
use Rattle.pdq_model.proofs.Marks.{marks_are_cancellations}
use Rattle.pdq_gate.specs.Queries.{flag_of}
use Rattle.pdq_serve.specs.Query.{IsFlag}
use Rattle.pdq_talk.proofs.Growing.{was_cancelled_stays}

-- the flag of a row that has this number
flag_in : (h : List Entry) (number id : ℕ) (flag : Option ℕ) → number ≡ id → ((step : ℕ) → flag ≡ Some step → WasCancelledAt h step number) → IsFlag h id flag
flag_in h number id None is each = tt
flag_in h number id (Some step) is each = subst (λ (n : ℕ). WasCancelledAt h step n) is (each step refl)

-- the flag of an active query
pub flag_stands : (c : Configuration) (h : List Entry) (id : ℕ) → IsLegal c h → IsFlag h id (flag_of (replay c h) id)
flag_stands c h id legal = at (position p xs) refl
  where
    p : Active → Bool
    p = λ a. a.id == id

    xs : List Active
    xs = (replay c h).active

    row : (k : ℕ) (o : Option Active) → position p xs ≡ Some k → slice_get xs k ≡ o → IsFlag h id (option_and_then (λ (a : Active). a.flagged) o)
    row k None place there = tt
    row k (Some a) place there = flag_in h a.id id a.flagged (eqb-true a.id id (place_passes p xs k a place there)) (λ step is. (marks_are_cancellations c h legal).flagged k step a there is)

    at : (o : Option ℕ) → position p xs ≡ o → IsFlag h id (option_and_then (λ k. option_and_then (λ (a : Active). a.flagged) (slice_get xs k)) o)
    at None place = tt
    at (Some k) place = row k (slice_get xs k) place refl

-- what a collection tells
found_flag : (h : List Entry) (s : State) (who id quanta scans priority : ℕ) (flag : Option ℕ) (o : Option ℕ) (a : Option Active) (w : Option Withdrawn) → active_row s who id ≡ a → MarksCancellations s h
    → Entered (reply.Granted quanta scans priority flag) ≡ answer_to_collect s who id o a w → IsFlag h id flag
found_flag h s who id quanta scans priority flag (Some place) a w row marks e = cc
found_flag h s who id quanta scans priority flag None (Some a) w row marks e = go (active_place s who id) refl row
  where
    same : flag ≡ a.flagged
    same = cc

    go : (k : Option ℕ) → active_place s who id ≡ k → option_and_then (slice_get s.active) k ≡ Some a → IsFlag h id flag
    go None place there = absurd (none-some a there)
    go (Some k) place there =
        subst (λ (f : Option ℕ). IsFlag h id f) (sym same) (flag_in h a.id id a.flagged
        (eqb-true a.id id (and_parts (a.id == id) (a.session == who) (place_passes (λ (x : Active). x.id == id && x.session == who) s.active k a place there)).0)
        (λ step is. marks.flagged k step a there is))
found_flag h s who id quanta scans priority flag None None (Some w) row marks e = cc
found_flag h s who id quanta scans priority flag None None None row marks e = cc

found_withdrawal : (h : List Entry) (s : State) (who id by : ℕ) (o : Option ℕ) (a : Option Active) (w : Option Withdrawn) → withdrawn_of s who id ≡ w → MarksCancellations s h
    → Entered (reply.Cancelled by) ≡ answer_to_collect s who id o a w → WasCancelledAt h by id
found_withdrawal h s who id by (Some place) a w row marks e = cc
found_withdrawal h s who id by None (Some a) w row marks e = cc
found_withdrawal h s who id by None None (Some w) row marks e = go (withdrawn_place s who id) refl row
  where
    same : by ≡ w.by
    same = cc

    go : (k : Option ℕ) → withdrawn_place s who id ≡ k → option_and_then (slice_get s.withdrawn) k ≡ Some w → WasCancelledAt h by id
    go None place there = absurd (none-some w there)
    go (Some k) place there =
        subst (λ (f : ℕ). WasCancelledAt h f id) (sym same) (subst (λ (n : ℕ). WasCancelledAt h w.by n)
        (eqb-true w.id id (and_parts (w.id == id) (w.session == who) (place_passes (λ (x : Withdrawn). x.id == id && x.session == who) s.withdrawn k w place there)).0)
        (marks.withdrawn k w there))
found_withdrawal h s who id by None None None row marks e = cc

pub granted_flag : (c : Configuration) (h : List Entry) (who id quanta scans priority : ℕ) (flag : Option ℕ) → IsLegal c h → Entered (reply.Granted quanta scans priority flag) ≡ decide (replay c h) who (Collect id) → IsFlag h id flag
granted_flag c h who id quanta scans priority flag legal e =
    found_flag h (replay c h) who id quanta scans priority flag (waiting_place (replay c h) who id) (active_row (replay c h) who id) (withdrawn_of (replay c h) who id) refl (marks_are_cancellations c h legal) e

pub cancelled_place : (c : Configuration) (h : List Entry) (who id by : ℕ) → IsLegal c h → Entered (reply.Cancelled by) ≡ decide (replay c h) who (Collect id) → WasCancelledAt h by id
cancelled_place c h who id by legal e =
    found_withdrawal h (replay c h) who id by (waiting_place (replay c h) who id) (active_row (replay c h) who id) (withdrawn_of (replay c h) who id) refl (marks_are_cancellations c h legal) e

-- a flag stays one where the history grows
pub flag_stays : (h k : List Entry) → IsPrefix h k → (id : ℕ) (flag : Option ℕ) → IsFlag h id flag → IsFlag k id flag
flag_stays h k b id None f = tt
flag_stays h k b id (Some by) f = was_cancelled_stays h k by id b f
