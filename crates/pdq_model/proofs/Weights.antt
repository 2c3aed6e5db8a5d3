-- Weights of the queries in the lists, and how an event changes their sum.
use Rattle.std.proofs.Common.{ℕ, ◌≡◌, ◌∙◌, ◌+◌, ◌≤◌, List, Option, None, Some, Bool, true, false, length, refl, ap, arith}
use Rattle.std.specs.Prelude.{◌&&◌, ◌==◌, sum_by, remove, position, slice_get, if◌then◌else◌}
use Rattle.std.proofs.lemmas.List.Sums.{sum_by_push}
use Rattle.pdq_model.specs.declared.rows.Waiting.{Waiting}
use Rattle.pdq_model.specs.declared.rows.Active.{Active}
use Rattle.pdq_model.specs.declared.rows.Withdrawn.{Withdrawn}
use Rattle.pdq_model.specs.declared.rows.Pending.{Pending}
use Rattle.pdq_model.specs.declared.events.Event.{Event}
use Rattle.pdq_model.specs.declared.events.Event.TheVariants.{OpenSession, CloseSession, Submit, Collect, Finish, Cancel, Onmode}
use Rattle.pdq_model.specs.declared.events.Setting.{Setting}
use Rattle.pdq_model.specs.declared.events.Setting.TheVariants.{MaxPriority, TotalMemory, MaxQueries, MaxScans, NonPdq}
use Rattle.pdq_model.specs.declared.events.Answer.{Answer}
use Rattle.pdq_model.specs.declared.events.Answer.TheVariants.{Entered, Waits, Refuses}
use Rattle.pdq_model.specs.Configuration.{Configuration}
use Rattle.pdq_model.specs.State.{State}
use Rattle.pdq_model.specs.Settling.{overtaken_by, admit, admitted_row, take_if_idle, take_pending, settle, with_pending, Admissions}
use Rattle.pdq_model.specs.Settling.Admissions.{no_more, first_then}
use Rattle.pdq_model.specs.Step.{decide, next, after_answer, submitted_row, without, set_by, changed_at, collected, flagged_at, withdrawn_row, withdraw, cancelled, active_place, withdrawn_place}
use Rattle.pdq_model.specs.Laws.{counted}
use Rattle.pdq_model.proofs.Lists.{sum_by_without, sum_by_changed, row_at, place_within, place_passes}
use Rattle.pdq_model.proofs.Heads.{settling_admits}
use Rattle.pdq_model.proofs.Numbers.{sum_by_same, same_numbers, left_out}

-- a row that leaves counts for nothing
pub left_own : {X : Type 0} (f : X → ℕ) (p : X → Bool) (xs : List X) → ((x : X) → p x ≡ true → f x ≡ 0) → (o : Option ℕ) → position p xs ≡ o → sum_by f (without xs o) ≡ sum_by f xs
left_own f p xs none None e = refl
left_own f p xs none (Some k) e =
    let row = row_at xs k (place_within p xs k e) in
    omega (arith, sum_by_without f xs k row.0 row.1, none row.0 (place_passes p xs k row.0 e row.1))

-- a row that is changed counts for no less
more_changed : {X : Type 0} (f : X → ℕ) (g : X → X) (p : X → Bool) (xs : List X) → ((x : X) → p x ≡ true → f x ≤ f (g x)) → (o : Option ℕ) → position p xs ≡ o → sum_by f xs ≤ sum_by f (changed_at g xs o)
more_changed f g p xs more None e = omega arith
more_changed {X} f g p xs more (Some k) e = go (slice_get xs k) refl
  where
    go : (o : Option X) → slice_get xs k ≡ o → sum_by f xs ≤ sum_by f (set_by g xs k o)
    go None there = omega arith
    go (Some x) there = omega (arith, sum_by_changed f xs k x (g x) there, more x (place_passes p xs k x e there))

module _ (fw : Waiting → ℕ) (fa : Active → ℕ) (fd : Withdrawn → ℕ) where
  -- the weights of all queries
  abbrev pub weight : State → ℕ
  weight s = sum_by fw s.waiting + sum_by fa s.active + sum_by fd s.withdrawn

  -- a query weighs the same where it is admitted, overtaken, flagged or withdrawn
  pub record IsSteady : Type 0 where
    pub admitted : (c : Configuration) (w : Waiting) → fa (admitted_row c w) ≡ fw w
    pub overtaken : (k : ℕ) (w : Waiting) → fw (overtaken_by k w) ≡ fw w
    pub flagged : (step : ℕ) (a : Active) → fa (flagged_at step a) ≡ fa a
    pub withdrawn : (step : ℕ) (w : Waiting) → fd (withdrawn_row step w) ≡ fw w

  -- this event takes no weight away
  abbrev pub Spares : ℕ → Event → Type 0
  Spares who (OpenSession admin) = Unit {0}
  Spares who CloseSession = Unit {0}
  Spares who (Submit p f) = Unit {0}
  Spares who (Collect number) = ((a : Active) → (a.id == number && a.session == who) ≡ true → fa a ≤ fa (collected a)) × ((w : Withdrawn) → (w.id == number && w.session == who) ≡ true → fd w ≡ 0)
  Spares who (Finish number how) = (a : Active) → (a.id == number && a.session == who) ≡ true → fa a ≡ 0
  Spares who (Cancel number) = Unit {0}
  Spares who (Onmode setting) = Unit {0}

  module _ (steady : IsSteady) where
    kept_admitted : (s : State) (place : ℕ) (w : Waiting) → slice_get s.waiting place ≡ Some w → weight (admit s place w) ≡ weight s
    kept_admitted s place w there =
        omega (arith, sum_by_without fw s.waiting place w there, sum_by_same fw (overtaken_by w.id) (steady.overtaken w.id) (remove s.waiting place), sum_by_push fa s.active (admitted_row s.config w), steady.admitted s.config w)

    kept_by_admissions : (s t : State) → Admissions s t → weight t ≡ weight s
    kept_by_admissions s t (no_more r) = refl
    kept_by_admissions s t (first_then r m u one rest) = kept_by_admissions m u rest ∙ ap (λ (x : State). weight x) one.admitted ∙ kept_admitted r one.place one.query one.there

    kept_taken : (s : State) (o : Option Pending) → weight (take_if_idle s o) ≡ weight s
    kept_taken s None = refl
    kept_taken s (Some p) = go (length s.active == 0)
      where
        go : (b : Bool) → weight (if b then record s { config = with_pending s.config p; pending = None } else s) ≡ weight s
        go true = refl
        go false = refl

    -- settling moves queries, and no weight is lost
    pub kept_settled : (s : State) → weight (settle s) ≡ weight s
    kept_settled s = kept_by_admissions (take_pending s) (settle s) (settling_admits s) ∙ kept_taken s s.pending

    kept_withdrawn : (s : State) (step place : ℕ) (row : Option Waiting) → slice_get s.waiting place ≡ row → weight (withdraw s step place row) ≡ weight s
    kept_withdrawn s step place None there = refl
    kept_withdrawn s step place (Some w) there =
        omega (arith, sum_by_without fw s.waiting place w there, sum_by_push fd s.withdrawn (withdrawn_row step w), steady.withdrawn step w)

    kept_cancelled : (s : State) (step number : ℕ) (o : Option ℕ) → weight (cancelled s step number o) ≡ weight s
    kept_cancelled s step number None =
        omega (arith, same_numbers fa (flagged_at step) (steady.flagged step) s.active (position (λ (a : Active). a.id == number) s.active))
    kept_cancelled s step number (Some place) = kept_withdrawn s step place (slice_get s.waiting place) refl

    pub kept_cancel : (s : State) (who number : ℕ) → weight (counted s who (Cancel number)) ≡ weight s
    kept_cancel s who number = kept_cancelled s (s.entries + 1) number (position (λ (w : Waiting). w.id == number) s.waiting)

    pub kept_changed : (s : State) (who : ℕ) (setting : Setting) → weight (counted s who (Onmode setting)) ≡ weight s
    kept_changed s who (MaxPriority v) = refl
    kept_changed s who (TotalMemory v) = refl
    kept_changed s who (MaxQueries v) = refl
    kept_changed s who (MaxScans v) = refl
    kept_changed s who (NonPdq v) = refl

    pub submitted_weight : (s : State) (who p f : ℕ) → weight (counted s who (Submit p f)) ≡ weight s + fw (submitted_row s who p f)
    submitted_weight s who p f = omega (arith, sum_by_push fw s.waiting (submitted_row s who p f))

    pub more_counted : (s : State) (who : ℕ) (event : Event) → Spares who event → weight s ≤ weight (counted s who event)
    more_counted s who (OpenSession admin) spares = omega arith
    more_counted s who CloseSession spares = omega arith
    more_counted s who (Submit p f) spares = omega (arith, submitted_weight s who p f)
    more_counted s who (Collect number) spares =
        omega (
          arith,
          more_changed fa collected (λ (a : Active). a.id == number && a.session == who) s.active spares.0 (active_place s who number) refl,
          left_own fd (λ (w : Withdrawn). w.id == number && w.session == who) s.withdrawn spares.1 (withdrawn_place s who number) refl,
        )
    more_counted s who (Finish number how) spares =
        omega (arith, left_own fa (λ (a : Active). a.id == number && a.session == who) s.active spares (active_place s who number) refl)
    more_counted s who (Cancel number) spares = omega (arith, kept_cancel s who number)
    more_counted s who (Onmode setting) spares = omega (arith, kept_changed s who setting)

    pub more_after : (s : State) (who : ℕ) (event : Event) (answer : Answer) → Spares who event → weight s ≤ weight (after_answer s who event answer)
    more_after s who event (Entered r) spares = omega (arith, kept_settled (counted s who event), more_counted s who event spares)
    more_after s who event (Waits gate) spares = omega arith
    more_after s who event (Refuses why) spares = omega arith

    -- an event that takes no weight away leaves as much
    pub more_next : (s : State) (who : ℕ) (event : Event) → Spares who event → weight s ≤ weight (next s who event)
    more_next s who event spares = more_after s who event (decide s who event) spares

    -- what an event adds to the weights: that of the query it submits
    abbrev pub weight_added : State → ℕ → Event → ℕ
    weight_added s who (OpenSession admin) = 0
    weight_added s who CloseSession = 0
    weight_added s who (Submit p f) = fw (submitted_row s who p f)
    weight_added s who (Collect number) = 0
    weight_added s who (Finish number how) = 0
    weight_added s who (Cancel number) = 0
    weight_added s who (Onmode setting) = 0

    -- where a collected query weighs the same, no event adds more
    pub less_counted : ((a : Active) → fa (collected a) ≡ fa a) → (s : State) (who : ℕ) (event : Event) → weight (counted s who event) ≤ weight s + weight_added s who event
    less_counted same s who (OpenSession admin) = omega arith
    less_counted same s who CloseSession = omega arith
    less_counted same s who (Submit p f) = omega (arith, submitted_weight s who p f)
    less_counted same s who (Collect number) = omega (arith, same_numbers fa collected same s.active (active_place s who number), left_out fd s.withdrawn (withdrawn_place s who number))
    less_counted same s who (Finish number how) = omega (arith, left_out fa s.active (active_place s who number))
    less_counted same s who (Cancel number) = omega (arith, kept_cancel s who number)
    less_counted same s who (Onmode setting) = omega (arith, kept_changed s who setting)

    pub less_after : ((a : Active) → fa (collected a) ≡ fa a) → (s : State) (who : ℕ) (event : Event) (answer : Answer) → weight (after_answer s who event answer) ≤ weight s + weight_added s who event
    less_after same s who event (Entered r) = omega (arith, kept_settled (counted s who event), less_counted same s who event)
    less_after same s who event (Waits gate) = omega arith
    less_after same s who event (Refuses why) = omega arith
