-- A query stays to be collected, or collected, until its owner acts.
use Rattle.std.proofs.Common.{ℕ, ◌≡◌, ◌≢◌, ◌∙◌, ◌+◌, ◌*◌, ◌≤◌, List, [], ◌∷◌, Option, None, Some, Bool, true, false, length, refl, sym, ap, arith}
use Rattle.std.specs.Prelude.{◌&&◌, ◌==◌, not, nat_lt, if◌then◌else◌, sum_by, position, slice_get}
use Rattle.std.proofs.lemmas.Bool.{and_parts, eqb-true, eq-eqb, false≢true, both_ways}
use Rattle.pdq_model.specs.declared.rows.Waiting.{Waiting}
use Rattle.pdq_model.specs.declared.rows.Active.{Active}
use Rattle.pdq_model.specs.declared.rows.Withdrawn.{Withdrawn}
use Rattle.pdq_model.specs.declared.rows.Pending.{Pending}
use Rattle.pdq_model.specs.declared.events.Event.{Event}
use Rattle.pdq_model.specs.declared.events.Event.TheVariants.{OpenSession, CloseSession, Submit, Collect, Finish, Cancel, Onmode}
use Rattle.pdq_model.specs.declared.events.Setting.{Setting}
use Rattle.pdq_model.specs.declared.events.Setting.TheVariants.{MaxPriority, TotalMemory, MaxQueries, MaxScans, NonPdq}
use Rattle.pdq_model.specs.declared.events.Entry.{Entry}
use Rattle.pdq_model.specs.declared.events.Answer.{Answer}
use Rattle.pdq_model.specs.declared.events.Answer.TheVariants.{Entered, Waits, Refuses}
use Rattle.pdq_model.specs.Configuration.{frames_per_quantum}
use Rattle.pdq_model.specs.State.{State, next_query}
use Rattle.pdq_model.specs.declared.events.Reply.{Reply}
use Rattle.pdq_model.specs.Settling.{overtaken_by, admitted_row, take_if_idle, take_pending, settle}
use Rattle.pdq_model.specs.Step.{decide, next, after_answer, submitted_row, withdraw, cancelled}
use Rattle.pdq_model.specs.History.{state_after}
use Rattle.pdq_model.specs.Laws.{counted}
use Rattle.pdq_model.proofs.Heads.{settling_admits, grown_by_admissions}
use Rattle.pdq_model.specs.Kept.{to_collect, lent, is_taken_by, leaves_query, TicketsStay, LoansStay, IsLent}
use Rattle.pdq_model.proofs.Owners.{one_if}
use Rattle.pdq_model.proofs.Weights.{weight, IsSteady, Spares, more_counted, more_after, kept_settled, submitted_weight}

-- what is not the one query weighs nothing
pub other_query : (a b c d e f : ℕ) → (a == c && b == d) ≡ true → (d == f && c == e) ≡ false → (a == e && b == f) ≡ false
other_query a b c d e f this other = go (a == e && b == f) refl
  where
    go : (x : Bool) → (a == e && b == f) ≡ x → x ≡ false
    go false is = refl
    go true is =
        let p = and_parts (a == c) (b == d) this in
        let q = and_parts (a == e) (b == f) is in
        let ce : c ≡ e = sym (eqb-true a c p.0) ∙ eqb-true a e q.0 in
        let df : d ≡ f = sym (eqb-true b d p.1) ∙ eqb-true b f q.1 in
        absurd (both_ways (d == f && c == e) other (rw (eq-eqb d f df, eq-eqb c e ce) refl))

pub not_true : (b : Bool) → not b ≡ true → b ≡ false
not_true true e = absurd (false≢true e)
not_true false e = refl

module _ (session id : ℕ) where
  abbrev is_it : ℕ → ℕ → Bool
  is_it number who = number == id && who == session

  overtaken_it : (k : ℕ) (v : Waiting) → one_if (is_it (overtaken_by k v).id (overtaken_by k v).session) ≡ one_if (is_it v.id v.session)
  overtaken_it k v = go (nat_lt v.id k)
    where
      go : (b : Bool) → one_if (is_it (if b then record v { overtaken = v.overtaken + 1 } else v).id (if b then record v { overtaken = v.overtaken + 1 } else v).session) ≡ one_if (is_it v.id v.session)
      go true = refl
      go false = refl

  same_uncollected : (b : Bool) → one_if (b && true) ≡ one_if b
  same_uncollected true = refl
  same_uncollected false = refl

  none_lent : (b c : Bool) → one_if (b && (false && c)) ≡ 0
  none_lent true c = refl
  none_lent false c = refl

  abbrev ticket_waiting : Waiting → ℕ
  ticket_waiting w = one_if (is_it w.id w.session)

  abbrev ticket_active : Active → ℕ
  ticket_active a = one_if (is_it a.id a.session && not a.collected)

  abbrev ticket_withdrawn : Withdrawn → ℕ
  ticket_withdrawn w = one_if (is_it w.id w.session)

  tickets_steady : IsSteady ticket_waiting ticket_active ticket_withdrawn
  tickets_steady = record {
    admitted = λ c w. same_uncollected (is_it w.id w.session);
    overtaken = overtaken_it;
    flagged = λ step a. refl;
    withdrawn = λ step w. refl;
  }

  no_weight : (b c : Bool) → b ≡ false → one_if (b && c) ≡ 0
  no_weight true c e = absurd (false≢true (sym e))
  no_weight false c e = refl

  no_weight_alone : (b : Bool) → b ≡ false → one_if b ≡ 0
  no_weight_alone b e = rw e refl

  tickets_spared : (who : ℕ) (event : Event) → (who == session && is_taken_by id event) ≡ false → Spares ticket_waiting ticket_active ticket_withdrawn who event
  tickets_spared who (OpenSession admin) apart = tt
  tickets_spared who CloseSession apart = tt
  tickets_spared who (Submit p f) apart = tt
  tickets_spared who (Collect number) apart = (
    λ a this. omega (arith, no_weight (is_it a.id a.session) (not a.collected) (other_query a.id a.session number who id session this apart)),
    λ w this. no_weight_alone (is_it w.id w.session) (other_query w.id w.session number who id session this apart),
  )
  tickets_spared who (Finish number how) apart = λ a this. no_weight (is_it a.id a.session) (not a.collected) (other_query a.id a.session number who id session this apart)
  tickets_spared who (Cancel number) apart = tt
  tickets_spared who (Onmode setting) apart = tt

  pub ticket_after : (s : State) (who : ℕ) (event : Event) (answer : Answer) → (who == session && is_taken_by id event) ≡ false → to_collect s session id ≤ to_collect (after_answer s who event answer) session id
  ticket_after s who event answer apart = more_after ticket_waiting ticket_active ticket_withdrawn tickets_steady s who event answer (tickets_spared who event apart)

  -- a query that is submitted is to be collected
  pub ticket_sent : (s : State) (p f : ℕ) (r : Reply) → next_query s ≡ id → to_collect (after_answer s session (Submit p f) (Entered r)) session id ≢ 0
  ticket_sent s p f r is none = absurd (omega (arith, none, kept_settled ticket_waiting ticket_active ticket_withdrawn tickets_steady (counted s session (Submit p f)), submitted_weight ticket_waiting ticket_active ticket_withdrawn tickets_steady s session p f, its_own))
    where
      its_own : ticket_waiting (submitted_row s session p f) ≡ 1
      its_own = rw (eq-eqb (next_query s) id is, eq-eqb session session refl) refl

  pub ticket_on : (more : List Entry) (s : State) → leaves_query session id more ≡ true → to_collect s session id ≢ 0 → to_collect (state_after s more) session id ≢ 0
  ticket_on [] s leaves has = has
  ticket_on (e ∷ es) s leaves has =
      let parts = and_parts (not (e.session == session && is_taken_by id e.event)) (leaves_query session id es) leaves in
      let grown = ticket_after s e.session e.event (decide s e.session e.event) (not_true (e.session == session && is_taken_by id e.event) parts.0) in
      ticket_on es (next s e.session e.event) parts.1 (λ none. has (omega (arith, grown, none)))

  module _ (quanta : ℕ) where
    abbrev loan_waiting : Waiting → ℕ
    loan_waiting w = 0

    abbrev loan_active : Active → ℕ
    loan_active a = one_if (is_it a.id a.session && (a.collected && a.quanta == quanta))

    abbrev loan_withdrawn : Withdrawn → ℕ
    loan_withdrawn w = 0

    abbrev loan_weight : State → ℕ
    loan_weight s = weight loan_waiting loan_active loan_withdrawn s

    loans_steady : IsSteady loan_waiting loan_active loan_withdrawn
    loans_steady = record {
      admitted = λ c w. none_lent (is_it w.id w.session) ((admitted_row c w).quanta == quanta);
      overtaken = λ k w. refl;
      flagged = λ step a. refl;
      withdrawn = λ step w. refl;
    }

    loans_spared : (who : ℕ) (event : Event) → (who == session && is_taken_by id event) ≡ false → Spares loan_waiting loan_active loan_withdrawn who event
    loans_spared who (OpenSession admin) apart = tt
    loans_spared who CloseSession apart = tt
    loans_spared who (Submit p f) apart = tt
    loans_spared who (Collect number) apart = (
      λ a this. omega (arith, no_weight (is_it a.id a.session) (a.collected && a.quanta == quanta) (other_query a.id a.session number who id session this apart)),
      λ w this. refl,
    )
    loans_spared who (Finish number how) apart = λ a this. no_weight (is_it a.id a.session) (a.collected && a.quanta == quanta) (other_query a.id a.session number who id session this apart)
    loans_spared who (Cancel number) apart = tt
    loans_spared who (Onmode setting) apart = tt

    sum_of_none : {X : Type 0} (xs : List X) → sum_by (λ x. 0) xs ≡ 0
    sum_of_none [] = refl
    sum_of_none (x ∷ xs) = sum_of_none xs

    weighs : (s : State) → loan_weight s ≡ lent s session id quanta
    weighs s = omega (arith, sum_of_none s.waiting, sum_of_none s.withdrawn)

    -- what is lent is active
    some_active : (s : State) → lent s session id quanta ≢ 0 → (length s.active == 0) ≡ false
    some_active s has = go (length s.active == 0) refl
      where
        none : (xs : List Active) → (length xs == 0) ≡ true → sum_by loan_active xs ≡ 0
        none [] e = refl
        none (x ∷ xs) e = absurd (omega (arith, eqb-true (length (x ∷ xs)) 0 e))

        go : (b : Bool) → (length s.active == 0) ≡ b → b ≡ false
        go false e = refl
        go true e = absurd (has (none s.active e))

    same_config : (s : State) (o : Option Pending) → (length s.active == 0) ≡ false → (take_if_idle s o).config ≡ s.config
    same_config s None busy = refl
    same_config s (Some p) busy = rw busy refl

    same_settled : (s : State) → lent s session id quanta ≢ 0 → (settle s).config ≡ s.config
    same_settled s has = (grown_by_admissions (take_pending s) (settle s) (settling_admits s)).config ∙ same_config s s.pending (some_active s has)

    same_frames_set : (s : State) (who : ℕ) (setting : Setting) → frames_per_quantum (counted s who (Onmode setting)).config ≡ frames_per_quantum s.config
    same_frames_set s who (MaxPriority v) = refl
    same_frames_set s who (TotalMemory v) = refl
    same_frames_set s who (MaxQueries v) = refl
    same_frames_set s who (MaxScans v) = refl
    same_frames_set s who (NonPdq v) = refl

    same_cancelled : (s : State) (who number : ℕ) → (counted s who (Cancel number)).config ≡ s.config
    same_cancelled s who number = go (position (λ (w : Waiting). w.id == number) s.waiting)
      where
        gone : (place : ℕ) (row : Option Waiting) → (withdraw s (s.entries + 1) place row).config ≡ s.config
        gone place None = refl
        gone place (Some w) = refl

        go : (o : Option ℕ) → (cancelled s (s.entries + 1) number o).config ≡ s.config
        go None = refl
        go (Some place) = gone place (slice_get s.waiting place)

    same_frames : (s : State) (who : ℕ) (event : Event) → frames_per_quantum (counted s who event).config ≡ frames_per_quantum s.config
    same_frames s who (OpenSession admin) = refl
    same_frames s who CloseSession = refl
    same_frames s who (Submit p f) = refl
    same_frames s who (Collect number) = refl
    same_frames s who (Finish number how) = refl
    same_frames s who (Cancel number) = ap frames_per_quantum (same_cancelled s who number)
    same_frames s who (Onmode setting) = same_frames_set s who setting

    loan_counted : (s : State) (who : ℕ) (event : Event) → (who == session && is_taken_by id event) ≡ false → lent s session id quanta ≢ 0 → lent (counted s who event) session id quanta ≢ 0
    loan_counted s who event apart has none = has (omega (arith, none, weighs s, weighs (counted s who event), more_counted loan_waiting loan_active loan_withdrawn loans_steady s who event (loans_spared who event apart)))

    frames_after : (s : State) (who : ℕ) (event : Event) (answer : Answer) → (who == session && is_taken_by id event) ≡ false → lent s session id quanta ≢ 0 → frames_per_quantum (after_answer s who event answer).config ≡ frames_per_quantum s.config
    frames_after s who event (Entered r) apart has = ap frames_per_quantum (same_settled (counted s who event) (loan_counted s who event apart has)) ∙ same_frames s who event
    frames_after s who event (Waits gate) apart has = refl
    frames_after s who event (Refuses why) apart has = refl

    pub loan_after : (s : State) (who : ℕ) (event : Event) (answer : Answer) → (who == session && is_taken_by id event) ≡ false → lent s session id quanta ≢ 0
        → (lent (after_answer s who event answer) session id quanta ≢ 0) × (frames_per_quantum (after_answer s who event answer).config ≡ frames_per_quantum s.config)
    loan_after s who event answer apart has = (
      λ none. has (omega (arith, none, weighs s, weighs (after_answer s who event answer), more_after loan_waiting loan_active loan_withdrawn loans_steady s who event answer (loans_spared who event apart))),
      frames_after s who event answer apart has,
    )

  pub lent_after : (frames : ℕ) (s : State) (who : ℕ) (event : Event) (answer : Answer) → (who == session && is_taken_by id event) ≡ false → IsLent s session id frames → IsLent (after_answer s who event answer) session id frames
  lent_after frames s who event answer apart has = let kept = loan_after has.0 s who event answer apart has.1 in (has.0, kept.0, has.2 ∙ ap (λ f. has.0 * f) (sym kept.1))

  pub loan_on : (frames : ℕ) (more : List Entry) (s : State) → leaves_query session id more ≡ true → IsLent s session id frames → IsLent (state_after s more) session id frames
  loan_on frames [] s leaves has = has
  loan_on frames (e ∷ es) s leaves has =
      let parts = and_parts (not (e.session == session && is_taken_by id e.event)) (leaves_query session id es) leaves in
      let kept = loan_after has.0 s e.session e.event (decide s e.session e.event) (not_true (e.session == session && is_taken_by id e.event) parts.0) has.1 in
      loan_on frames es (next s e.session e.event) parts.1 (has.0, kept.0, has.2 ∙ ap (λ f. has.0 * f) (sym kept.1))

pub tickets_stay : TicketsStay
tickets_stay s session id more leaves has = ticket_on session id more s leaves has

pub loans_stay : LoansStay
loans_stay s session id frames more leaves has = loan_on session id frames more s leaves has
