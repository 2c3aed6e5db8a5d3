-- An event adds no query to a session but the one that it submits, and one that ends is gone.
use Rattle.std.proofs.Common.{ℕ, ◌≡◌, ◌∙◌, ◌+◌, ◌≤◌, List, [], ◌∷◌, Option, None, Some, Bool, true, false, length, refl, ap, arith}
use Rattle.std.specs.Prelude.{◌&&◌, ◌==◌, if◌then◌else◌, sum_by, count_by, position, slice_get, is_some}
use Rattle.std.proofs.lemmas.Bool.{eqb-true, false≢true}
use Rattle.std.proofs.lemmas.List.Sums.{sum_by-cons, sum_by_push}
use Rattle.pdq_model.specs.declared.rows.Waiting.{Waiting}
use Rattle.pdq_model.specs.declared.rows.Active.{Active}
use Rattle.pdq_model.specs.declared.rows.Withdrawn.{Withdrawn}
use Rattle.pdq_model.specs.declared.rows.Session.{Session}
use Rattle.pdq_model.specs.declared.rows.Pending.{Pending}
use Rattle.pdq_model.specs.declared.events.Event.{Event}
use Rattle.pdq_model.specs.declared.events.Event.TheVariants.{OpenSession, CloseSession, Submit, Collect, Finish, Cancel, Onmode}
use Rattle.pdq_model.specs.declared.events.How.{How}
use Rattle.pdq_model.specs.declared.events.Setting.TheVariants.{MaxPriority, TotalMemory, MaxQueries, MaxScans, NonPdq}
use Rattle.pdq_model.specs.declared.events.Reply.{Reply}
use Rattle.pdq_model.specs.declared.events.Answer.{Answer}
use Rattle.pdq_model.specs.declared.events.Answer.TheVariants.{Entered, Waits, Refuses}
use Rattle.pdq_model.specs.State.{State}
use Rattle.pdq_model.specs.Settling.{take_if_idle, take_pending, settle, with_pending}
use Rattle.pdq_model.specs.Step.{after_answer, without, collected, withdraw, cancelled, active_place, withdrawn_place, session_place}
use Rattle.pdq_model.specs.Laws.{counted, queries_of, queries_numbered, sessions_numbered, HasOwnNumbers}
use Rattle.pdq_model.proofs.Lists.{sum_by_without, row_at, place_within, place_passes}
use Rattle.pdq_model.proofs.Heads.{settling_admits, grown_by_admissions}
use Rattle.pdq_model.proofs.Numbers.{same_numbers}
use Rattle.pdq_model.specs.Kept.{added_by, is_closing, OnlySubmitsAdd, SessionsStay}
use Rattle.pdq_model.proofs.Weights.{kept_settled, left_own, less_after, weight_added}
use Rattle.pdq_model.proofs.Owners.{one_if, of_waiting, of_active, of_withdrawn, owned_steady}

-- the row that leaves is taken off
taken_out : {X : Type 0} (f : X → ℕ) (p : X → Bool) (xs : List X) → ((x : X) → p x ≡ true → f x ≡ 1) → (o : Option ℕ) → position p xs ≡ o → is_some o ≡ true → sum_by f (without xs o) + 1 ≡ sum_by f xs
taken_out f p xs one None e some = absurd (false≢true some)
taken_out f p xs one (Some k) e some =
    let row = row_at xs k (place_within p xs k e) in
    omega (arith, sum_by_without f xs k row.0 row.1, one row.0 (place_passes p xs k row.0 e row.1))

module _ (session id : ℕ) where
  -- what is added is the query that is submitted
  added_is : (s : State) (who : ℕ) (event : Event) → weight_added (of_waiting session id) (of_active session id) (of_withdrawn session id) (owned_steady session id) s who event ≡ added_by s who event session id
  added_is s who (OpenSession admin) = refl
  added_is s who CloseSession = refl
  added_is s who (Submit p f) = refl
  added_is s who (Collect number) = refl
  added_is s who (Finish number how) = refl
  added_is s who (Cancel number) = refl
  added_is s who (Onmode setting) = refl

  pub fewer_after : (s : State) (who : ℕ) (event : Event) (answer : Answer) → queries_of (after_answer s who event answer) session id ≤ queries_of s session id + added_by s who event session id
  fewer_after s who event answer = omega (arith, added_is s who event, less_after (of_waiting session id) (of_active session id) (of_withdrawn session id) (owned_steady session id) (λ a. refl) s who event answer)

  its_weight : (a : ℕ) (b : ℕ) → (a == id && b == session) ≡ true → one_if (a == id && b == session) ≡ 1
  its_weight a b e = rw e refl

  within_numbered : (s : State) → queries_of s session id ≤ queries_numbered s id
  within_numbered s = omega (arith, fewer s.waiting, fewer_a s.active, fewer_d s.withdrawn)
    where
      both : (a b : Bool) → one_if (a && b) ≤ one_if a
      both true true = omega arith
      both true false = omega arith
      both false b = omega arith

      fewer : (xs : List Waiting) → count_by (λ w. w.id == id && w.session == session) xs ≤ count_by (λ w. w.id == id) xs
      fewer [] = omega arith
      fewer (x ∷ xs) = omega (arith, sum_by-cons (of_waiting session id) x xs, sum_by-cons (λ (w : Waiting). one_if (w.id == id)) x xs, both (x.id == id) (x.session == session), fewer xs)

      fewer_a : (xs : List Active) → count_by (λ w. w.id == id && w.session == session) xs ≤ count_by (λ w. w.id == id) xs
      fewer_a [] = omega arith
      fewer_a (x ∷ xs) = omega (arith, sum_by-cons (of_active session id) x xs, sum_by-cons (λ (w : Active). one_if (w.id == id)) x xs, both (x.id == id) (x.session == session), fewer_a xs)

      fewer_d : (xs : List Withdrawn) → count_by (λ w. w.id == id && w.session == session) xs ≤ count_by (λ w. w.id == id) xs
      fewer_d [] = omega arith
      fewer_d (x ∷ xs) = omega (arith, sum_by-cons (of_withdrawn session id) x xs, sum_by-cons (λ (w : Withdrawn). one_if (w.id == id)) x xs, both (x.id == id) (x.session == session), fewer_d xs)

  -- a query that is finished is gone
  pub finished_gone : (s : State) (how : How) (r : Reply) → HasOwnNumbers s → is_some (active_place s session id) ≡ true → queries_of (after_answer s session (Finish id how) (Entered r)) session id ≡ 0
  finished_gone s how r own there =
      omega (
        arith,
        own.queries id,
        within_numbered s,
        kept_settled (of_waiting session id) (of_active session id) (of_withdrawn session id) (owned_steady session id) (counted s session (Finish id how)),
        taken_out (of_active session id) (λ (a : Active). a.id == id && a.session == session) s.active (λ a e. its_weight a.id a.session e) (active_place s session id) refl there,
      )

  -- so is one that was withdrawn and is told so
  pub told_gone : (s : State) (r : Reply) → HasOwnNumbers s → is_some (withdrawn_place s session id) ≡ true → queries_of (after_answer s session (Collect id) (Entered r)) session id ≡ 0
  told_gone s r own there =
      omega (
        arith,
        own.queries id,
        within_numbered s,
        kept_settled (of_waiting session id) (of_active session id) (of_withdrawn session id) (owned_steady session id) (counted s session (Collect id)),
        same_numbers (of_active session id) collected (λ a. refl) s.active (active_place s session id),
        taken_out (of_withdrawn session id) (λ (w : Withdrawn). w.id == id && w.session == session) s.withdrawn (λ w e. its_weight w.id w.session e) (withdrawn_place s session id) refl there,
      )

module _ (session : ℕ) where
  -- a session stays open until it closes
  sessions_counted : (s : State) (who : ℕ) (event : Event) → (who == session && is_closing event) ≡ false → sessions_numbered s session ≤ sessions_numbered (counted s who event) session
  sessions_counted s who (OpenSession admin) apart = omega (arith, sum_by_push (λ (x : Session). one_if (x.number == session)) s.sessions (record { number = s.opened + 1; admin = admin }))
  sessions_counted s who CloseSession apart =
      omega (
        arith,
        left_own (λ (x : Session). one_if (x.number == session)) (λ (x : Session). x.number == who) s.sessions
            (λ x e. ap (λ (b : Bool). one_if b) (ap (λ (k : ℕ). k == session) (eqb-true x.number who e) ∙ first who apart)) (session_place s who) refl,
      )
    where
      first : (k : ℕ) → (k == session && true) ≡ false → (k == session) ≡ false
      first k e = go (k == session) e
        where
          go : (b : Bool) → (b && true) ≡ false → b ≡ false
          go true e = e
          go false e = refl
  sessions_counted s who (Submit p f) apart = omega arith
  sessions_counted s who (Collect number) apart = omega arith
  sessions_counted s who (Finish number how) apart = omega arith
  sessions_counted s who (Cancel number) apart = omega (arith, ap (λ (xs : List Session). count_by (λ x. x.number == session) xs) (go (position (λ (w : Waiting). w.id == number) s.waiting)))
    where
      gone : (place : ℕ) (row : Option Waiting) → (withdraw s (s.entries + 1) place row).sessions ≡ s.sessions
      gone place None = refl
      gone place (Some w) = refl

      go : (o : Option ℕ) → (cancelled s (s.entries + 1) number o).sessions ≡ s.sessions
      go None = refl
      go (Some place) = gone place (slice_get s.waiting place)
  sessions_counted s who (Onmode (MaxPriority v)) apart = omega arith
  sessions_counted s who (Onmode (TotalMemory v)) apart = omega arith
  sessions_counted s who (Onmode (MaxQueries v)) apart = omega arith
  sessions_counted s who (Onmode (MaxScans v)) apart = omega arith
  sessions_counted s who (Onmode (NonPdq v)) apart = omega arith

  same_taken : (s : State) (o : Option Pending) → (take_if_idle s o).sessions ≡ s.sessions
  same_taken s None = refl
  same_taken s (Some p) = go (length s.active == 0)
    where
      go : (b : Bool) → (if b then record s { config = with_pending s.config p; pending = None } else s).sessions ≡ s.sessions
      go true = refl
      go false = refl

  pub same_sessions : (s : State) → (settle s).sessions ≡ s.sessions
  same_sessions s = (grown_by_admissions (take_pending s) (settle s) (settling_admits s)).sessions ∙ same_taken s s.pending

  pub sessions_after : (s : State) (who : ℕ) (event : Event) (answer : Answer) → (who == session && is_closing event) ≡ false → sessions_numbered s session ≤ sessions_numbered (after_answer s who event answer) session
  sessions_after s who event (Entered r) apart = omega (arith, sessions_counted s who event apart, ap (λ (xs : List Session). count_by (λ x. x.number == session) xs) (same_sessions (counted s who event)))
  sessions_after s who event (Waits gate) apart = omega arith
  sessions_after s who event (Refuses why) apart = omega arith

pub only_submits_add : OnlySubmitsAdd
only_submits_add s who event answer session id = fewer_after session id s who event answer

pub sessions_stay : SessionsStay
sessions_stay s who event answer session apart = sessions_after session s who event answer apart
