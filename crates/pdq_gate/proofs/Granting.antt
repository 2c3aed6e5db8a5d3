-- A query that is collected, and one that ends.
use Rattle.std.proofs.Common.{◌≡◌, ◌≢◌, ◌∙◌, ℕ, ◌+◌, ◌*◌, List, [], Option, None, Some, Bool, true, false, refl, sym, ap, arith}
use Rattle.std.specs.Prelude.{IsTrue, not, ◌&&◌, ◌||◌, ◌==◌, is_some, find, position, slice_get, slice_set}
use Rattle.std.specs.List.{position_or_len}
use Rattle.std.proofs.lemmas.Grind.{common_steps}
use Rattle.std.proofs.lemmas.Bool.{false≢true, and_parts}
use Rattle.std.proofs.lemmas.Bool.Decides.{nat_tests}
use Rattle.std.proofs.lemmas.List.Folds.{find-set}
use Rattle.std.proofs.lemmas.Option.{slice_get_within, none-some}
use Rattle.pdq_model.specs.declared.rows.Waiting.{Waiting}
use Rattle.pdq_model.specs.declared.rows.Active.{Active}
use Rattle.pdq_model.specs.declared.rows.Withdrawn.{Withdrawn}
use Rattle.pdq_model.specs.declared.rows.Admit.{Admit}
use Rattle.pdq_model.specs.declared.events.How.{How}
use Rattle.pdq_model.specs.declared.events.Event.TheVariants.{Collect, Finish}
use Rattle.pdq_model.specs.declared.events.Answer.TheVariants.{Entered}
use Rattle.pdq_model.specs.declared.events.Reply.TheVariants as reply
use Rattle.pdq_model.specs.Configuration.{frames_per_quantum}
use Rattle.pdq_model.specs.State.{State}
use Rattle.pdq_model.specs.Gates.{waiting_place}
use Rattle.pdq_model.specs.Settling.{settle, admits, IsSettled}
use Rattle.pdq_model.specs.Step.{decide, next, entered, changed, without, admitted_after, granted_reply, collected, waiting_owner, active_owner, active_place, active_row, withdrawn_place}
use Rattle.pdq_model.specs.History.{may_collect, was_collected}
use Rattle.pdq_model.specs.Laws.{HasOwnNumbers}
use Rattle.pdq_model.proofs.Lists.{place_passes, place_within, row_at}
use Rattle.pdq_model.proofs.Numbers.{has_number, one_within}
use Rattle.pdq_gate.specs.declared.board.Board.{Board}
use Rattle.pdq_gate.specs.Board.{state_of}
use Rattle.pdq_gate.specs.Queries.{session_of, holder_of, active_query, with_collected, with_fetched, without_query, MayFinish, KeepsActive, KeepsOthers}
use Rattle.pdq_gate.proofs.Lookups.{place_of_both, place_found, row_found, find_none, place_none, find_changed, find_remove, first_place, find_from_place}
use Rattle.pdq_gate.proofs.Quiet.{enters_grant, enters_fetched}

-- the session of the first active query of a number
pub active_session : (s : State) (id : ℕ) (a : Active) → find (λ (x : Active). x.id == id) s.active ≡ Some a → active_owner s id ≡ Some a.session
active_session s id a first = rw (place_found (λ (x : Active). x.id == id) s.active a first, row_found (λ (x : Active). x.id == id) s.active a first) refl

no_active_session : (s : State) (id : ℕ) → find (λ (x : Active). x.id == id) s.active ≡ None → active_owner s id ≡ None
no_active_session s id none = rw (place_none (λ (x : Active). x.id == id) s.active none) refl

waiting_session : (s : State) (id : ℕ) (w : Waiting) → find (λ (x : Waiting). x.id == id) s.waiting ≡ Some w → waiting_owner s id ≡ Some w.session
waiting_session s id w first = rw (place_found (λ (x : Waiting). x.id == id) s.waiting w first, row_found (λ (x : Waiting). x.id == id) s.waiting w first) refl

no_waiting_session : (s : State) (id : ℕ) → find (λ (x : Waiting). x.id == id) s.waiting ≡ None → waiting_owner s id ≡ None
no_waiting_session s id none = rw (place_none (λ (x : Waiting). x.id == id) s.waiting none) refl

same_number : (n : ℕ) → (n == n) ≡ true
same_number n = grind (arith, nat_tests)

-- the first active query of a number is the one of its session
pub held_place : (s : State) (id : ℕ) (a : Active) → find (λ (x : Active). x.id == id) s.active ≡ Some a → active_place s a.session id ≡ Some (position_or_len (λ (x : Active). x.id == id) s.active)
held_place s id a first = place_of_both (λ (x : Active). x.id == id) (λ (x : Active). x.session == a.session) s.active a first (same_number a.session)

waits_there : (s : State) (id : ℕ) (w : Waiting) → find (λ (x : Waiting). x.id == id) s.waiting ≡ Some w → waiting_place s w.session id ≡ Some (position_or_len (λ (x : Waiting). x.id == id) s.waiting)
waits_there s id w first = place_of_both (λ (x : Waiting). x.id == id) (λ (x : Waiting). x.session == w.session) s.waiting w first (same_number w.session)

-- where the query of a number does not wait, none of that number does
none_of_it_waits : (s : State) (id : ℕ) → waiting_place s (session_of s id) id ≡ None → waiting_owner s id ≡ None
none_of_it_waits s id none = go (find (λ (x : Waiting). x.id == id) s.waiting) refl
  where
    go : (o : Option Waiting) → find (λ (x : Waiting). x.id == id) s.waiting ≡ o → waiting_owner s id ≡ None
    go None e = no_waiting_session s id e
    go (Some w) e =
        let owner : session_of s id ≡ w.session = rw (waiting_session s id w e) refl in
        absurd (none-some (position_or_len (λ (x : Waiting). x.id == id) s.waiting) (sym none ∙ ap (λ who. waiting_place s who id) owner ∙ waits_there s id w e))

-- what is known of a query that is granted
pub record IsFound (s : State) (id place : ℕ) (a : Active) : Type 0 where
  pub first : find (λ (x : Active). x.id == id) s.active ≡ Some a
  pub at_first : place ≡ position_or_len (λ (x : Active). x.id == id) s.active
  pub owner : session_of s id ≡ a.session
  pub number : (a.id == id) ≡ true

pub found : (b : Board) (id place : ℕ) (a : Active) → waiting_place (state_of b) (session_of (state_of b) id) id ≡ None → active_place (state_of b) (session_of (state_of b) id) id ≡ Some place → slice_get b.active place ≡ Some a → IsFound (state_of b) id place a
found b id place a none at there = go (find (λ (x : Active). x.id == id) b.active) refl
  where
    passes : (a.id == id && a.session == session_of (state_of b) id) ≡ true
    passes = place_passes (λ (x : Active). x.id == id && x.session == session_of (state_of b) id) b.active place a at there

    number : (a.id == id) ≡ true
    number = (and_parts (a.id == id) (a.session == session_of (state_of b) id) passes).0

    go : (o : Option Active) → find (λ (x : Active). x.id == id) b.active ≡ o → IsFound (state_of b) id place a
    go None e = absurd (false≢true (sym (find_none (λ (x : Active). x.id == id) b.active place a e there) ∙ number))
    go (Some c) e =
        let owner : session_of (state_of b) id ≡ c.session = rw (none_of_it_waits (state_of b) id none, active_session (state_of b) id c e) refl in
        let same : Some place ≡ Some (position_or_len (λ (x : Active). x.id == id) b.active) = sym at ∙ ap (λ who. active_place (state_of b) who id) owner ∙ held_place (state_of b) id c e in
        let at_first : place ≡ position_or_len (λ (x : Active). x.id == id) b.active = cc in
        let row : Some a ≡ Some c = sym there ∙ ap (slice_get b.active) at_first ∙ row_found (λ (x : Active). x.id == id) b.active c e in
        let one : c ≡ a = cc in
        record { first = e ∙ ap Some one; at_first = at_first; owner = owner ∙ ap (λ (x : Active). x.session) one; number = number }

-- a query that may be collected and does not wait is not collected
pub not_yet : (s : State) (who id place : ℕ) (a : Active) → is_some (waiting_place s who id) ≡ false → active_place s who id ≡ Some place → slice_get s.active place ≡ Some a → withdrawn_place s who id ≡ None → IsTrue (may_collect s who id) → a.collected ≡ false
not_yet s who id place a none at there gone may = go a.collected (rw (none, at, there, gone) at may)
  where
    go : (c : Bool) → (not c || false) ≡ true → c ≡ false
    go false h = refl
    go true h = absurd (false≢true h)

-- the answer to a query that is active
pub decides_grant : (b : Board) (who id place : ℕ) (a : Active) → waiting_place (state_of b) who id ≡ None → active_place (state_of b) who id ≡ Some place → slice_get b.active place ≡ Some a → decide (state_of b) who (Collect id) ≡ Entered (granted_reply a)
decides_grant b who id place a none at there = rw (none, at, there) refl

pub next_grant : (b : Board) (who id place : ℕ) (a : Active) → IsSettled (state_of b) → waiting_place (state_of b) who id ≡ None → active_place (state_of b) who id ≡ Some place → slice_get b.active place ≡ Some a → withdrawn_place (state_of b) who id ≡ None → next (state_of b) who (Collect id) ≡ with_collected (state_of b) place a
next_grant b who id place a settled none at there gone = rw (decides_grant b who id place a none at there) (enters_grant b who id place a settled at there gone)

-- the answer to a query that was withdrawn
pub decides_cancelled : (b : Board) (who id place : ℕ) (w : Withdrawn) → waiting_place (state_of b) who id ≡ None → active_place (state_of b) who id ≡ None → withdrawn_place (state_of b) who id ≡ Some place → slice_get b.withdrawn.items place ≡ Some w → decide (state_of b) who (Collect id) ≡ Entered (reply.Cancelled w.by)
decides_cancelled b who id place w none idle at there = rw (none, idle, at, there) refl

pub next_fetched : (b : Board) (who id place : ℕ) (w : Withdrawn) → IsSettled (state_of b) → waiting_place (state_of b) who id ≡ None → active_place (state_of b) who id ≡ None → withdrawn_place (state_of b) who id ≡ Some place → slice_get b.withdrawn.items place ≡ Some w → next (state_of b) who (Collect id) ≡ with_fetched (state_of b) place
next_fetched b who id place w settled none idle at there = rw (decides_cancelled b who id place w none idle at there) (enters_fetched b who id place settled idle at)

admits_none : (rows : List Active) → admits rows rows ≡ []
admits_none rows = grind (arith, common_steps)

-- a query that is granted may be finished
pub may_finish_granted : (s : State) (id place frames : ℕ) (a : Active) → IsFound s id place a → slice_get s.active place ≡ Some a → frames ≡ a.quanta * frames_per_quantum s.config → MayFinish (with_collected s place a) id frames
may_finish_granted s id place frames a is_found there given =
    rw (find-set (λ (x : Active). x.id == id) s.active place (collected a) is_found.at_first (slice_get_within s.active place a there) is_found.number) (refl, given)

pub held_granted : (s : State) (id place : ℕ) (a : Active) → IsFound s id place a → slice_get s.active place ≡ Some a → holder_of (with_collected s place a) id ≡ session_of s id
held_granted s id place a is_found there =
    let first : find (λ (x : Active). x.id == id) (with_collected s place a).active ≡ Some (collected a) = find-set (λ (x : Active). x.id == id) s.active place (collected a) is_found.at_first (slice_get_within s.active place a there) is_found.number in
    rw (active_session (with_collected s place a) id (collected a) first) (sym is_found.owner)

other_number : (a : Active) (id other : ℕ) → (a.id == id) ≡ true → other ≢ id → (a.id == other) ≡ false
other_number a id other number differ = let same : a.id ≡ id = grind (arith, nat_tests) in grind (arith, nat_tests)

pub others_granted : (s : State) (id place : ℕ) (a : Active) → (a.id == id) ≡ true → slice_get s.active place ≡ Some a → KeepsOthers id s (with_collected s place a)
others_granted s id place a number there = record {
  each = λ other differ some. find_changed (λ (x : Active). x.id == other) s.active place a (collected a) there (other_number a id other number differ) (other_number (collected a) id other number differ);
}

-- what is finished
pub next_finish : (b : Board) (id place : ℕ) (how : How) (a : Active) → find (λ (x : Active). x.id == id) b.active ≡ Some a → position (λ (x : Active). x.id == id) b.active ≡ Some place → next (state_of b) (holder_of (state_of b) id) (Finish id how) ≡ settle (without_query (state_of b) place)
next_finish b id place how a first at = rw (holds, held) refl
  where
    holds : active_owner (state_of b) id ≡ Some a.session
    holds = active_session (state_of b) id a first

    held : active_place (state_of b) a.session id ≡ Some place
    held = held_place (state_of b) id a first ∙ ap Some (first_place (λ (x : Active). x.id == id) b.active place at)

pub finish_place : (b : Board) (id place : ℕ) (a : Active) → find (λ (x : Active). x.id == id) b.active ≡ Some a → position (λ (x : Active). x.id == id) b.active ≡ Some place → active_place (state_of b) a.session id ≡ Some place
finish_place b id place a first at = held_place (state_of b) id a first ∙ ap Some (first_place (λ (x : Active). x.id == id) b.active place at)

pub admitted_finish : (b : Board) (id place : ℕ) (how : How) (a : Active) (before : List Admit) → find (λ (x : Active). x.id == id) b.active ≡ Some a → position (λ (x : Active). x.id == id) b.active ≡ Some place → admitted_after (state_of b) (holder_of (state_of b) id) (Finish id how) before ≡ admits (without_query (state_of b) place).active (settle (without_query (state_of b) place)).active
admitted_finish b id place how a before first at = rw (active_session (state_of b) id a first, finish_place b id place a first at) refl

-- a query that leaves is the one of its number
pub others_without : (s t : State) (id place : ℕ) (a : Active) → find (λ (x : Active). x.id == id) s.active ≡ Some a → slice_get s.active place ≡ Some a → (a.id == id) ≡ true → KeepsActive (without_query s place) t → KeepsOthers id s t
others_without s t id place a first there number keeps = record {
  each = λ other differ some.
      let same : active_query (without_query s place) other ≡ active_query s other = find_remove (λ (x : Active). x.id == other) s.active place a there (other_number a id other number differ) in
      keeps.each other (rw same some) ∙ same;
}

pub number_of : (s : State) (id place : ℕ) (a : Active) → position (λ (x : Active). x.id == id) s.active ≡ Some place → slice_get s.active place ≡ Some a → (a.id == id) ≡ true
number_of s id place a at there = place_passes (λ (x : Active). x.id == id) s.active place a at there

pub finishes : (b : Board) (id place : ℕ) (how : How) (a : Active) → active_place (state_of b) a.session id ≡ Some place → record (changed (state_of b) a.session (Finish id how)) { entries = b.entries + 1 } ≡ without_query (state_of b) place
finishes b id place how a at = ap (λ (o : Option ℕ). record (state_of b) { active = without b.active o; entries = b.entries + 1 }) at

-- the query that may be finished is collected, and the region has its frames
pub held_row : (s : State) (id place frames : ℕ) (a : Active) → position (λ (x : Active). x.id == id) s.active ≡ Some place → slice_get s.active place ≡ Some a → MayFinish s id frames → (a.collected ≡ true) × (frames ≡ a.quanta * frames_per_quantum s.config)
held_row s id place frames a at there may = rw (find_from_place (λ (x : Active). x.id == id) s.active place a at there) at may

pub no_query : (s : State) (id frames : ℕ) → position (λ (x : Active). x.id == id) s.active ≡ None → MayFinish s id frames → ⊥
no_query s id frames none may = go (find (λ (x : Active). x.id == id) s.active) refl
  where
    go : (o : Option Active) → find (λ (x : Active). x.id == id) s.active ≡ o → ⊥
    go None e = rw e at may
    go (Some a) e = none-some (position_or_len (λ (x : Active). x.id == id) s.active) (sym none ∙ place_found (λ (x : Active). x.id == id) s.active a e)

-- what is admitted at a collect: nobody
pub admitted_grant : (b : Board) (who id place : ℕ) (a : Active) (before : List Admit) → IsSettled (state_of b) → waiting_place (state_of b) who id ≡ None → active_place (state_of b) who id ≡ Some place → slice_get b.active place ≡ Some a → withdrawn_place (state_of b) who id ≡ None → admitted_after (state_of b) who (Collect id) before ≡ []
admitted_grant b who id place a before settled none at there gone =
    rw (decides_grant b who id place a none at there)
    (let e : (entered (state_of b) who (Collect id)).active ≡ slice_set b.active place (collected a) = ap (λ (s : State). s.active) (enters_grant b who id place a settled at there gone) in
    let f : (changed (state_of b) who (Collect id)).active ≡ slice_set b.active place (collected a) = rw (at, there) refl in
    rw (e, f) (admits_none (slice_set b.active place (collected a))))

pub admitted_fetched : (b : Board) (who id place : ℕ) (w : Withdrawn) (before : List Admit) → IsSettled (state_of b) → waiting_place (state_of b) who id ≡ None → active_place (state_of b) who id ≡ None → withdrawn_place (state_of b) who id ≡ Some place → slice_get b.withdrawn.items place ≡ Some w → admitted_after (state_of b) who (Collect id) before ≡ []
admitted_fetched b who id place w before settled none idle at there =
    rw (decides_cancelled b who id place w none idle at there)
    (let e : (entered (state_of b) who (Collect id)).active ≡ b.active = ap (λ (s : State). s.active) (enters_fetched b who id place settled idle at) in
    let f : (changed (state_of b) who (Collect id)).active ≡ b.active = rw idle refl in
    rw (e, f) (admits_none b.active))

-- a query that is active was not withdrawn
pub not_withdrawn : (s : State) (who id place : ℕ) (a : Active) → HasOwnNumbers s → active_place s who id ≡ Some place → slice_get s.active place ≡ Some a → withdrawn_place s who id ≡ None
not_withdrawn s who id place a own at there = go (withdrawn_place s who id) refl
  where
    number : (a.id == id) ≡ true
    number = (and_parts (a.id == id) (a.session == who) (place_passes (λ (x : Active). x.id == id && x.session == who) s.active place a at there)).0

    go : (o : Option ℕ) → withdrawn_place s who id ≡ o → o ≡ None
    go None e = refl
    go (Some k) e =
        let row = row_at s.withdrawn k (place_within (λ (x : Withdrawn). x.id == id && x.session == who) s.withdrawn k e) in
        let theirs = (and_parts (row.0.id == id) (row.0.session == who) (place_passes (λ (x : Withdrawn). x.id == id && x.session == who) s.withdrawn k row.0 e row.1)).0 in
        let one : has_number id a.id ≡ 1 = rw number refl in
        let two : has_number id row.0.id ≡ 1 = rw theirs refl in
        absurd (omega (arith, own.queries id, one_within (λ (x : Active). has_number id x.id) s.active place a there, one_within (λ (x : Withdrawn). has_number id x.id) s.withdrawn k row.0 row.1, one, two))

pub first_held : (s : State) (id place : ℕ) (a : Active) → position (λ (x : Active). x.id == id) s.active ≡ Some place → slice_get s.active place ≡ Some a → find (λ (x : Active). x.id == id) s.active ≡ Some a
first_held s id place a at there = find_from_place (λ (x : Active). x.id == id) s.active place a at there

-- a query that does not wait has no place among those that do
pub no_place_waits : (o : Option ℕ) → is_some o ≡ false → o ≡ None
no_place_waits None e = refl
no_place_waits (Some k) e = absurd (false≢true (sym e))

-- a query that may be finished is its holder's
pub finish_occurs : (s : State) (id frames : ℕ) → MayFinish s id frames → IsTrue (was_collected (active_row s (holder_of s id) id))
finish_occurs s id frames may = go (find (λ (x : Active). x.id == id) s.active) refl
  where
    go : (o : Option Active) → find (λ (x : Active). x.id == id) s.active ≡ o → IsTrue (was_collected (active_row s (holder_of s id) id))
    go None e = absurd (rw e at may)
    go (Some a) e =
        let held : (a.collected ≡ true) × (frames ≡ a.quanta * frames_per_quantum s.config) = rw e at may in
        rw (active_session s id a e, held_place s id a e, row_found (λ (x : Active). x.id == id) s.active a e) held.0
