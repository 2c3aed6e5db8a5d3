-- The next session is a party with no entry yet.
use Rattle.std.proofs.Common.{ℕ, ◌≡◌, ◌≢◌, ◌∙◌, ◌+◌, ◌≤◌, ◌<◌, ◌⊎◌, List, [], ◌∷◌, Option, None, Some, Bool, true, false, map, length, refl, sym, ap, inl, inr, ⊎_elim, arith}
use Rattle.std.specs.Prelude.{◌&&◌, ◌||◌, ◌==◌, is_some, option_and_then, position, slice_get, count_by, if◌then◌else◌}
use Rattle.std.proofs.lemmas.Bool.{false≢true, ne_eqb, cases_lt}
use Rattle.pdq_model.specs.declared.rows.Waiting.{Waiting}
use Rattle.pdq_model.specs.declared.rows.Active.{Active}
use Rattle.pdq_model.specs.declared.rows.Withdrawn.{Withdrawn}
use Rattle.pdq_model.specs.declared.rows.Pending.{Pending}
use Rattle.pdq_model.specs.declared.events.Entry.{Entry}
use Rattle.pdq_model.specs.declared.events.Event.{Event}
use Rattle.pdq_model.specs.declared.events.Event.TheVariants.{OpenSession, CloseSession, Submit, Collect, Finish, Cancel, Onmode}
use Rattle.pdq_model.specs.declared.events.Setting.TheVariants.{MaxPriority, TotalMemory, MaxQueries, MaxScans, NonPdq}
use Rattle.pdq_model.specs.declared.events.Reply.{Reply}
use Rattle.pdq_model.specs.declared.events.Answer.{Answer}
use Rattle.pdq_model.specs.declared.events.Answer.TheVariants.{Entered, Waits, Refuses}
use Rattle.pdq_model.specs.Configuration.{Configuration}
use Rattle.pdq_model.specs.State.{State, opening_state, next_session}
use Rattle.pdq_model.specs.Gates.{waiting_place}
use Rattle.pdq_model.specs.Settling.{take_if_idle, take_pending, settle, with_pending}
use Rattle.pdq_model.specs.Step.{decide, next, after_answer, is_open, active_row, active_place, withdrawn_place, withdraw, cancelled}
use Rattle.pdq_model.specs.History.{IsLegal, IsLegalFrom, MayOccur, may_collect, awaits_collection, was_collected, state_after, replay}
use Rattle.pdq_model.specs.Laws.{counted, queries_of, HasOwnNumbers}
use Rattle.pdq_model.proofs.Lists.{place_within, place_passes, row_at}
use Rattle.pdq_model.proofs.Heads.{settling_admits, grown_by_admissions}
use Rattle.pdq_model.proofs.Numbers.{own_next, own_opening}
use Rattle.pdq_turn.specs.LockRule.{is_among}
use Rattle.pdq_turn.proofs.History.{yes_or_no, is_among-either}
use Rattle.pdq_office.specs.Knowledge.{party_of}
use Rattle.pdq_office.proofs.Unique.{counted_row}
use Rattle.pdq_office.proofs.Knowing.{open_counted, none_added, adds_nothing}

-- how many sessions were opened never falls
opened_taken : (s : State) (o : Option Pending) → (take_if_idle s o).opened ≡ s.opened
opened_taken s None = refl
opened_taken s (Some p) = go (length s.active == 0)
  where
    go : (b : Bool) → (if b then record s { config = with_pending s.config p; pending = None } else s).opened ≡ s.opened
    go true = refl
    go false = refl

opened_settled : (s : State) → (settle s).opened ≡ s.opened
opened_settled s = (grown_by_admissions (take_pending s) (settle s) (settling_admits s)).opened ∙ opened_taken s s.pending

opened_counted : (s : State) (who : ℕ) (event : Event) → s.opened ≤ (counted s who event).opened
opened_counted s who (OpenSession admin) = omega arith
opened_counted s who CloseSession = omega arith
opened_counted s who (Submit p f) = omega arith
opened_counted s who (Collect number) = omega arith
opened_counted s who (Finish number how) = omega arith
opened_counted s who (Cancel number) = omega (arith, go (position (λ (w : Waiting). w.id == number) s.waiting))
  where
    gone : (place : ℕ) (row : Option Waiting) → (withdraw s (s.entries + 1) place row).opened ≡ s.opened
    gone place None = refl
    gone place (Some w) = refl

    go : (o : Option ℕ) → (cancelled s (s.entries + 1) number o).opened ≡ s.opened
    go None = refl
    go (Some place) = gone place (slice_get s.waiting place)
opened_counted s who (Onmode (MaxPriority v)) = omega arith
opened_counted s who (Onmode (TotalMemory v)) = omega arith
opened_counted s who (Onmode (MaxQueries v)) = omega arith
opened_counted s who (Onmode (MaxScans v)) = omega arith
opened_counted s who (Onmode (NonPdq v)) = omega arith

opened_after : (s : State) (who : ℕ) (event : Event) (answer : Answer) → s.opened ≤ (after_answer s who event answer).opened
opened_after s who event (Entered r) = omega (arith, opened_counted s who event, opened_settled (counted s who event))
opened_after s who event (Waits gate) = omega arith
opened_after s who event (Refuses why) = omega arith

-- numbers are given once, and only sessions that were opened have queries
record IsNumbered (s : State) : Type 0 where
  own : HasOwnNumbers s
  owners : (session id : ℕ) → s.opened < session → queries_of s session id ≡ 0

placed_counted : {X : Type 0} (p : X → Bool) (xs : List X) (o : Option ℕ) → position p xs ≡ o → is_some o ≡ true → 1 ≤ count_by p xs
placed_counted p xs None e some = absurd (false≢true some)
placed_counted p xs (Some k) e some =
    let row = row_at xs k (place_within p xs k e) in counted_row p xs k row.0 row.1 (place_passes p xs k row.0 e row.1)

open_number : (s : State) (who : ℕ) → HasOwnNumbers s → is_open s who ≡ true → who ≤ s.opened
open_number s who own opens = (own.opened who (open_counted s who opens)).1

active_counted : (s : State) (who id : ℕ) (o : Option ℕ) → active_place s who id ≡ o → (option_and_then (slice_get s.active) o ≢ None) → 1 ≤ count_by (λ (a : Active). a.id == id && a.session == who) s.active
active_counted s who id None e some = absurd (some refl)
active_counted s who id (Some k) e some = placed_counted (λ (a : Active). a.id == id && a.session == who) s.active (Some k) e refl

was_there : (row : Option Active) → was_collected row ≡ true → row ≢ None
was_there row e none = false≢true (sym (ap was_collected none) ∙ e)

awaits_there : (row : Option Active) → awaits_collection row ≡ true → row ≢ None
awaits_there row e none = false≢true (sym (ap awaits_collection none) ∙ e)

or_cases : (a b : Bool) → (a || b) ≡ true → (a ≡ true) ⊎ (b ≡ true)
or_cases true b e = inl refl
or_cases false b e = inr e

collected_number : (s : State) (who id : ℕ) → may_collect s who id ≡ true → queries_of s who id ≢ 0
collected_number s who id may none = ⊎_elim
    (λ r. ⊎_elim
    (λ w. absurd (omega (arith, none, placed_counted (λ (v : Waiting). v.id == id && v.session == who) s.waiting (waiting_place s who id) refl w)))
    (λ a. absurd (omega (arith, none, active_counted s who id (active_place s who id) refl (awaits_there (active_row s who id) a))))
    (or_cases (is_some (waiting_place s who id)) (awaits_collection (active_row s who id)) r))
    (λ d. absurd (omega (arith, none, placed_counted (λ (v : Withdrawn). v.id == id && v.session == who) s.withdrawn (withdrawn_place s who id) refl d)))
    (or_cases (is_some (waiting_place s who id) || awaits_collection (active_row s who id)) (is_some (withdrawn_place s who id)) may)

finished_number : (s : State) (who id : ℕ) → was_collected (active_row s who id) ≡ true → queries_of s who id ≢ 0
finished_number s who id was none = absurd (omega (arith, none, active_counted s who id (active_place s who id) refl (was_there (active_row s who id) was)))

asked_number : (s : State) (who id : ℕ) → IsNumbered s → queries_of s who id ≢ 0 → who ≤ s.opened
asked_number s who id n some = go (cases_lt s.opened who)
  where
    go : (s.opened < who) ⊎ (who ≤ s.opened) → who ≤ s.opened
    go (inl above) = absurd (some (n.owners who id above))
    go (inr below) = below

-- who makes an entry was opened, at the latest by that entry
entry_number : (s : State) (who : ℕ) (event : Event) (r : Reply) → IsNumbered s → MayOccur s who event → decide s who event ≡ Entered r → who ≤ (next s who event).opened
entry_number s who (OpenSession admin) r n may entered =
    omega (arith, may, ap (λ (a : Answer). (after_answer s who (OpenSession admin) a).opened) entered, opened_settled (counted s who (OpenSession admin)))
entry_number s who CloseSession r n may entered = omega (arith, open_number s who n.own may.session, opened_after s who CloseSession (decide s who CloseSession))
entry_number s who (Submit p f) r n may entered = omega (arith, open_number s who n.own may.session, opened_after s who (Submit p f) (decide s who (Submit p f)))
entry_number s who (Collect id) r n may entered = omega (arith, asked_number s who id n (collected_number s who id may), opened_after s who (Collect id) (decide s who (Collect id)))
entry_number s who (Finish id how) r n may entered = omega (arith, asked_number s who id n (finished_number s who id may), opened_after s who (Finish id how) (decide s who (Finish id how)))
entry_number s who (Cancel id) r n may entered = omega (arith, open_number s who n.own may, opened_after s who (Cancel id) (decide s who (Cancel id)))
entry_number s who (Onmode setting) r n may entered = omega (arith, open_number s who n.own may, opened_after s who (Onmode setting) (decide s who (Onmode setting)))

numbered_next : (s : State) (who : ℕ) (event : Event) (r : Reply) → IsNumbered s → MayOccur s who event → decide s who event ≡ Entered r → IsNumbered (next s who event)
numbered_next s who event r n may entered = record {
  own = own_next s who event n.own;
  owners = λ session id above.
      let at = entry_number s who event r n may entered in
      let up = opened_after s who event (decide s who event) in
      none_added s who session id event (decide s who event) (adds_nothing s who session id event (ne_eqb who session (λ is. absurd (omega (arith, above, at, is))))) (n.owners session id (omega (arith, above, up)));
}

-- each session with an entry was opened
opened_from : (more : List Entry) (s : State) → IsNumbered s → IsLegalFrom s more → (k : ℕ) → is_among k (map party_of more) ≡ true → k ≤ (state_after s more).opened
opened_from [] s n legal k has = absurd (false≢true has)
opened_from (e ∷ es) s n legal k has =
    let after = numbered_next s e.session e.event e.reply n legal.0 legal.1 in
    ⊎_elim
    (λ is. omega (arith, is, entry_number s e.session e.event e.reply n legal.0 legal.1, rises es (next s e.session e.event)))
    (λ later. opened_from es (next s e.session e.event) after legal.2 k later) (is_among-either k e.session (map party_of es) has)
  where
    rises : (xs : List Entry) (t : State) → t.opened ≤ (state_after t xs).opened
    rises [] t = omega arith
    rises (x ∷ xs) t = omega (arith, opened_after t x.session x.event (decide t x.session x.event), rises xs (next t x.session x.event))

-- the next session has no entry
pub next_is_new : (c : Configuration) (found : List Entry) → IsLegal c found → is_among (next_session (replay c found)) (map party_of found) ≡ false
next_is_new c found legal = ⊎_elim
    (λ has. absurd (omega (arith, opened_from found (opening_state c) (record { own = own_opening c; owners = λ session id above. refl }) legal (next_session (replay c found)) has)))
    (λ none. none) (yes_or_no (is_among (next_session (replay c found)) (map party_of found)))

numbered_from : (more : List Entry) (s : State) → IsNumbered s → IsLegalFrom s more → IsNumbered (state_after s more)
numbered_from [] s n legal = n
numbered_from (e ∷ es) s n legal = numbered_from es (next s e.session e.event) (numbered_next s e.session e.event e.reply n legal.0 legal.1) legal.2

-- nor has it a query
pub next_has_none : (c : Configuration) (found : List Entry) → IsLegal c found → (id : ℕ) → queries_of (replay c found) (next_session (replay c found)) id ≡ 0
next_has_none c found legal id =
    (numbered_from found (opening_state c) (record { own = own_opening c; owners = λ session number above. refl }) legal).owners (next_session (replay c found)) id (omega arith)
