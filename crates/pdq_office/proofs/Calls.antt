-- What each call of the office leaves, from what its turn was.
use Rattle.std.proofs.Common.{ℕ, ◌≡◌, ◌≢◌, ◌∙◌, ◌⊎◌, List, [], ◌∷◌, ◌++◌, Option, None, Some, Bool, true, false, drop, map, length, refl, sym, ap, subst, inl, inr, arith, length-append}
use Rattle.std.specs.Prelude.{◌-◌, ◌&&◌, ◌||◌, ◌==◌, unwrap_or, ◌*◌, IsTrue, IsSome, IsSomeAnd, if◌then◌else◌}
use Rattle.std.proofs.Math.Seq.{drop-append_seam, drop-length}
use Rattle.std.proofs.lemmas.Bool.{eq-eqb, ne_eqb, eqb-true, false≢true, cases_eq}
use Rattle.pdq_model.specs.declared.events.Entry.{Entry}
use Rattle.pdq_model.specs.declared.events.Event.{Event}
use Rattle.pdq_model.specs.declared.events.Event.TheVariants.{CloseSession}
use Rattle.pdq_model.specs.declared.events.Answer.{Answer}
use Rattle.pdq_model.specs.declared.events.Answer.TheVariants.{Entered, Waits, Refuses}
use Rattle.pdq_model.specs.Configuration.{Configuration, frames_per_quantum}
use Rattle.pdq_model.specs.State.{State}
use Rattle.pdq_gate.specs.ManagerView.{ManagerView}
use Rattle.pdq_gate.specs.Journal.{history_after}
use Rattle.pdq_turn.specs.LockRule.{is_among, with_turn, with_ticket, with_entries, without_turn, MayGive}
use Rattle.pdq_model.specs.Step.{after_answer, is_open}
use Rattle.pdq_model.proofs.Histories.{entries_after}
use Rattle.pdq_turn.specs.Pass.{IsFree}
use Rattle.pdq_turn.specs.declared.view.PassView.{PassView}
use Rattle.pdq_model.specs.Kept.{to_collect, IsLent, is_taken_by, is_closing, added_by}
use Rattle.pdq_office.specs.Knowledge.{party_of, IsKnown, HasSession, IsOpenIfAny, HasOnly, IsOnLoan, IsWaitedFor}
use Rattle.pdq_office.specs.Turns.{view_with_entry, view_after, Finds, IsTurn}
use Rattle.pdq_office.specs.PassValue.{PassValue}
use Rattle.pdq_office.specs.Passes.{known, IsOpen, session_of, Keeps, KeepsBut, AddsNone, Ends, Unfinished, without}
use Rattle.pdq_office.proofs.Turning.{IsHonest, IsOwnOrNew, turn_known, still_party, found_true, turn_ticket, turn_loan, turn_session, turn_only}
use Rattle.pdq_office.proofs.Knowing.{None_but, only_stable, none_added}
use Rattle.pdq_office.proofs.Following.{prefix_trans}
use Rattle.pdq_office.proofs.Unique.{finishable, collectable, no_query}
use Rattle.pdq_model.specs.History.{may_collect, MayClose}
use Rattle.pdq_model.specs.Laws.{HasOwnNumbers, queries_of}
use Rattle.pdq_model.proofs.Numbers.{own_replay}
use Rattle.pdq_gate.specs.Queries.{session_of as gate_session, holder_of, active_query, MayFinish}
use Rattle.pdq_turn.proofs.History.{may_give_one, may_give_none}

-- the lock's two calls make a turn
pub turn_made : (old mid new : PassView Entry Configuration) (m : ManagerView) (log : List Entry) (who : ℕ) (event : Event) (answer : Answer) (ticket : ℕ)
    → Finds old m → mid ≡ with_turn m.history (with_ticket ticket old) → old.ticket ≡ None → old.out ≡ false → log ≡ history_after m.history who event answer
    → new ≡ without_turn (with_entries party_of (drop (length mid.seen) log) mid) → IsTurn old new m who event answer
turn_made old mid new m log who event answer ticket finds at none home history after = record {
  finds = finds;
  view = after
      ∙ (ap (λ (v : PassView Entry Configuration). without_turn (with_entries party_of (drop (length v.seen) log) v)) at
      ∙ (ap (λ (l : List Entry). without_turn (with_entries party_of (drop (length m.history) l) (with_turn m.history (with_ticket ticket old)))) history
      ∙ shape answer));
}
  where
    mid_view : PassView Entry Configuration
    mid_view = with_turn m.history (with_ticket ticket old)

    shape_none : without_turn (with_entries party_of (drop (length m.history) m.history) (with_turn m.history (with_ticket ticket old))) ≡ record old { seen = m.history }
    shape_none = ap (λ (l : List Entry). without_turn (with_entries party_of l (with_turn m.history (with_ticket ticket old)))) (drop-length m.history) ∙ (λ i. record old { seen = m.history; ticket = sym none i; out = sym home i })

    shape : (a : Answer) → without_turn (with_entries party_of (drop (length m.history) (history_after m.history who event a)) (with_turn m.history (with_ticket ticket old))) ≡ view_after old m.history who event a
    shape (Entered r) =
        let e : Entry = record { session = who; event = event; reply = r } in
        ap (λ (l : List Entry). without_turn (with_entries party_of l (with_turn m.history (with_ticket ticket old)))) (drop-append_seam m.history (e ∷ []))
        ∙ (λ i. record (view_with_entry old m.history e) { ticket = sym none i; out = sym home i })
    shape (Waits gate) = shape_none
    shape (Refuses why) = shape_none

-- a turn that makes no entry leaves a view that has seen what was found
pub looked : (old mid new : PassView Entry Configuration) (m : ManagerView) (ticket : ℕ)
    → Finds old m → mid ≡ with_turn m.history (with_ticket ticket old) → old.ticket ≡ None → old.out ≡ false
    → new ≡ without_turn (with_entries party_of (drop (length mid.seen) m.history) mid) → new ≡ record old { seen = m.history }
looked old mid new m ticket finds at none home after = (turn_made old mid new m m.history 0 CloseSession (Waits 0) ticket finds at none home refl after).view

-- what was known before it is known after it
pub known_still : (old new : PassView Entry Configuration) (m : ManagerView) (P : State → Type 0) → Finds old m → new ≡ record old { seen = m.history } → IsKnown old P → IsKnown new P
known_still old new m P f is known_it = subst (λ (v : PassView Entry Configuration). IsKnown v P) (sym is) (λ c found can. known_it c found (record { origin = can.origin; legal = can.legal; seen = prefix_trans old.seen m.history found f.found.seen can.seen; mine = can.mine }))

pub open_still : (old new : PassView Entry Configuration) (m : ManagerView) (session : Option ℕ) → Finds old m → new ≡ record old { seen = m.history } → IsOpenIfAny old session → IsOpenIfAny new session
open_still old new m None f is k = tt
open_still old new m (Some n) f is k = record {
  own = ap (λ (v : PassView Entry Configuration). is_among n v.parties) is ∙ k.own;
  stays = known_still old new m (λ s. IsTrue (is_open s n)) f is k.stays;
}

-- the session of the pass, which is known
pub session_known : (p : PassValue) → IsOpen p → IsOpenIfAny (known p) p.session → HasSession (known p) (session_of p)
session_known p o k =
    subst (HasSession (known p)) (sym (ap (λ (s : Option ℕ). unwrap_or s 0) o.1)) (subst (IsOpenIfAny (known p)) o.1 k)

pub session_is : (p : PassValue) (n : ℕ) → IsOpen p → HasSession (known p) n → p.session ≡ Some (session_of p)
session_is p n o k = o.1 ∙ sym (ap (λ (s : Option ℕ). Some (unwrap_or s 0)) o.1)

-- the same where the session of the pass is given by its number
pub for_session : (p : PassValue) (n : ℕ) → p.session ≡ Some n → n ≡ session_of p
for_session p n is = sym (ap (λ (o : Option ℕ). unwrap_or o 0) is)

pub turn_as : (p : PassValue) (mid new : PassView Entry Configuration) (m : ManagerView) (log : List Entry) (n : ℕ) (event : Event) (answer : ℕ → Answer) (ticket : ℕ)
    → n ≡ session_of p → Finds (known p) m → mid ≡ with_turn m.history (with_ticket ticket (known p)) → IsFree p.turn → log ≡ history_after m.history n event (answer n)
    → new ≡ without_turn (with_entries party_of (drop (length mid.seen) log) mid) → IsTurn (known p) new m (session_of p) event (answer (session_of p))
turn_as p mid new m log n event answer ticket is finds at free history after =
    turn_made (known p) mid new m log (session_of p) event (answer (session_of p)) ticket finds at free.1 free.2
    (subst (λ (k : ℕ). log ≡ history_after m.history k event (answer k)) is history) after

pub call_turn : (p : PassValue) (mid new : PassView Entry Configuration) (m : ManagerView) (log : List Entry) (n : ℕ) (event : Event) (answer : ℕ → Answer) (ticket : ℕ)
    → p.session ≡ Some n → Finds (known p) m → mid ≡ with_turn m.history (with_ticket ticket (known p)) → IsFree p.turn → log ≡ history_after m.history n event (answer n)
    → new ≡ without_turn (with_entries party_of (drop (length mid.seen) log) mid) → IsTurn (known p) new m (session_of p) event (answer (session_of p))
call_turn p mid new m log n event answer ticket is finds at free history after =
    turn_made (known p) mid new m log (session_of p) event (answer (session_of p)) ticket finds at free.1 free.2
    (subst (λ (k : ℕ). log ≡ history_after m.history k event (answer k)) (for_session p n is) history) after

-- the step is the length of what the pass has then seen
pub step_counted : (m : ManagerView) (after : State) (log seen : List Entry) (who : ℕ) (event : Event) (answer : Answer) → m.state.entries ≡ length m.history → after ≡ after_answer m.state who event answer
    → log ≡ history_after m.history who event answer → seen ≡ log → after.entries ≡ length seen
step_counted m after log seen who event answer counted state history is = ap (λ (s : State). s.entries) state ∙ (go answer ∙ sym (ap length (is ∙ history)))
  where
    go : (a : Answer) → (after_answer m.state who event a).entries ≡ length (history_after m.history who event a)
    go (Entered r) = entries_after m.state who event (Entered r) refl ∙ omega (arith, counted, length-append m.history (record { session = who; event = event; reply = r } ∷ []))
    go (Waits gate) = counted
    go (Refuses why) = counted

pub told_of : (T : Answer → ℕ → Type 0) (answer : ℕ → Answer) (n k step seen : ℕ) → n ≡ k → step ≡ seen → T (answer n) step → T (answer k) seen
told_of T answer n k step seen who at told = subst (λ (x : ℕ). T (answer k) x) at (subst (λ (x : ℕ). T (answer x) step) who told)

-- what is known is true of the state that is found
pub state_known : (v : PassView Entry Configuration) (m : ManagerView) (P : State → Type 0) → Finds v m → IsKnown v P → P m.state
state_known v m P f known_it = subst P (sym f.replayed) (known_it m.opening m.history f.found)

pub state_numbers : (v : PassView Entry Configuration) (m : ManagerView) → Finds v m → HasOwnNumbers m.state
state_numbers v m f = subst HasOwnNumbers (sym f.replayed) (own_replay m.opening m.history f.found.legal)

pub held_found : (v : PassView Entry Configuration) (m : ManagerView) (n id frames : ℕ) → Finds v m → IsOnLoan v n id frames → MayFinish m.state id frames × (holder_of m.state id ≡ n)
held_found v m n id frames f held = finishable m.state n id (state_numbers v m f) frames (state_known v m (λ s. IsLent s n id frames) f held)

pub ticket_found : (v : PassView Entry Configuration) (m : ManagerView) (n id : ℕ) → Finds v m → IsWaitedFor v n id → (may_collect m.state n id ≡ true) × (gate_session m.state id ≡ n)
ticket_found v m n id f ticket = collectable m.state n id (state_numbers v m f) (state_known v m (λ s. to_collect s n id ≢ 0) f ticket)

pub some_from : {X : Type 0} (o : Option X) (P : X → Type 0) → IsSomeAnd o P → IsSome o
some_from None P e = absurd e
some_from (Some x) P e = refl

pub held_active : (v : PassView Entry Configuration) (m : ManagerView) (n id frames : ℕ) → Finds v m → IsOnLoan v n id frames → IsSome (active_query m.state id)
held_active v m n id frames f held = some_from (active_query m.state id) (λ a. (a.collected ≡ true) × (frames ≡ a.quanta * frames_per_quantum m.state.config)) (held_found v m n id frames f held).0

-- a session without a query may be closed
pub closable : (p : PassValue) (m : ManagerView) (n : ℕ) → n ≡ session_of p → HasSession (known p) (session_of p) → Unfinished p [] → Finds (known p) m → MayClose m.state n
closable p m n is has finished f = subst (MayClose m.state) (sym is) (record {
  session = state_known (known p) m (λ s. IsTrue (is_open s (session_of p))) f has.stays;
  idle = no_query m.state (session_of p) (λ id. state_known (known p) m (None_but (session_of p) []) f finished id refl);
})

-- one entry of a session of the pass, or of a new one, may be given back
pub give_any : (v mid : PassView Entry Configuration) (m : ManagerView) (log : List Entry) (ticket who : ℕ) (event : Event) (answer : Answer) → mid ≡ with_turn m.history (with_ticket ticket v) → log ≡ history_after m.history who event answer
    → IsOwnOrNew v m.history who → MayGive party_of mid log (length log - length mid.seen)
give_any v mid m log ticket who event answer at history own = go answer history
  where
    seen : mid.seen ≡ m.history
    seen = ap (λ (x : PassView Entry Configuration). x.seen) at

    may : (is_among who (map party_of m.history) ≡ false) ⊎ (is_among who v.parties ≡ true) → (is_among who (map party_of mid.seen) ≡ false) ⊎ (is_among who mid.parties ≡ true)
    may (inl fresh) = inl (ap (λ (l : List Entry). is_among who (map party_of l)) seen ∙ fresh)
    may (inr has) = inr (ap (λ (x : PassView Entry Configuration). is_among who x.parties) at ∙ has)

    go : (a : Answer) → log ≡ history_after m.history who event a → MayGive party_of mid log (length log - length mid.seen)
    go (Entered r) is = may_give_one party_of mid log (record { session = who; event = event; reply = r }) (is ∙ ap (λ (l : List Entry). l ++ record { session = who; event = event; reply = r } ∷ []) (sym seen)) (may own)
    go (Waits gate) is = may_give_none party_of mid log (is ∙ sym seen)
    go (Refuses why) is = may_give_none party_of mid log (is ∙ sym seen)

pub give_own : (v mid : PassView Entry Configuration) (m : ManagerView) (log : List Entry) (ticket who : ℕ) (event : Event) (answer : Answer) → mid ≡ with_turn m.history (with_ticket ticket v) → log ≡ history_after m.history who event answer
    → is_among who v.parties ≡ true → MayGive party_of mid log (length log - length mid.seen)
give_own v mid m log ticket who event answer at history own = give_any v mid m log ticket who event answer at history (inr own)

-- a number that is not among the others, and not the one that is left out
pub absent_others : (j id : ℕ) (ids : List ℕ) → is_among j (without id ids) ≡ false → j ≢ id → is_among j ids ≡ false
absent_others j id [] absent differ = refl
absent_others j id (x ∷ xs) absent differ = go (x == id) refl absent (λ a. absent_others j id xs a differ)
  where
    neither : (a b : Bool) → (a || b) ≡ false → (a ≡ false) × (b ≡ false)
    neither true b e = absurd (false≢true (sym e))
    neither false b e = (refl, e)

    go : (b : Bool) → (x == id) ≡ b → is_among j (if b then without id xs else x ∷ without id xs) ≡ false → (is_among j (without id xs) ≡ false → is_among j xs ≡ false) → is_among j (x ∷ xs) ≡ false
    go true e a more = rw (ne_eqb j x (λ is. differ (is ∙ eqb-true x id e)), more a) refl
    go false e a more = let both = neither (j == x) (is_among j (without id xs)) a in rw (both.0, more both.1) refl

off : (a b : Bool) → b ≡ false → (a && b) ≡ false
off true b e = e
off false b e = refl

module _ (p q : PassValue) (m : ManagerView) (event : Event) (answer : Answer) (opens : IsOpen p) (rest : IsOpenIfAny (known p) p.session) (same : q.session ≡ p.session) (t : IsTurn (known p) (known q) m (session_of p) event answer) (honest : IsHonest m.state (session_of p) event answer) where
  has_it : HasSession (known p) (session_of p)
  has_it = session_known p opens rest

  pub still_known : is_closing event ≡ false → IsOpenIfAny (known q) q.session
  unfolding has_it
  still_known closes =
      subst (IsOpenIfAny (known q)) (sym (same ∙ session_is p (session_of p) opens has_it))
      (turn_session (known p) (known q) m (session_of p) event answer t (inr has_it.own) honest (session_of p) (off (session_of p == session_of p) (is_closing event) closes) has_it)

  pub keeps_but : (id : ℕ) → ((other : ℕ) → other ≢ id → is_taken_by other event ≡ false) → KeepsBut id p q
  keeps_but id apart = record {
    tickets = λ other differ known_old. turn_ticket (known p) (known q) m (session_of p) event answer t (inr has_it.own) honest (session_of p) other has_it.own (off (session_of p == session_of p) (is_taken_by other event) (apart other differ)) known_old;
    loans = λ other frames differ known_old. turn_loan (known p) (known q) m (session_of p) event answer t (inr has_it.own) honest (session_of p) other frames has_it.own (off (session_of p == session_of p) (is_taken_by other event) (apart other differ)) known_old;
  }

  pub keeps : ((id : ℕ) → is_taken_by id event ≡ false) → Keeps p q
  keeps apart = record {
    tickets = λ id known_old. turn_ticket (known p) (known q) m (session_of p) event answer t (inr has_it.own) honest (session_of p) id has_it.own (off (session_of p == session_of p) (is_taken_by id event) (apart id)) known_old;
    loans = λ id frames known_old. turn_loan (known p) (known q) m (session_of p) event answer t (inr has_it.own) honest (session_of p) id frames has_it.own (off (session_of p == session_of p) (is_taken_by id event) (apart id)) known_old;
  }

  same_session : session_of q ≡ session_of p
  same_session = ap (λ (s : Option ℕ). unwrap_or s 0) same

  pub adds_none : ((id : ℕ) → added_by m.state (session_of p) event (session_of p) id ≡ 0) → AddsNone p q
  adds_none none ids had =
      subst (λ (n : ℕ). HasOnly (known q) n ids) (sym same_session)
      (turn_only (known p) (known q) m (session_of p) event answer t (inr has_it.own) honest (session_of p) ids ids has_it.own (λ id absent. (absent, none id)) had)

  -- one query of the session is gone, and none came
  pub ends : (id : ℕ) → ((j : ℕ) → added_by m.state (session_of p) event (session_of p) j ≡ 0) → queries_of (after_answer m.state (session_of p) event answer) (session_of p) id ≡ 0 → Ends id p q
  ends id none gone ids had =
      subst (λ (n : ℕ). HasOnly (known q) n (without id ids)) (sym same_session)
      (turn_known (known p) (known q) m (session_of p) event answer t (inr has_it.own) honest (None_but (session_of p) (without id ids)) (only_stable (session_of p) (without id ids) (known q).parties (still_party (known p) (known q) m (session_of p) event answer t (inr has_it.own) honest (session_of p) has_it.own))
      (λ j absent. other j absent (cases_eq j id)))
    where
      other : (j : ℕ) → is_among j (without id ids) ≡ false → (j ≡ id) ⊎ (j ≢ id) → queries_of (after_answer m.state (session_of p) event answer) (session_of p) j ≡ 0
      other j absent (inl is) = ap (λ (k : ℕ). queries_of (after_answer m.state (session_of p) event answer) (session_of p) k) is ∙ gone
      other j absent (inr differ) = none_added m.state (session_of p) (session_of p) j event answer (none j) (found_true (known p) (known q) m (session_of p) event answer t (inr has_it.own) honest (None_but (session_of p) ids) had j (absent_others j id ids absent differ))

-- where the only unfinished query ends none is left
pub ended_alone : (p q : PassValue) (id only : ℕ) → only ≡ id → Ends id p q → Unfinished p (only ∷ []) → Unfinished q []
ended_alone p q id only same ended had = subst (λ (ids : List ℕ). Unfinished q ids) alone (ended (only ∷ []) had)
  where
    alone : without id (only ∷ []) ≡ []
    alone = rw (eq-eqb only id same) refl
