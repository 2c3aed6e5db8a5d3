-- What a submission, a collection and a new session leave.
use Rattle.std.proofs.Common.{ℕ, ◌≡◌, ◌≢◌, ◌≤◌, ◌∙◌, ◌*◌, List, [], ◌∷◌, Option, None, Some, Bool, true, false, map, length, refl, sym, ap, subst, inl, inr, arith, eq-eqb}
use Rattle.std.specs.Prelude.{◌==◌, nat_le, unwrap_or, is_some, IsTrue, ⊤, Result, Ok, Err, if◌then◌else◌}
use Rattle.std.proofs.lemmas.Bool.{ne_eqb}
use Rattle.std.proofs.lemmas.List.Sums.{sum_by_push}
use Rattle.pdq_model.specs.declared.rows.Active.{Active}
use Rattle.pdq_model.specs.declared.rows.Session.{Session}
use Rattle.pdq_model.specs.declared.rows.Withdrawn.{Withdrawn}
use Rattle.pdq_model.specs.declared.events.Entry.{Entry}
use Rattle.pdq_model.specs.declared.events.Event.{Event}
use Rattle.pdq_model.specs.declared.events.Event.TheVariants.{OpenSession, Submit, Collect}
use Rattle.pdq_model.specs.declared.events.Reply.{Reply}
use Rattle.pdq_model.specs.declared.events.Reply.TheVariants as reply
use Rattle.pdq_model.specs.declared.events.Why.TheVariants as why
use Rattle.pdq_model.specs.declared.events.Answer.{Answer}
use Rattle.pdq_model.specs.declared.events.Answer.TheVariants.{Entered, Refuses}
use Rattle.pdq_model.specs.Configuration.{Configuration, frames_per_quantum}
use Rattle.pdq_model.specs.State.{State, next_query, next_session}
use Rattle.pdq_model.specs.Gates.{waiting_place}
use Rattle.pdq_model.specs.Step.{after_answer, decide, answer_to_submit, answer_to_open, answer_to_collect, placed_reply, is_full_for, most_waiting, most_sessions, active_row, withdrawn_of, withdrawn_place, is_open}
use Rattle.pdq_model.specs.Laws.{queries_of, sessions_numbered}
use Rattle.pdq_gate.specs.ManagerView.{ManagerView}
use Rattle.pdq_gate.specs.Queries.{session_of as gate_session, with_session}
use Rattle.pdq_gate.specs.Answers.{IsSubmitted, IsCollected, IsHandedOver, IsWorkable}
use Rattle.pdq_gate.specs.declared.answers.Refused.{Refused}
use Rattle.pdq_gate.specs.declared.answers.Submitted.{Submitted}
use Rattle.pdq_gate.specs.declared.answers.Submitted.TheVariants as submitted
use Rattle.pdq_gate.specs.declared.answers.Collected.{Collected}
use Rattle.pdq_gate.specs.declared.answers.Collected.TheVariants as collected
use Rattle.pdq_turn.specs.LockRule.{is_among}
use Rattle.pdq_turn.specs.declared.view.PassView.{PassView}
use Rattle.pdq_turn.proofs.History.{is_among-neither}
use Rattle.pdq_office.proofs.Parties.{next_is_new, next_has_none}
use Rattle.pdq_office.proofs.Turning.{with_party_has}
use Rattle.pdq_office.specs.declared.answers.Placed.{Placed}
use Rattle.pdq_office.specs.declared.answers.Sent.{Sent}
use Rattle.pdq_office.specs.declared.answers.Sent.TheVariants as sent
use Rattle.pdq_office.specs.declared.pass.Ticket.{Ticket}
use Rattle.pdq_office.specs.Turns.{view_after}
use Rattle.pdq_model.specs.Kept.{to_collect, IsLent}
use Rattle.pdq_model.proofs.Staying.{ticket_sent}
use Rattle.pdq_model.proofs.Fewer.{told_gone}
use Rattle.pdq_office.specs.Knowledge.{party_of, IsKnown, HasSession, IsOpenIfAny, HasOnly, IsWaitedFor, IsOnLoan}
use Rattle.pdq_office.specs.Turns.{Finds, IsTurn}
use Rattle.pdq_office.specs.PassValue.{PassValue}
use Rattle.pdq_office.specs.Answers.{OnSent, OnGot, sent_of, got_of, IsSent, IsGot}
use Rattle.pdq_office.specs.Passes.{known, IsOpen, session_of, IsTicket, IsHeld, Adds, AddsNone, Ends}
use Rattle.pdq_office.proofs.Unique.{lent_from_grant, one_if}
use Rattle.pdq_office.proofs.Knowing.{IsStable, None_but, only_stable, ticket_stable, loan_stable, open_stable, counted_open}
use Rattle.pdq_office.proofs.Turning.{turn_known, still_party, found_true, turn_only}
use Rattle.pdq_office.proofs.Calls.{session_known, adds_none, ends, state_numbers, ticket_found}

-- a submission that is accepted has a ticket
pub sent_is : (s : Sent) → (ticket : Ticket) × (placed : Placed) × (s ≡ sent.Ticket ticket placed)
sent_is (sent.Ticket ticket placed) = (ticket, placed, refl)

-- what is told of a submission is told of its ticket
pub sent_parts : (p q : PassValue) (s : Sent) (ticket : Ticket) (placed : Placed) → s ≡ sent.Ticket ticket placed
    → OnSent (Ok s) (λ t pl. (t.id ≡ pl.id) × IsTicket q t × Adds pl.id p q) (AddsNone p q) → (ticket.id ≡ placed.id) × IsTicket q ticket × Adds placed.id p q
sent_parts p q s ticket placed is told = subst (λ (x : Sent). OnSent (Ok x) (λ t pl. (t.id ≡ pl.id) × IsTicket q t × Adds pl.id p q) (AddsNone p q)) is told

-- the office tells what the manager told
pub told_sent : (answer : Answer) (step : ℕ) (r : Result Submitted Refused) → IsSubmitted answer step r → IsSent answer step (sent_of r)
told_sent answer step (Ok (submitted.Placed id at priority gate)) t = record { told = t.told; at = t.at }
told_sent answer step (Err refused) t = record { told = t.told; at = t.at }

pub told_got : (answer : Answer) (step id : ℕ) (r : Collected) → IsCollected answer step r → IsGot answer step (got_of id r)
told_got answer step id (collected.Granted region quanta scans priority flagged at) t = record { told = t.told; at = t.at }
told_got answer step id (collected.Waiting gate at) t = record { told = t.told; at = t.at }
told_got answer step id (collected.Cancelled by at) t = record { told = t.told; at = t.at }

pub got_frames : (old new : State) (id : ℕ) (r : Collected) → IsHandedOver old new id r → OnGot (got_of id r) (λ h g. g.region.frames ≡ g.quanta * frames_per_quantum old.config) (λ _. ⊤) ⊤
got_frames old new id (collected.Granted region quanta scans priority flagged at) g = g.frames_given
got_frames old new id (collected.Waiting gate at) g = tt
got_frames old new id (collected.Cancelled by at) g = tt

pub got_shares : (id : ℕ) (r : Collected) → IsWorkable r → OnGot (got_of id r) (λ h g. (1 ≤ g.scans) × (g.scans ≤ 16) × (32 ≤ g.region.frames)) (λ t. ⊤) ⊤
got_shares id (collected.Granted region quanta scans priority flagged at) shares = shares
got_shares id (collected.Waiting gate at) shares = tt
got_shares id (collected.Cancelled by at) shares = tt

-- a query that is placed has the next number
placed_if : (b c : Bool) (r : Reply) (id priority gate : ℕ) → (if b then Refuses why.QueueFull else if c then Refuses why.JournalFull else Entered r) ≡ Entered (reply.Placed id priority gate) → r ≡ reply.Placed id priority gate
placed_if true c r id priority gate e = absurd (cc e)
placed_if false true r id priority gate e = absurd (cc e)
placed_if false false r id priority gate e = cc e

placed_number : (s : State) (who p f id priority gate : ℕ) → answer_to_submit s who p f ≡ Entered (reply.Placed id priority gate) → next_query s ≡ id
placed_number s who p f id priority gate e =
    let is : placed_reply s who p f ≡ reply.Placed id priority gate = placed_if (nat_le most_waiting (length s.waiting)) (is_full_for s 4) (placed_reply s who p f) id priority gate e in cc is

-- a session that is opened has the next number
opened_if : (a b : Bool) (r : Reply) (n : ℕ) → (if a then Refuses why.TooManySessions else if b then Refuses why.JournalFull else Entered r) ≡ Entered (reply.Opened n) → r ≡ reply.Opened n
opened_if true b r n e = absurd (cc e)
opened_if false true r n e = absurd (cc e)
opened_if false false r n e = cc e

pub opened_number : (s : State) (n : ℕ) → answer_to_open s ≡ Entered (reply.Opened n) → next_session s ≡ n
opened_number s n e = let is : reply.Opened (next_session s) ≡ reply.Opened n = opened_if (nat_le most_sessions (length s.sessions)) (is_full_for s 2) (reply.Opened (next_session s)) n e in cc is

-- a query that is told cancelled was withdrawn
cancelled_row : (s : State) (who id by : ℕ) (o : Option ℕ) (a : Option Active) (w : Option Withdrawn) → answer_to_collect s who id o a w ≡ Entered (reply.Cancelled by) → w ≢ None
cancelled_row s who id by (Some k) a w e none = absurd (cc e)
cancelled_row s who id by None (Some a) w e none = absurd (cc e)
cancelled_row s who id by None None (Some w) e none = absurd (cc none)
cancelled_row s who id by None None None e none = absurd (cc e)

cancelled_place : (s : State) (who id by : ℕ) → decide s who (Collect id) ≡ Entered (reply.Cancelled by) → is_some (withdrawn_place s who id) ≡ true
cancelled_place s who id by e = go (withdrawn_place s who id) refl
  where
    go : (o : Option ℕ) → withdrawn_place s who id ≡ o → is_some o ≡ true
    go (Some k) is = refl
    go None is = absurd (cancelled_row s who id by (waiting_place s who id) (active_row s who id) (withdrawn_of s who id) e (rw is refl))

module _ (p q : PassValue) (m : ManagerView) (event : Event) (opens : IsOpen p) (rest : IsOpenIfAny (known p) p.session) (same : q.session ≡ p.session) (t : IsTurn (known p) (known q) m (session_of p) event (decide m.state (session_of p) event)) where
  n : ℕ
  n = session_of p

  its : HasSession (known p) (session_of p)
  its = session_known p opens rest

  -- what is true after the turn is known
  leaves : (P : State → Type 0) → ((ps : List ℕ) → is_among (session_of p) ps ≡ true → IsStable ps P) → P (after_answer m.state (session_of p) event (decide m.state (session_of p) event)) → IsKnown (known q) P
  unfolding its
  leaves P stable here = turn_known (known p) (known q) m (session_of p) event (decide m.state (session_of p) event) t (inr its.own) (λ r e. e) P
      (stable (known q).parties (still_party (known p) (known q) m (session_of p) event (decide m.state (session_of p) event) t (inr its.own) (λ r e. e) (session_of p) its.own)) here

  same_number : session_of q ≡ session_of p
  same_number = ap (λ (s : Option ℕ). unwrap_or s 0) same

  -- where nothing changed the queries are as before
  unchanged : after_answer m.state (session_of p) event (decide m.state (session_of p) event) ≡ m.state → AddsNone p q
  unfolding its
  unchanged stays ids had = subst (λ (k : ℕ). HasOnly (known q) k ids) (sym same_number)
      (leaves (None_but (session_of p) ids) (λ ps own. only_stable (session_of p) ids ps own)
      (subst (None_but (session_of p) ids) (sym stays) (found_true (known p) (known q) m (session_of p) event (decide m.state (session_of p) event) t (inr its.own) (λ r e. e) (None_but (session_of p) ids) had)))

pub sent_left : (p q : PassValue) (m : ManagerView) (priority frags step : ℕ) (r : Result Submitted Refused) (opens : IsOpen p) (rest : IsOpenIfAny (known p) p.session) (same : q.session ≡ p.session)
    → IsTurn (known p) (known q) m (session_of p) (Submit priority frags) (decide m.state (session_of p) (Submit priority frags)) → IsSubmitted (decide m.state (session_of p) (Submit priority frags)) step r
    → OnSent (sent_of r) (λ t pl. (t.id ≡ pl.id) × IsTicket q t × Adds pl.id p q) (AddsNone p q)
sent_left p q m priority frags step (Ok (submitted.Placed id at e gate)) opens rest same t told =
    let P : State → Type 0 = λ s. to_collect s (session_of p) id ≢ 0 in
    let number : next_query m.state ≡ id = placed_number m.state (session_of p) priority frags id e gate (sym told.told) in (
      refl,
      subst (λ (k : ℕ). IsWaitedFor (known q) k id) (sym (same_number p q m (Submit priority frags) opens rest same t))
          (leaves p q m (Submit priority frags) opens rest same t P (λ ps own. ticket_stable (session_of p) id ps own)
          (subst (λ (a : Answer). P (after_answer m.state (session_of p) (Submit priority frags) a)) told.told (ticket_sent (session_of p) id m.state priority frags (reply.Placed id e gate) number))),
      λ ids had. subst (λ (k : ℕ). HasOnly (known q) k (id ∷ ids)) (sym (same_number p q m (Submit priority frags) opens rest same t))
          (turn_only (known p) (known q) m (session_of p) (Submit priority frags) (decide m.state (session_of p) (Submit priority frags)) t (inr (session_known p opens rest).own) (λ r e. e) (session_of p) ids (id ∷ ids) (session_known p opens rest).own
          (λ j absent. let both = is_among-neither j id ids absent in (both.1, rw (ne_eqb (next_query m.state) j (λ is. both.0 (sym is ∙ number))) refl)) had),
    )
sent_left p q m priority frags step (Err refused) opens rest same t told =
    unchanged p q m (Submit priority frags) opens rest same t (ap (after_answer m.state (session_of p) (Submit priority frags)) (sym told.told))

pub got_left : (p q : PassValue) (m : ManagerView) (after : State) (id step : ℕ) (r : Collected) (opens : IsOpen p) (rest : IsOpenIfAny (known p) p.session) (same : q.session ≡ p.session)
    → IsTurn (known p) (known q) m (session_of p) (Collect id) (decide m.state (session_of p) (Collect id)) → IsCollected (decide m.state (session_of p) (Collect id)) step r
    → after ≡ after_answer m.state (session_of p) (Collect id) (decide m.state (session_of p) (Collect id)) → IsHandedOver m.state after id r → IsWaitedFor (known p) (session_of p) id
    → OnGot (got_of id r) (λ h g. (h.id ≡ id) × (h.frames ≡ g.region.frames) × IsHeld q h × AddsNone p q) (λ u. (u ≡ record { id = id }) × IsTicket q u × AddsNone p q) (Ends id p q)
got_left p q m after id step (collected.Granted region quanta scans priority flagged at) opens rest same t told is grant ticket =
    let P : State → Type 0 = λ s. IsLent s (session_of p) id region.frames in
    let whose : gate_session m.state id ≡ session_of p = (ticket_found (known p) m (session_of p) id t.finds ticket).1 in (
      refl,
      refl,
      subst (λ (k : ℕ). IsOnLoan (known q) k id region.frames) (sym (same_number p q m (Collect id) opens rest same t))
          (leaves p q m (Collect id) opens rest same t P (λ ps own. loan_stable (session_of p) id region.frames ps own)
          (subst P is (lent_from_grant after (session_of p) id region.frames grant.may_finish (grant.holder ∙ whose)))),
      adds_none p q m (Collect id) (decide m.state (session_of p) (Collect id)) opens rest same t (λ r e. e) (λ j. refl),
    )
got_left p q m after id step (collected.Waiting gate at) opens rest same t told is grant ticket =
    let P : State → Type 0 = λ s. to_collect s (session_of p) id ≢ 0 in (
      refl,
      subst (λ (k : ℕ). IsWaitedFor (known q) k id) (sym (same_number p q m (Collect id) opens rest same t))
          (leaves p q m (Collect id) opens rest same t P (λ ps own. ticket_stable (session_of p) id ps own)
          (subst P (sym (ap (after_answer m.state (session_of p) (Collect id)) (sym told.told))) (found_true (known p) (known q) m (session_of p) (Collect id) (decide m.state (session_of p) (Collect id)) t (inr (session_known p opens rest).own) (λ r e. e) P ticket))),
      adds_none p q m (Collect id) (decide m.state (session_of p) (Collect id)) opens rest same t (λ r e. e) (λ j. refl),
    )
got_left p q m after id step (collected.Cancelled by at) opens rest same t told is grant ticket =
    ends p q m (Collect id) (decide m.state (session_of p) (Collect id)) opens rest same t (λ r e. e) id (λ j. refl)
    (subst (λ (a : Answer). queries_of (after_answer m.state (session_of p) (Collect id) a) (session_of p) id ≡ 0) told.told
    (told_gone (session_of p) id m.state (reply.Cancelled by) (state_numbers (known p) m t.finds) (cancelled_place m.state (session_of p) id by (sym told.told))))

-- the session that is opened is a new one
pub fresh : (v : PassView Entry Configuration) (m : ManagerView) → Finds v m → is_among (next_session m.state) (map party_of m.history) ≡ false
fresh v m f = subst (λ (s : State). is_among (next_session s) (map party_of m.history) ≡ false) (sym f.replayed) (next_is_new m.opening m.history f.found.legal)

-- it is open, and has no query
pub opened_left : (old new : PassView Entry Configuration) (m : ManagerView) (admin : Bool) (after : State) (n : ℕ) → IsTurn old new m (next_session m.state) (OpenSession admin) (decide m.state (next_session m.state) (OpenSession admin))
    → decide m.state (next_session m.state) (OpenSession admin) ≡ Entered (reply.Opened n) → after ≡ after_answer m.state (next_session m.state) (OpenSession admin) (decide m.state (next_session m.state) (OpenSession admin)) → after ≡ with_session m.state admin
    → HasSession new n × HasOnly new n []
opened_left old new m admin after n t told is with =
    let k : ℕ = next_session m.state in
    let own : is_among k new.parties ≡ true = ap (λ (v : PassView Entry Configuration). is_among k v.parties) (t.view ∙ ap (view_after old m.history k (OpenSession admin)) told) ∙ with_party_has k old.parties in
    let knows = turn_known old new m k (OpenSession admin) (decide m.state k (OpenSession admin)) t (inl (fresh old m t.finds)) (λ r e. e) in
    let now : (P : State → Type 0) → P (with_session m.state admin) → P (after_answer m.state k (OpenSession admin) (decide m.state k (OpenSession admin))) = λ P here. subst P is (subst P (sym with) here) in
    let mine : HasSession new k × HasOnly new k [] = (
      record { own = own; stays = knows (λ s. IsTrue (is_open s k)) (open_stable k new.parties own) (now (λ s. is_open s k ≡ true) (counted_open (with_session m.state admin) k there)) },
      knows (None_but k []) (only_stable k [] new.parties own) (now (None_but k []) (λ id absent. subst (λ (s : State). queries_of s (next_session s) id ≡ 0) (sym t.finds.replayed) (next_has_none m.opening m.history t.finds.found.legal id))),
    ) in
    subst (λ (x : ℕ). HasSession new x × HasOnly new x []) (opened_number m.state n told) mine
  where
    its_row : one_if (next_session m.state == next_session m.state) ≡ 1
    its_row = rw (eq-eqb (next_session m.state) (next_session m.state) refl) refl

    there : sessions_numbered (with_session m.state admin) (next_session m.state) ≢ 0
    there none = absurd (omega (arith, none, sum_by_push (λ (x : Session). one_if (x.number == next_session m.state)) m.state.sessions (record { number = next_session m.state; admin = admin }), its_row))
