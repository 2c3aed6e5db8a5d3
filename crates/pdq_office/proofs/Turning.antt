-- What a turn leaves known.
use Rattle.std.proofs.Common.{ℕ, ◌≡◌, ◌≢◌, ◌∙◌, ◌+◌, ◌⊎◌, List, [], ◌∷◌, ◌++◌, Bool, true, false, cond, map, length, refl, sym, ap, subst, inl, inr, ⊎_elim, arith}
use Rattle.std.specs.Prelude.{◌&&◌, ◌||◌, ◌==◌, IsTrue}
use Rattle.pdq_model.specs.declared.events.Entry.{Entry}
use Rattle.pdq_model.specs.declared.events.Event.{Event}
use Rattle.pdq_model.specs.declared.events.Reply.{Reply}
use Rattle.pdq_model.specs.declared.events.Answer.{Answer}
use Rattle.pdq_model.specs.declared.events.Answer.TheVariants.{Entered, Waits, Refuses}
use Rattle.pdq_model.specs.Configuration.{Configuration}
use Rattle.pdq_model.specs.State.{State, opening_state}
use Rattle.pdq_model.specs.Step.{decide, next, after_answer, is_open}
use Rattle.pdq_model.specs.History.{replay}
use Rattle.pdq_model.proofs.Histories.{state_then}
use Rattle.pdq_gate.specs.ManagerView.{ManagerView}
use Rattle.pdq_turn.specs.LockRule.{is_among, with_party, own_entries}
use Rattle.pdq_turn.specs.declared.view.PassView.{PassView}
use Rattle.pdq_turn.proofs.History.{yes_or_no, is_among-same, own_entries-one, own_from-new_party}
use Rattle.pdq_model.specs.Kept.{to_collect, IsLent, is_taken_by, is_closing, added_by}
use Rattle.pdq_model.proofs.Staying.{ticket_after, lent_after}
use Rattle.pdq_office.specs.Knowledge.{party_of, IsKnown, HasSession, IsWaitedFor, IsOnLoan, HasOnly}
use Rattle.pdq_office.specs.Turns.{view_with_entry, view_after, Finds, IsTurn}
use Rattle.pdq_office.proofs.Knowing.{IsStable, known_here, ticket_stable, loan_stable, open_stable, open_after, only_stable, None_but, none_added}

pub with_party_has : (p : ℕ) (ps : List ℕ) → is_among p (with_party p ps) ≡ true
with_party_has p ps = ⊎_elim
    (λ y. ap (λ b. is_among p (cond b ps (p ∷ ps))) y ∙ y)
    (λ n. ap (λ b. is_among p (cond b ps (p ∷ ps))) n ∙ is_among-same p p ps refl) (yes_or_no (is_among p ps))

or_right : (a b : Bool) → b ≡ true → (a || b) ≡ true
or_right true b e = refl
or_right false b e = e

pub with_party_keeps : (n p : ℕ) (ps : List ℕ) → is_among n ps ≡ true → is_among n (with_party p ps) ≡ true
with_party_keeps n p ps has = ⊎_elim
    (λ y. ap (λ b. is_among n (cond b ps (p ∷ ps))) y ∙ has)
    (λ no. ap (λ b. is_among n (cond b ps (p ∷ ps))) no ∙ or_right (n == p) (is_among n ps) has) (yes_or_no (is_among p ps))

-- the session is a new one, or one of the pass
abbrev pub IsOwnOrNew : PassView Entry Configuration → List Entry → ℕ → Type 0
IsOwnOrNew v found who = (is_among who (map party_of found) ≡ false) ⊎ (is_among who v.parties ≡ true)

same_own : (ps : List ℕ) (found : List Entry) (who : ℕ) → (is_among who (map party_of found) ≡ false) ⊎ (is_among who ps ≡ true) → own_entries party_of (with_party who ps) found ≡ own_entries party_of ps found
same_own ps found who (inr has) = ap (λ b. own_entries party_of (cond b ps (who ∷ ps)) found) has
same_own ps found who (inl fresh) = ⊎_elim
    (λ y. ap (λ b. own_entries party_of (cond b ps (who ∷ ps)) found) y)
    (λ n. ap (λ b. own_entries party_of (cond b ps (who ∷ ps)) found) n ∙ own_from-new_party party_of who ps 1 found fresh) (yes_or_no (is_among who ps))

pub exact_after : (v : PassView Entry Configuration) (found : List Entry) (e : Entry) → v.mine ≡ own_entries party_of v.parties found → IsOwnOrNew v found e.session
    → (view_with_entry v found e).mine ≡ own_entries party_of (view_with_entry v found e).parties (view_with_entry v found e).seen
exact_after v found e exact own =
    ap (λ (l : List (ℕ × Entry)). l ++ (length found + 1, e) ∷ []) (exact ∙ sym (same_own v.parties found e.session own)) ∙ sym (own_entries-one party_of (with_party e.session v.parties) found e (with_party_has e.session v.parties))

-- an answer that makes an entry is the one that is decided
abbrev pub IsHonest : State → ℕ → Event → Answer → Type 0
IsHonest s who event answer = (r : Reply) → answer ≡ Entered r → decide s who event ≡ Entered r

seen_known : (v : PassView Entry Configuration) (m : ManagerView) (P : State → Type 0) → Finds v m → IsStable v.parties P → P m.state → IsKnown (record v { seen = m.history }) P
seen_known v m P f stable here = known_here (record v { seen = m.history }) P m.opening f.found.origin f.found.mine stable (subst P f.replayed here)

pub view_known : (v : PassView Entry Configuration) (m : ManagerView) (who : ℕ) (event : Event) (answer : Answer) (P : State → Type 0) → Finds v m → IsOwnOrNew v m.history who → IsHonest m.state who event answer
    → IsStable (view_after v m.history who event answer).parties P → P (after_answer m.state who event answer) → IsKnown (view_after v m.history who event answer) P
view_known v m who event (Entered r) P f own honest stable here =
    let e : Entry = record { session = who; event = event; reply = r } in
    let is : replay m.opening (m.history ++ e ∷ []) ≡ after_answer m.state who event (Entered r)
    = state_then (opening_state m.opening) m.history e ∙ (ap (λ (s : State). next s who event) (sym f.replayed) ∙ ap (after_answer m.state who event) (honest r refl)) in
    known_here (view_with_entry v m.history e) P m.opening f.found.origin (exact_after v m.history e f.found.mine own) stable (subst P (sym is) here)
view_known v m who event (Waits gate) P f own honest stable here = seen_known v m P f stable here
view_known v m who event (Refuses why) P f own honest stable here = seen_known v m P f stable here

pub parties_after : (v : PassView Entry Configuration) (found : List Entry) (who : ℕ) (event : Event) (answer : Answer) (n : ℕ) → is_among n v.parties ≡ true → is_among n (view_after v found who event answer).parties ≡ true
parties_after v found who event (Entered r) n has = with_party_keeps n who v.parties has
parties_after v found who event (Waits gate) n has = has
parties_after v found who event (Refuses why) n has = has

module _ (old new : PassView Entry Configuration) (m : ManagerView) (who : ℕ) (event : Event) (answer : Answer) (t : IsTurn old new m who event answer) (own : IsOwnOrNew old m.history who) (honest : IsHonest m.state who event answer) where
  -- what is true of the state that the turn leaves is known
  pub turn_known : (P : State → Type 0) → IsStable new.parties P → P (after_answer m.state who event answer) → IsKnown new P
  turn_known P stable here =
      subst (λ (v : PassView Entry Configuration). IsKnown v P) (sym t.view)
      (view_known old m who event answer P t.finds own honest (subst (λ (v : PassView Entry Configuration). IsStable v.parties P) t.view stable) here)

  pub still_party : (n : ℕ) → is_among n old.parties ≡ true → is_among n new.parties ≡ true
  still_party n has = ap (λ (v : PassView Entry Configuration). is_among n v.parties) t.view ∙ parties_after old m.history who event answer n has

  -- what was known is true of the state that the turn finds
  pub found_true : (P : State → Type 0) → IsKnown old P → P m.state
  found_true P known = subst P (sym t.finds.replayed) (known m.opening m.history t.finds.found)

  pub turn_ticket : (n id : ℕ) → is_among n old.parties ≡ true → (who == n && is_taken_by id event) ≡ false → IsWaitedFor old n id → IsWaitedFor new n id
  turn_ticket n id has apart known =
      turn_known (λ s. to_collect s n id ≢ 0) (ticket_stable n id new.parties (still_party n has))
      (λ none. found_true (λ s. to_collect s n id ≢ 0) known (omega (arith, none, ticket_after n id m.state who event answer apart)))

  pub turn_loan : (n id frames : ℕ) → is_among n old.parties ≡ true → (who == n && is_taken_by id event) ≡ false → IsOnLoan old n id frames → IsOnLoan new n id frames
  turn_loan n id frames has apart known =
      turn_known (λ s. IsLent s n id frames) (loan_stable n id frames new.parties (still_party n has))
      (lent_after n id frames m.state who event answer apart (found_true (λ s. IsLent s n id frames) known))

  pub turn_session : (n : ℕ) → (who == n && is_closing event) ≡ false → HasSession old n → HasSession new n
  turn_session n apart known = record {
    own = still_party n known.own;
    stays = turn_known (λ s. IsTrue (is_open s n)) (open_stable n new.parties (still_party n known.own)) (open_after m.state who n event answer apart (found_true (λ s. IsTrue (is_open s n)) known.stays));
  }

  -- the queries of a session, where the event may add those of the second list alone
  pub turn_only : (n : ℕ) (ids more : List ℕ) → is_among n old.parties ≡ true → ((id : ℕ) → is_among id more ≡ false → (is_among id ids ≡ false) × (added_by m.state who event n id ≡ 0)) → HasOnly old n ids → HasOnly new n more
  turn_only n ids more has adds known =
      turn_known (None_but n more) (only_stable n more new.parties (still_party n has))
      (λ id absent. none_added m.state who n id event answer (adds id absent).1 (found_true (None_but n ids) known id (adds id absent).0))
