-- What a pass knows of the state at its last look it knows of every state that it can find.
use Rattle.std.proofs.Common.{ℕ, ◌≡◌, ◌≢◌, ◌∙◌, ◌+◌, List, [], ◌∷◌, ◌++◌, Option, None, Some, Bool, true, false, cond, length, refl, sym, ap, subst, ⊎_elim, arith, length-append}
use Rattle.std.specs.Prelude.{◌&&◌, ◌==◌, not, is_some, find, IsTrue}
use Rattle.std.proofs.lemmas.Bool.{and_parts, eqb-true, false≢true, both_ways}
use Rattle.std.proofs.lemmas.Option.{same_Some}
use Rattle.pdq_model.specs.declared.events.Entry.{Entry}
use Rattle.pdq_model.specs.declared.events.Answer.{Answer}
use Rattle.pdq_model.specs.declared.events.Event.{Event}
use Rattle.pdq_model.specs.declared.events.Event.TheVariants.{OpenSession, CloseSession, Submit, Collect, Finish, Cancel, Onmode}
use Rattle.std.specs.List.{position_or_len}
use Rattle.pdq_model.proofs.Lists.{place_passes}
use Rattle.pdq_model.specs.Configuration.{Configuration}
use Rattle.pdq_model.specs.State.{State, opening_state, next_query}
use Rattle.pdq_model.specs.declared.rows.Session.{Session}
use Rattle.pdq_model.specs.Step.{decide, next, is_open, after_answer}
use Rattle.pdq_model.specs.History.{state_after, replay}
use Rattle.pdq_model.specs.Laws.{queries_of, sessions_numbered}
use Rattle.pdq_gate.proofs.Lookups.{place_found, row_found, find_none, place_none}
use Rattle.pdq_turn.specs.LockRule.{is_among, own_from, own_entries, is_quiet}
use Rattle.pdq_turn.specs.declared.view.PassView.{PassView}
use Rattle.pdq_turn.proofs.History.{yes_or_no}
use Rattle.pdq_model.specs.Kept.{to_collect, IsLent, leaves_query, is_closing, added_by}
use Rattle.pdq_model.proofs.Staying.{not_true, ticket_on, loan_on}
use Rattle.pdq_model.proofs.Fewer.{fewer_after, sessions_after}
use Rattle.pdq_office.specs.Knowledge.{party_of, IsKnown}
use Rattle.pdq_office.proofs.Unique.{some_row, counted_row}

-- the own entries of two parts of a history
own_from-split : (ps : List ℕ) (k : ℕ) (xs ys : List Entry) → own_from party_of ps k (xs ++ ys) ≡ own_from party_of ps k xs ++ own_from party_of ps (k + length xs) ys
own_from-split ps k [] ys = ap (λ n. own_from party_of ps n ys) (omega arith)
own_from-split ps k (x ∷ xs) ys =
    let i : own_from party_of ps (k + 1) (xs ++ ys) ≡ own_from party_of ps (k + 1) xs ++ own_from party_of ps (k + length (x ∷ xs)) ys
    = own_from-split ps (k + 1) xs ys ∙ ap (λ n. own_from party_of ps (k + 1) xs ++ own_from party_of ps n ys) (omega arith) in
    ⊎_elim (λ y. rw y (ap (λ l. (k, x) ∷ l) i)) (λ n. rw n i) (yes_or_no (is_among (party_of x) ps))

none_own_quiet : (ps : List ℕ) (k : ℕ) (ys : List Entry) → own_from party_of ps k ys ≡ [] → is_quiet party_of ps ys ≡ true
none_own_quiet ps k [] none = refl
none_own_quiet ps k (y ∷ ys) none = ⊎_elim
    (λ yes. absurd (omega (arith, ap length (sym (ap (λ b. cond b ((k, y) ∷ own_from party_of ps (k + 1) ys) (own_from party_of ps (k + 1) ys)) yes) ∙ none))))
    (λ no. rw no (none_own_quiet ps (k + 1) ys (sym (ap (λ b. cond b ((k, y) ∷ own_from party_of ps (k + 1) ys) (own_from party_of ps (k + 1) ys)) no) ∙ none)))
    (yes_or_no (is_among (party_of y) ps))

no_more : {A : Type 0} (xs zs : List A) → xs ≡ xs ++ zs → zs ≡ []
no_more xs [] e = refl
no_more xs (z ∷ zs) e = absurd (omega (arith, ap length e, length-append xs (z ∷ zs)))

pub state_after-append : (s : State) (xs ys : List Entry) → state_after s (xs ++ ys) ≡ state_after (state_after s xs) ys
state_after-append s [] ys = refl
state_after-append s (x ∷ xs) ys = state_after-append (next s x.session x.event) xs ys

-- an entry of another session is not this session's
others : (session : ℕ) (ps : List ℕ) (who : ℕ) → is_among session ps ≡ true → not (is_among who ps) ≡ true → (who == session) ≡ false
others session ps who own quiet = go (who == session) refl
  where
    go : (b : Bool) → (who == session) ≡ b → b ≡ false
    go false e = refl
    go true e = absurd (both_ways (is_among who ps) (not_true (is_among who ps) quiet) (ap (λ k. is_among k ps) (eqb-true who session e) ∙ own))

quiet_leaves : (session id : ℕ) (ps : List ℕ) (more : List Entry) → is_among session ps ≡ true → is_quiet party_of ps more ≡ true → leaves_query session id more ≡ true
quiet_leaves session id ps [] own quiet = refl
quiet_leaves session id ps (e ∷ es) own quiet =
    let parts = and_parts (not (is_among e.session ps)) (is_quiet party_of ps es) quiet in
    rw (others session ps e.session own parts.0) (quiet_leaves session id ps es own parts.1)

-- entries of other parties keep it true
abbrev pub IsStable : List ℕ → (State → Type 0) → Type 0
IsStable ps P = (s : State) (more : List Entry) → is_quiet party_of ps more ≡ true → P s → P (state_after s more)

pub ticket_stable : (session id : ℕ) (ps : List ℕ) → is_among session ps ≡ true → IsStable ps (λ s. to_collect s session id ≢ 0)
ticket_stable session id ps own s more quiet has = ticket_on session id more s (quiet_leaves session id ps more own quiet) has

pub loan_stable : (session id frames : ℕ) (ps : List ℕ) → is_among session ps ≡ true → IsStable ps (λ s. IsLent s session id frames)
loan_stable session id frames ps own s more quiet has = loan_on session id frames more s (quiet_leaves session id ps more own quiet) has

abbrev pub None_but : ℕ → List ℕ → State → Type 0
None_but session ids s = (id : ℕ) → is_among id ids ≡ false → queries_of s session id ≡ 0

and_false : (a b : Bool) → b ≡ false → (a && b) ≡ false
and_false true b e = e
and_false false b e = refl

-- an event of another session adds none
pub none_added : (s : State) (who session id : ℕ) (event : Event) (answer : Answer)
    → added_by s who event session id ≡ 0 → queries_of s session id ≡ 0 → queries_of (after_answer s who event answer) session id ≡ 0
none_added s who session id event answer adds none = omega (arith, fewer_after session id s who event answer, adds, none)

pub adds_nothing : (s : State) (who session id : ℕ) (event : Event) → (who == session) ≡ false → added_by s who event session id ≡ 0
adds_nothing s who session id (OpenSession admin) other = refl
adds_nothing s who session id CloseSession other = refl
adds_nothing s who session id (Submit p f) other = rw (and_false (next_query s == id) (who == session) other) refl
adds_nothing s who session id (Collect number) other = refl
adds_nothing s who session id (Finish number how) other = refl
adds_nothing s who session id (Cancel number) other = refl
adds_nothing s who session id (Onmode setting) other = refl

pub only_stable : (session : ℕ) (ids ps : List ℕ) → is_among session ps ≡ true → IsStable ps (None_but session ids)
only_stable session ids ps own s [] quiet has = has
only_stable session ids ps own s (e ∷ es) quiet has =
    let parts = and_parts (not (is_among e.session ps)) (is_quiet party_of ps es) quiet in
    let other = others session ps e.session own parts.0 in
    only_stable session ids ps own (next s e.session e.event) es parts.1
    (λ id absent. none_added s e.session session id e.event (decide s e.session e.event) (adds_nothing s e.session session id e.event other) (has id absent))

-- opens sessions, counted
pub open_counted : (s : State) (session : ℕ) → is_open s session ≡ true → sessions_numbered s session ≢ 0
open_counted s session opens none = go (find (λ (x : Session). x.number == session) s.sessions) refl
  where
    go : (o : Option Session) → find (λ (x : Session). x.number == session) s.sessions ≡ o → ⊥
    go None e = absurd (false≢true (sym (ap is_some (place_none (λ (x : Session). x.number == session) s.sessions e)) ∙ opens))
    go (Some x) e =
        let p : Session → Bool = λ x. x.number == session in
        let at = row_found (λ (x : Session). x.number == session) s.sessions x e in
        absurd (omega (
          arith,
          none,
          counted_row (λ (x : Session). x.number == session) s.sessions (position_or_len (λ (x : Session). x.number == session) s.sessions) x at
              (place_passes (λ (x : Session). x.number == session) s.sessions (position_or_len (λ (x : Session). x.number == session) s.sessions) x (place_found (λ (x : Session). x.number == session) s.sessions x e) at),
        ))

pub counted_open : (s : State) (session : ℕ) → sessions_numbered s session ≢ 0 → is_open s session ≡ true
counted_open s session has = go (find (λ (x : Session). x.number == session) s.sessions) refl
  where
    go : (o : Option Session) → find (λ (x : Session). x.number == session) s.sessions ≡ o → is_open s session ≡ true
    go None e = let r = some_row (λ (x : Session). x.number == session) s.sessions has in absurd (both_ways (r.1.number == session) (find_none (λ (x : Session). x.number == session) s.sessions r.0 r.1 e r.2) r.3)
    go (Some x) e = rw (place_found (λ (x : Session). x.number == session) s.sessions x e) refl

-- what an event leaves open
pub open_after : (s : State) (who session : ℕ) (event : Event) (answer : Answer) → (who == session && is_closing event) ≡ false
    → is_open s session ≡ true → is_open (after_answer s who event answer) session ≡ true
open_after s who session event answer apart opens =
    counted_open (after_answer s who event answer) session (λ none. open_counted s session opens (omega (arith, none, sessions_after session s who event answer apart)))

pub open_stable : (session : ℕ) (ps : List ℕ) → is_among session ps ≡ true → IsStable ps (λ s. IsTrue (is_open s session))
open_stable session ps own s [] quiet has = has
open_stable session ps own s (e ∷ es) quiet has =
    let parts = and_parts (not (is_among e.session ps)) (is_quiet party_of ps es) quiet in
    let other = others session ps e.session own parts.0 in
    open_stable session ps own (next s e.session e.event) es parts.1 (open_after s e.session session e.event (decide s e.session e.event) (ap (λ b. b && is_closing e.event) other) has)

-- what is true where the pass last looked is true of every state that it can find
pub known_here : (v : PassView Entry Configuration) (P : State → Type 0) (c : Configuration) → v.origin ≡ Some c → v.mine ≡ own_entries party_of v.parties v.seen → IsStable v.parties P → P (replay c v.seen) → IsKnown v P
known_here v P c origin exact stable here d found cf =
    let same : c ≡ d = same_Some c d (sym origin ∙ cf.origin) in
    let more : List Entry = cf.seen.0 in
    let is : v.seen ++ more ≡ found = cf.seen.1 in
    let own : own_entries party_of v.parties v.seen ≡ own_entries party_of v.parties v.seen ++ own_from party_of v.parties (1 + length v.seen) more
    = sym exact ∙ (cf.mine ∙ (ap (own_entries party_of v.parties) (sym is) ∙ own_from-split v.parties 1 v.seen more)) in
    let quiet = none_own_quiet v.parties (1 + length v.seen) more (no_more (own_entries party_of v.parties v.seen) (own_from party_of v.parties (1 + length v.seen) more) own) in
    subst (λ (x : Configuration). P (replay x found)) same
    (subst (λ (h : List Entry). P (replay c h)) is (subst P (sym (state_after-append (opening_state c) v.seen more)) (stable (replay c v.seen) more quiet here)))
