-- A pool of the wrong size has another session's change for its cause.
use Rattle.std.proofs.Common.{ℕ, zero, suc, ◌≡◌, ◌≢◌, ◌∙◌, ◌+◌, ◌-◌, ◌<◌, ◌≤◌, List, [], ◌∷◌, ◌++◌, length, take, drop, Option, None, Some, Bool, true, false, refl, sym, ap, subst, arith, inl, inr, length-append}
use Rattle.std.specs.Prelude.{◌⊎◌, ◌==◌, ◌&&◌, ◌||◌, not, slice_get, position, unwrap_or, option_map, if◌then◌else◌}
use Rattle.std.specs.List.{list_any}
use Rattle.std.proofs.lemmas.Bool.{false≢true, eq-eqb, ne_eqb}
use Rattle.pdq_model.specs.declared.rows.Waiting.{Waiting}
use Rattle.pdq_model.specs.declared.rows.Session.{Session}
use Rattle.pdq_model.specs.declared.rows.Pending.{Pending}
use Rattle.pdq_model.specs.declared.events.Entry.{Entry}
use Rattle.pdq_model.specs.declared.events.Event.{Event}
use Rattle.pdq_model.specs.declared.events.Event.TheVariants.{OpenSession, CloseSession, Submit, Collect, Finish, Cancel, Onmode}
use Rattle.pdq_model.specs.declared.events.Reply.{Reply}
use Rattle.pdq_model.specs.declared.events.Setting.{Setting}
use Rattle.pdq_model.specs.declared.events.Setting.TheVariants.{MaxPriority, TotalMemory, MaxQueries, MaxScans, NonPdq}
use Rattle.pdq_model.specs.declared.events.Why.TheVariants as why
use Rattle.pdq_model.specs.declared.events.Answer.{Answer}
use Rattle.pdq_model.specs.declared.events.Answer.TheVariants.{Entered, Waits, Refuses}
use Rattle.pdq_model.specs.Configuration.{Configuration, is_valid}
use Rattle.pdq_model.specs.State.{State, opening_state, next_session}
use Rattle.pdq_model.specs.Settling.{settle, take_pending, take_if_idle, with_pending}
use Rattle.pdq_model.specs.Step.{PoolSize, answer_to_change, changed_reply, decide, next, after_answer, has_size, is_admin, is_full_for, needs_pool, pending_or_present, pool_size_of, target_of, withdraw, cancelled, without, session_place}
use Rattle.pdq_model.specs.History.{IsLegal, IsLegalFrom, MayOccur, replay, state_after}
use Rattle.pdq_model.specs.Laws.{counted}
use Rattle.pdq_model.proofs.Heads.{settling_admits, grown_by_admissions}
use Rattle.pdq_talk.specs.History.{IsChangedByAnother, entry_of}
use Rattle.pdq_reply.specs.Changes.{pool_made}

-- no entry is of this session
abbrev pub AllOthers : ℕ → List Entry → Type 0
AllOthers who [] = Unit {0}
AllOthers who (e ∷ es) = (e.session ≢ who) × AllOthers who es

module _ (s : State) where
  taken_same : (o : Option Pending) → s.pending ≡ o → pending_or_present (take_if_idle s o) ≡ pending_or_present s
  taken_same None e = refl
  taken_same (Some p) e = go (length s.active == 0)
    where
      go : (b : Bool) → pending_or_present (if b then record s { config = with_pending s.config p; pending = None } else s) ≡ pending_or_present s
      go true = sym (ap (λ (o : Option Pending). unwrap_or (option_map (with_pending s.config) o) s.config) e)
      go false = refl

  settled_same : pending_or_present (settle s) ≡ pending_or_present s
  settled_same =
      let g = grown_by_admissions (take_pending s) (settle s) (settling_admits s) in
      ap (λ (c : Configuration). unwrap_or (option_map (with_pending c) (settle s).pending) c) g.config
      ∙ (ap (λ (o : Option Pending). unwrap_or (option_map (with_pending (take_pending s).config) o) (take_pending s).config) g.pending ∙ taken_same s.pending refl)

  taken_sessions : (o : Option Pending) → (take_if_idle s o).sessions ≡ s.sessions
  taken_sessions None = refl
  taken_sessions (Some p) = go (length s.active == 0)
    where
      go : (b : Bool) → (if b then record s { config = with_pending s.config p; pending = None } else s).sessions ≡ s.sessions
      go true = refl
      go false = refl

  settled_sessions : (settle s).sessions ≡ s.sessions
  settled_sessions = (grown_by_admissions (take_pending s) (settle s) (settling_admits s)).sessions ∙ taken_sessions s.pending

abbrev is_change : Event → Bool
is_change (OpenSession admin) = false
is_change CloseSession = false
is_change (Submit p f) = false
is_change (Collect id) = false
is_change (Finish id how) = false
is_change (Cancel id) = false
is_change (Onmode setting) = true

-- a cancellation changes neither
cancelled_all : (X : Type 0) (f : State → X) (s : State) (step id : ℕ) (o : Option ℕ) → ((t : State) → t.config ≡ s.config → t.pending ≡ s.pending → t.sessions ≡ s.sessions → f t ≡ f s) → f (cancelled s step id o) ≡ f s
cancelled_all X f s step id None same = same (cancelled s step id None) refl refl refl
cancelled_all X f s step id (Some place) same = go (slice_get s.waiting place)
  where
    go : (row : Option Waiting) → f (withdraw s step place row) ≡ f s
    go None = refl
    go (Some w) = same (withdraw s step place (Some w)) refl refl refl

counted_same : (s : State) (who : ℕ) (event : Event) → is_change event ≡ false → pending_or_present (counted s who event) ≡ pending_or_present s
counted_same s who (OpenSession admin) n = refl
counted_same s who CloseSession n = refl
counted_same s who (Submit p f) n = refl
counted_same s who (Collect id) n = refl
counted_same s who (Finish id how) n = refl
counted_same s who (Cancel id) n = cancelled_all Configuration pending_or_present s (s.entries + 1) id (position (λ (w : Waiting). w.id == id) s.waiting)
    (λ t a b c. ap (λ (x : Configuration). unwrap_or (option_map (with_pending x) t.pending) x) a ∙ ap (λ (o : Option Pending). unwrap_or (option_map (with_pending s.config) o) s.config) b)
counted_same s who (Onmode setting) n = absurd (false≢true (sym n))

next_same : (s : State) (who : ℕ) (event : Event) → is_change event ≡ false → pending_or_present (next s who event) ≡ pending_or_present s
next_same s who event n = go (decide s who event)
  where
    go : (a : Answer) → pending_or_present (after_answer s who event a) ≡ pending_or_present s
    go (Entered r) = settled_same (counted s who event) ∙ counted_same s who event n
    go (Waits gate) = refl
    go (Refuses why) = refl

-- an administrator is one before, unless it opens just then
any_append : {X : Type 0} (p : X → Bool) (xs ys : List X) → list_any p (xs ++ ys) ≡ true → (list_any p xs ≡ true) ⊎ (list_any p ys ≡ true)
any_append p [] ys e = inr e
any_append p (x ∷ xs) ys e = go (p x) (λ h. any_append p xs ys h) e
  where
    go : (b : Bool) → (list_any p (xs ++ ys) ≡ true → (list_any p xs ≡ true) ⊎ (list_any p ys ≡ true)) → (b || list_any p (xs ++ ys)) ≡ true → ((b || list_any p xs) ≡ true) ⊎ (list_any p ys ≡ true)
    go true rest h = inl refl
    go false rest h = rest h

any_take : {X : Type 0} (p : X → Bool) (k : ℕ) (xs : List X) → list_any p (take k xs) ≡ true → list_any p xs ≡ true
any_take p zero xs e = absurd (false≢true e)
any_take p (suc k) [] e = absurd (false≢true e)
any_take p (suc k) (x ∷ xs) e = go (p x) (λ h. any_take p k xs h) e
  where
    go : (b : Bool) → (list_any p (take k xs) ≡ true → list_any p xs ≡ true) → (b || list_any p (take k xs)) ≡ true → (b || list_any p xs) ≡ true
    go true rest h = refl
    go false rest h = rest h

any_drop : {X : Type 0} (p : X → Bool) (k : ℕ) (xs : List X) → list_any p (drop k xs) ≡ true → list_any p xs ≡ true
any_drop p zero xs e = e
any_drop p (suc k) [] e = absurd (false≢true e)
any_drop p (suc k) (x ∷ xs) e = go (p x) (any_drop p k xs e)
  where
    go : (b : Bool) → list_any p xs ≡ true → (b || list_any p xs) ≡ true
    go true h = refl
    go false h = h

any_without : {X : Type 0} (p : X → Bool) (xs : List X) (o : Option ℕ) → list_any p (without xs o) ≡ true → list_any p xs ≡ true
any_without p xs None e = e
any_without p xs (Some k) e = go (any_append p (take k xs) (drop (suc k) xs) e)
  where
    go : (list_any p (take k xs) ≡ true) ⊎ (list_any p (drop (suc k) xs) ≡ true) → list_any p xs ≡ true
    go (inl h) = any_take p k xs h
    go (inr h) = any_drop p (suc k) xs h

counted_admin : (s : State) (by n : ℕ) (event : Event) → is_change event ≡ false → MayOccur s by event → by ≢ n → is_admin (counted s by event) n ≡ true → is_admin s n ≡ true
counted_admin s by n (OpenSession admin) none may apart e = go (any_append (λ (x : Session). x.number == n && x.admin) s.sessions (record { number = next_session s; admin = admin } ∷ []) e)
  where
    off : (next_session s == n) ≡ false
    off = ne_eqb (next_session s) n (λ is. apart (may ∙ is))

    clash : (b : Bool) → b ≡ false → ((b && admin) || false) ≡ true → ⊥
    clash true x y = false≢true (sym x)
    clash false x y = false≢true y

    go : (is_admin s n ≡ true) ⊎ (((next_session s == n && admin) || false) ≡ true) → is_admin s n ≡ true
    go (inl h) = h
    go (inr h) = absurd (clash (next_session s == n) off h)
counted_admin s by n CloseSession none may apart e = any_without (λ (x : Session). x.number == n && x.admin) s.sessions (session_place s by) e
counted_admin s by n (Submit p f) none may apart e = e
counted_admin s by n (Collect id) none may apart e = e
counted_admin s by n (Finish id how) none may apart e = e
counted_admin s by n (Cancel id) none may apart e =
    sym (cancelled_all Bool (λ (t : State). is_admin t n) s (s.entries + 1) id (position (λ (w : Waiting). w.id == id) s.waiting) (λ t a b c. ap (list_any (λ (x : Session). x.number == n && x.admin)) c)) ∙ e
counted_admin s by n (Onmode setting) none may apart e = absurd (false≢true (sym none))

next_admin : (s : State) (by n : ℕ) (event : Event) → is_change event ≡ false → MayOccur s by event → by ≢ n → is_admin (next s by event) n ≡ true → is_admin s n ≡ true
next_admin s by n event none may apart e = go (decide s by event) e
  where
    go : (a : Answer) → is_admin (after_answer s by event a) n ≡ true → is_admin s n ≡ true
    go (Entered r) h = counted_admin s by n event none may apart (sym (ap (list_any (λ (x : Session). x.number == n && x.admin)) (settled_sessions (counted s by event))) ∙ h)
    go (Waits gate) h = h
    go (Refuses why) h = h

record SameFor (who : ℕ) (s t : State) : Type 0 where
  asked : pending_or_present t ≡ pending_or_present s
  admin : is_admin t who ≡ true → is_admin s who ≡ true

-- a change among these entries, of another session
record FoundChange (who : ℕ) (more : List Entry) : Type 0 where
  place : ℕ
  other : ℕ
  setting : Setting
  reply : Reply
  at : slice_get more place ≡ Some (entry_of other (Onmode setting) reply)
  within : place < length more
  is_other : other ≢ who

later_change : (who : ℕ) (e : Entry) (es : List Entry) → FoundChange who es → FoundChange who (e ∷ es)
later_change who e es f = record { place = suc f.place; other = f.other; setting = f.setting; reply = f.reply; at = f.at; within = (let l : f.place < length es = f.within in omega arith); is_other = f.is_other }

here_change : (who : ℕ) (n : ℕ) (event : Event) (reply : Reply) (es : List Entry) → is_change event ≡ true → n ≢ who → FoundChange who (entry_of n event reply ∷ es)
here_change who n (Onmode setting) reply es c apart = record { place = 0; other = n; setting = setting; reply = reply; at = refl; within = omega arith; is_other = apart }
here_change who n (OpenSession admin) reply es c apart = absurd (false≢true c)
here_change who n CloseSession reply es c apart = absurd (false≢true c)
here_change who n (Submit p f) reply es c apart = absurd (false≢true c)
here_change who n (Collect id) reply es c apart = absurd (false≢true c)
here_change who n (Finish id how) reply es c apart = absurd (false≢true c)
here_change who n (Cancel id) reply es c apart = absurd (false≢true c)

same_or_changed : (who : ℕ) (s : State) (more : List Entry) → IsLegalFrom s more → AllOthers who more → FoundChange who more ⊎ SameFor who s (state_after s more)
same_or_changed who s [] legal others = inr (record { asked = refl; admin = λ h. h })
same_or_changed who s (e ∷ es) legal others = go (is_change e.event) refl (same_or_changed who (next s e.session e.event) es legal.2 others.1)
  where
    go : (b : Bool) → is_change e.event ≡ b → FoundChange who es ⊎ SameFor who (next s e.session e.event) (state_after (next s e.session e.event) es) → FoundChange who (e ∷ es) ⊎ SameFor who s (state_after s (e ∷ es))
    go true c rest = inl (here_change who e.session e.event e.reply es c others.0)
    go false c (inl f) = inl (later_change who e es f)
    go false c (inr same) = inr (record {
      asked = same.asked ∙ next_same s e.session e.event c;
      admin = λ h. next_admin s e.session who e.event c legal.0 others.0 (same.admin h);
    })

same_target : (s t : State) (setting : Setting) → pending_or_present t ≡ pending_or_present s → target_of t setting ≡ target_of s setting
same_target s t (MaxPriority v) e = ap (λ (c : Configuration). record c { max_priority = v }) e
same_target s t (TotalMemory v) e = ap (λ (c : Configuration). record c { total_kb = v }) e
same_target s t (MaxQueries v) e = ap (λ (c : Configuration). record c { max_queries = v }) e
same_target s t (MaxScans v) e = ap (λ (c : Configuration). record c { max_scans = v }) e
same_target s t (NonPdq v) e = ap (λ (c : Configuration). record c { nonpdq_kb = v }) e

own_size : (a : PoolSize) → has_size a a ≡ true
own_size a = rw (eq-eqb a.quanta a.quanta refl, eq-eqb a.frames a.frames refl) refl

-- the answer by its tests
abbrev answered : State → ℕ → Setting → Bool → Bool → Bool → Bool → Bool → Answer
answered t who setting x y z v w = if not x then Refuses why.NotAllowed else if not y then Refuses why.BadValue else if z && not v then Refuses (why.PoolSize (pool_size_of t setting).quanta (pool_size_of t setting).frames) else if w then Refuses why.JournalFull else Entered (changed_reply t who setting)

-- where the state asks for the same, the pool made by it fits
never_refused : (who : ℕ) (s t : State) (setting : Setting) (quanta frames : ℕ) → SameFor who s t → answer_to_change t who setting (pool_made s who setting) ≡ Refuses (why.PoolSize quanta frames) → ⊥
never_refused who s t setting quanta frames same e = go (is_admin t who) refl (is_valid (target_of t setting)) refl (needs_pool setting) (is_full_for t 1) e
  where
    target : target_of t setting ≡ target_of s setting
    target = same_target s t setting same.asked

    sized : pool_size_of t setting ≡ pool_size_of s setting
    sized = ap (λ (c : Configuration). record { quanta = c.max_queries; frames = Rattle.pdq_model.specs.Configuration.frames_per_quantum c }) target

    fits : is_admin t who ≡ true → is_valid (target_of t setting) ≡ true → has_size (pool_made s who setting) (pool_size_of t setting) ≡ true
    fits admin valid = rw (same.admin admin, sym (ap is_valid target) ∙ valid) (ap (has_size (pool_size_of s setting)) sized ∙ own_size (pool_size_of s setting))

    last : (z v w : Bool) → v ≡ true → answered t who setting true true z v w ≡ Refuses (why.PoolSize quanta frames) → ⊥
    last z false w f h = false≢true f
    last true true true f h = cc
    last true true false f h = cc
    last false true true f h = cc
    last false true false f h = cc

    go : (x : Bool) → is_admin t who ≡ x → (y : Bool) → is_valid (target_of t setting) ≡ y → (z w : Bool) → answered t who setting x y z (has_size (pool_made s who setting) (pool_size_of t setting)) w ≡ Refuses (why.PoolSize quanta frames) → ⊥
    go false a y b z w h = cc
    go true a false b z w h = cc
    go true a true b z w h = last z (has_size (pool_made s who setting) (pool_size_of t setting)) w (fits a b) h

get_behind : (xs ys : List Entry) (k : ℕ) (e : Entry) → slice_get ys k ≡ Some e → slice_get (xs ++ ys) (length xs + k) ≡ Some e
get_behind [] ys k e is = let z : length {A = Entry} [] + k ≡ k = omega arith in subst (λ (n : ℕ). slice_get ys n ≡ Some e) (sym z) is
get_behind (x ∷ xs) ys k e is = let z : length (x ∷ xs) + k ≡ suc (length xs + k) = omega arith in subst (λ (n : ℕ). slice_get (x ∷ xs ++ ys) n ≡ Some e) (sym z) (get_behind xs ys k e is)

legal_rest : (s : State) (xs ys : List Entry) → IsLegalFrom s (xs ++ ys) → IsLegalFrom (state_after s xs) ys
legal_rest s [] ys legal = legal
legal_rest s (x ∷ xs) ys legal = legal_rest (next s x.session x.event) xs ys legal.2

after_both : (s : State) (xs ys : List Entry) → state_after s (xs ++ ys) ≡ state_after (state_after s xs) ys
after_both s [] ys = refl
after_both s (x ∷ xs) ys = after_both (next s x.session x.event) xs ys

-- the law: the pool was made by the state after `seen`; what came since is of other sessions
pub pool_cause : (c : Configuration) (seen more : List Entry) (who last quanta frames : ℕ) (setting : Setting) → IsLegal c (seen ++ more) → AllOthers who more → last ≤ length seen
    → answer_to_change (replay c (seen ++ more)) who setting (pool_made (replay c seen) who setting) ≡ Refuses (why.PoolSize quanta frames) → IsChangedByAnother (seen ++ more) who last (length (seen ++ more))
pool_cause c seen more who last quanta frames setting legal others within e = go (same_or_changed who (replay c seen) more (legal_rest (opening_state c) seen more legal) others)
  where
    go : FoundChange who more ⊎ SameFor who (replay c seen) (state_after (replay c seen) more) → IsChangedByAnother (seen ++ more) who last (length (seen ++ more))
    go (inl f) = record {
      place = length seen + f.place + 1;
      other = f.other;
      setting = f.setting;
      reply = f.reply;
      later = omega arith;
      within = (let l : f.place < length more = f.within in omega (arith, length-append seen more));
      stands = record { from_one = omega arith; at = (let z : length seen + f.place + 1 - 1 ≡ length seen + f.place = omega arith in subst (λ (n : ℕ). slice_get (seen ++ more) n ≡ Some (entry_of f.other (Onmode f.setting) f.reply)) (sym z) (get_behind seen more f.place _ f.at)) };
      is_other = f.is_other;
    }
    go (inr same) = absurd (never_refused who (replay c seen) (state_after (replay c seen) more) setting quanta frames same (subst (λ (t : State). answer_to_change t who setting (pool_made (replay c seen) who setting) ≡ Refuses (why.PoolSize quanta frames)) (after_both (opening_state c) seen more) e))
