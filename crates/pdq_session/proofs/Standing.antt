-- The current session of a script is open before each of its lines, and no priority is above 100 percent.
use Rattle.std.proofs.Common.{ℕ, zero, suc, ◌≡◌, ◌≢◌, ◌∙◌, ◌+◌, ◌-◌, ◌<◌, ◌≤◌, List, [], ◌∷◌, ◌++◌, Option, None, Some, Result, Ok, Err, Bool, true, false, length, refl, sym, ap, subst, arith, eq-eqb}
use Rattle.std.specs.Prelude.{IsTrue, ◌&&◌, ◌||◌, ◌==◌, not, nat_le, if◌then◌else◌, count_by, is_some, slice_set}
use Rattle.std.specs.List.{position_or_len}
use Rattle.std.proofs.lemmas.Bool.{false≢true, lt-ltb}
use Rattle.std.proofs.lemmas.Bool.Decides.{nat_tests}
use Rattle.std.proofs.lemmas.List.Sums.{sum_by-append, sum_by-cons}
use Rattle.std.proofs.lemmas.Option.{none-some}
use Rattle.pdq_model.specs.declared.rows.Pending.{Pending}
use Rattle.pdq_model.specs.declared.rows.Session.{Session}
use Rattle.pdq_model.specs.declared.events.Answer.{Answer}
use Rattle.pdq_model.specs.declared.events.Answer.TheVariants.{Entered, Waits, Refuses}
use Rattle.pdq_model.specs.declared.events.Event.{Event}
use Rattle.pdq_model.specs.declared.events.Event.TheVariants.{OpenSession, CloseSession, Submit, Collect, Finish, Cancel, Onmode}
use Rattle.pdq_model.specs.declared.events.How.TheVariants.{Done, Stopped, Failed}
use Rattle.pdq_model.specs.declared.events.Reply.{Reply}
use Rattle.pdq_model.specs.declared.events.Reply.TheVariants as reply
use Rattle.pdq_model.specs.declared.events.Why.TheVariants as why
use Rattle.pdq_model.specs.State.{State, next_session}
use Rattle.pdq_model.specs.Settling.{settle, take_if_idle, take_pending, with_pending}
use Rattle.pdq_model.specs.Step.{after_answer, answer_to_open, changed, decide, entered, is_full_for, is_open, most_sessions, next, session_place}
use Rattle.pdq_model.specs.History.{MayClose, has_query, may_collect}
use Rattle.pdq_model.specs.Laws.{sessions_numbered}
use Rattle.pdq_model.specs.Kept.{is_closing}
use Rattle.pdq_model.proofs.Lists.{place_within, place_passes, row_at}
use Rattle.pdq_model.proofs.Numbers.{one_within}
use Rattle.pdq_model.proofs.Owners.{one_if}
use Rattle.pdq_model.proofs.Fewer.{sessions_stay}
use Rattle.pdq_model.proofs.Heads.{settling_admits, grown_by_admissions}
use Rattle.pdq_gate.specs.Queries.{session_of}
use Rattle.pdq_query.specs.Queries.{QueryView}
use Rattle.pdq_sql.specs.declared.faults.SqlFault.{SqlFault}
use Rattle.pdq_sql.specs.Commands.{CommandView}
use Rattle.pdq_sql.specs.Commands as command
use Rattle.pdq_reply.specs.declared.replies.Refusal.{Refusal}
use Rattle.pdq_reply.specs.declared.replies.Refusal.TheVariants as refusal
use Rattle.pdq_session.specs.Commands.{Said, is_claim}
use Rattle.pdq_reply.specs.Changes.{letter_setting, level_priority}
use Rattle.pdq_reply.specs.Replies.{chosen_text, closed_text, done_text, failed_text, priority_text}
use Rattle.pdq_session.specs.ScriptStates.{ArePercent, IsStanding, ScriptState, after_event, priority_of, text_of, with_current, with_priority}
use Rattle.pdq_session.specs.ScriptSteps.{Outcome, Stepped, claim_step, close_refusal, collect_step, end_step, finished_with, not_run, opened_by, outcome_of, own_refusal, query_step, ran_step, refused_step, set_step, submit_step, unless_refused, use_step, with_text}
use Rattle.pdq_session.specs.ScriptTranscript.{command_step, query_asked, script_step}

-- where some are counted the first has a place
counted_within : {X : Type 0} (p : X → Bool) (xs : List X) → count_by p xs ≢ 0 → position_or_len p xs < length xs
counted_within p [] some = absurd (some refl)
counted_within p (x ∷ xs) some = go (p x) refl (counted_within p xs)
  where
    go : (b : Bool) → p x ≡ b → (count_by p xs ≢ 0 → position_or_len p xs < length xs) → position_or_len p (x ∷ xs) < length (x ∷ xs)
    go true e rest = rw e (omega arith)
    go false e rest = let within : position_or_len p xs < length xs = rest (λ none. some (omega (arith, sum_by-cons (λ y. one_if (p y)) x xs, ap one_if e, none))) in rw e (omega arith)

-- a session is open where it is counted
open_numbered : (s : State) (who : ℕ) → is_open s who ≡ true → sessions_numbered s who ≢ 0
open_numbered s who is none = go (session_place s who) refl is
  where
    go : (o : Option ℕ) → session_place s who ≡ o → is_some o ≡ true → ⊥
    go None found e = false≢true e
    go (Some k) found e =
        let row = row_at s.sessions k (place_within (λ (x : Session). x.number == who) s.sessions k found) in
        absurd (omega (arith, none, one_within (λ (x : Session). one_if (x.number == who)) s.sessions k row.0 row.1, ap one_if (place_passes (λ (x : Session). x.number == who) s.sessions k row.0 found row.1)))

numbered_open : (s : State) (who : ℕ) → sessions_numbered s who ≢ 0 → is_open s who ≡ true
numbered_open s who some = rw (lt-ltb (position_or_len (λ (x : Session). x.number == who) s.sessions) (length s.sessions) (counted_within (λ (x : Session). x.number == who) s.sessions some)) refl

-- an event leaves a session open that it does not close
open_after : (s : State) (who session : ℕ) (event : Event) → (who == session && is_closing event) ≡ false → IsTrue (is_open s session) → IsTrue (is_open (next s who event) session)
open_after s who session event apart opens = numbered_open (next s who event) session (λ none. open_numbered s session opens (omega (arith, none, sessions_stay s who event (decide s who event) session apart)))

not_closing : (b : Bool) → (b && false) ≡ false
not_closing true = refl
not_closing false = refl

-- settling opens and closes no session
sessions_taken : (s : State) (o : Option Pending) → (take_if_idle s o).sessions ≡ s.sessions
sessions_taken s None = refl
sessions_taken s (Some p) = go (length s.active == 0)
  where
    go : (b : Bool) → (if b then record s { config = with_pending s.config p; pending = None } else s).sessions ≡ s.sessions
    go true = refl
    go false = refl

sessions_settled : (s : State) → (settle s).sessions ≡ s.sessions
sessions_settled s = (grown_by_admissions (take_pending s) (settle s) (settling_admits s)).sessions ∙ sessions_taken s s.pending

-- a session that was opened is open
opened_counted : (sessions : List Session) (number : ℕ) (admin : Bool) → count_by (λ (x : Session). x.number == number) (sessions ++ record { number = number; admin = admin } ∷ []) ≢ 0
opened_counted sessions number admin none =
    let one : Session = record { number = number; admin = admin } in
    let own : one_if (one.number == number) ≡ 1 = ap one_if (eq-eqb number number refl) in
    let last : count_by (λ (x : Session). x.number == number) (one ∷ []) ≡ one_if (one.number == number) + 0 = sum_by-cons (λ (x : Session). one_if (x.number == number)) one [] in
    absurd (omega (arith, none, sum_by-append (λ (x : Session). one_if (x.number == number)) sessions (one ∷ []), last, own))

opened_open : (s : State) (admin : Bool) (r : Reply) → decide s (next_session s) (OpenSession admin) ≡ Entered r → IsTrue (is_open (next s (next_session s) (OpenSession admin)) (next_session s))
opened_open s admin r e =
    let now : State = entered s (next_session s) (OpenSession admin) in
    let P : State → Type 0 = λ t. IsTrue (is_open t (next_session s)) in
    let are : now.sessions ≡ s.sessions ++ record { number = next_session s; admin = admin } ∷ [] = sessions_settled (record (changed s (next_session s) (OpenSession admin)) { entries = s.entries + 1 }) in
    subst P (sym (ap (after_answer s (next_session s) (OpenSession admin)) e))
    (numbered_open now (next_session s) (λ none. opened_counted s.sessions (next_session s) admin (sym (ap (count_by (λ (x : Session). x.number == next_session s)) are) ∙ none)))

opened_number : (s : State) (session : ℕ) → answer_to_open s ≡ Entered (reply.Opened session) → session ≡ next_session s
opened_number s session = go (nat_le most_sessions (length s.sessions)) (is_full_for s 2)
  where
    go : (many full : Bool) → (if many then Refuses why.TooManySessions else if full then Refuses why.JournalFull else Entered (reply.Opened (next_session s))) ≡ Entered (reply.Opened session) → session ≡ next_session s
    go true full e = cc
    go false true e = cc
    go false false e = cc

-- a session that is closed is open, is not the current one and has no query
pub record IsClosable (s : State) (current session : ℕ) : Type 0 where
  pub may : MayClose s session
  pub other : (session == current) ≡ false

pub closable : (s : State) (current session : ℕ) → close_refusal s current session ≡ None → IsClosable s current session
closable s current session = go (is_open s session) (session == current) (has_query s session) refl refl refl
  where
    go : (opens own has : Bool) → is_open s session ≡ opens → (session == current) ≡ own → has_query s session ≡ has
        → (if not opens then Some refusal.NoSession else if own || has then Some refusal.NotNow else None) ≡ None → IsClosable s current session
    go false own has a b c e = absurd (none-some refusal.NoSession (sym e))
    go true true has a b c e = absurd (none-some refusal.NotNow (sym e))
    go true false true a b c e = absurd (none-some refusal.NotNow (sym e))
    go true false false a b c e = record { may = record { session = a; idle = c }; other = b }

-- a query that is collected is the current session's, and can be collected
pub record IsOwn (s : State) (current id : ℕ) : Type 0 where
  pub may : IsTrue (may_collect s current id)
  pub own : session_of s id ≡ current

pub collectable : (s : State) (current id : ℕ) → own_refusal s current id ≡ None → IsOwn s current id
collectable s current id = go (may_collect s (session_of s id) id) (session_of s id == current) refl refl
  where
    go : (may own : Bool) → may_collect s (session_of s id) id ≡ may → (session_of s id == current) ≡ own
        → (if not may then Some (refusal.Manager why.NoSuchQuery) else if not own then Some (refusal.Manager why.NotAllowed) else None) ≡ None → IsOwn s current id
    go false own a b e = absurd (none-some (refusal.Manager why.NoSuchQuery) (sym e))
    go true false a b e = absurd (none-some (refusal.Manager why.NotAllowed) (sym e))
    go true true a b e =
        let same : session_of s id ≡ current = grind (arith, nat_tests) in
        record { may = sym (ap (λ who. may_collect s who id) same) ∙ a; own = same }

-- the priorities stay within 100 percent
percent_set : (xs : List ℕ) (i p : ℕ) → ArePercent xs → p ≤ 100 → ArePercent (slice_set xs i p)
percent_set [] i p all small k = all k
percent_set (x ∷ xs) zero p all small zero = small
percent_set (x ∷ xs) zero p all small (suc k) = all (suc k)
percent_set (x ∷ xs) (suc i) p all small zero = all zero
percent_set (x ∷ xs) (suc i) p all small (suc k) = percent_set xs i p (λ n. all (suc n)) small k

percent_then : (xs : List ℕ) (p : ℕ) → ArePercent xs → p ≤ 100 → ArePercent (xs ++ p ∷ [])
percent_then [] p all small zero = small
percent_then [] p all small (suc k) = all k
percent_then (x ∷ xs) p all small zero = all zero
percent_then (x ∷ xs) p all small (suc k) = percent_then xs p (λ n. all (suc n)) small k

small_percent : (p : ℕ) → nat_le p 100 ≡ true → p ≤ 100
small_percent p e = grind (arith, nat_tests)

-- an event that closes nothing, and what it leaves
standing_event : (s : ScriptState) (who : ℕ) (event : Event) → (who == s.sessions.current && is_closing event) ≡ false → IsStanding s → IsStanding (after_event s who event)
standing_event s who event apart stands = record {
  current = open_after s.manager who s.sessions.current event apart stands.current;
  opening = stands.opening;
  priorities = stands.priorities;
  scannable = stands.scannable;
}

standing_by_own : (s : ScriptState) (event : Event) → is_closing event ≡ false → IsStanding s → IsStanding (after_event s s.sessions.current event)
standing_by_own s event keeps stands = standing_event s s.sessions.current event (ap (λ b. (s.sessions.current == s.sessions.current) && b) keeps ∙ not_closing (s.sessions.current == s.sessions.current)) stands

standing_refused : (s : ScriptState) (o : Option Refusal) (step : Stepped) → IsStanding s → (o ≡ None → IsStanding step.state) → IsStanding (unless_refused s o step).state
standing_refused s None step stands goes = goes refl
standing_refused s (Some reason) step stands goes = stands

standing_set : (s : ScriptState) (p : ℕ) → IsStanding s → IsStanding (set_step s p).state
standing_set s p stands = go (nat_le p 100) refl
  where
    go : (b : Bool) → nat_le p 100 ≡ b → IsStanding (if b then record { text = priority_text p; state = record s { sessions = with_priority s.sessions p } } else refused_step s refusal.OutOfRange).state
    go true e = record { current = stands.current; opening = stands.opening; priorities = percent_set s.sessions.priorities (s.sessions.current - 1) p stands.priorities (small_percent p e); scannable = stands.scannable }
    go false e = stands

standing_claim : (s : ScriptState) (p f : ℕ) → IsStanding s → IsStanding (claim_step s p f).state
standing_claim s p f stands = go (is_claim p f)
  where
    go : (b : Bool) → IsStanding (if b then submit_step s p f else refused_step s refusal.OutOfRange).state
    go true = standing_by_own s (Submit p f) refl stands
    go false = stands

standing_opened : (s : ScriptState) (admin : Bool) (answer : Answer) → decide s.manager (next_session s.manager) (OpenSession admin) ≡ answer → IsStanding s → IsStanding (opened_by s admin answer).state
standing_opened s admin (Entered (reply.Opened session)) e stands =
    let P : ℕ → Type 0 = λ k. IsTrue (is_open (next s.manager (next_session s.manager) (OpenSession admin)) k) in record {
      current = subst P (sym (opened_number s.manager session e)) (opened_open s.manager admin (reply.Opened session) e);
      opening = stands.opening;
      priorities = percent_then s.sessions.priorities s.sessions.opening stands.priorities stands.opening;
      scannable = stands.scannable;
    }
standing_opened s admin (Entered other) e stands = stands
standing_opened s admin (Waits gate) e stands = stands
standing_opened s admin (Refuses reason) e stands = stands

standing_use : (s : ScriptState) (session : ℕ) → IsStanding s → IsStanding (use_step s session).state
standing_use s session stands = go (is_open s.manager session) refl
  where
    go : (b : Bool) → is_open s.manager session ≡ b → IsStanding (if b then record { text = chosen_text session; state = record s { sessions = with_current s.sessions session } } else refused_step s refusal.NoSession).state
    go true e = record { current = e; opening = stands.opening; priorities = stands.priorities; scannable = stands.scannable }
    go false e = stands

standing_end : (s : ScriptState) (id : ℕ) (outcome : Outcome) → IsStanding s → IsStanding (end_step s id outcome).state
standing_end s id outcome stands = go outcome.failed
  where
    go : (b : Bool) → IsStanding (if b then finished_with (λ step. outcome.text ++ failed_text id step) s id Failed else finished_with (λ step. outcome.text ++ done_text id step) s id Done).state
    go true = standing_by_own s (Finish id Failed) refl stands
    go false = standing_by_own s (Finish id Done) refl stands

pub standing_collect : (s : ScriptState) (id : ℕ) (outcome : Outcome) (answer : Answer) → IsStanding s → IsStanding (collect_step s id outcome answer).state
standing_collect s id outcome (Entered (reply.Granted quanta scans priority None)) stands = standing_end (after_event s s.sessions.current (Collect id)) id outcome (standing_by_own s (Collect id) refl stands)
standing_collect s id outcome (Entered (reply.Granted quanta scans priority (Some by))) stands = standing_by_own (after_event s s.sessions.current (Collect id)) (Finish id Stopped) refl (standing_by_own s (Collect id) refl stands)
standing_collect s id outcome (Entered (reply.Cancelled by)) stands = standing_by_own s (Collect id) refl stands
standing_collect s id outcome other stands = stands

standing_ran : (s : ScriptState) (failed : Bool) (id : ℕ) (text : Option QueryView) → IsStanding s → IsStanding (ran_step s failed id text).state
standing_ran s failed id None stands = stands
standing_ran s failed id (Some q) stands = standing_collect s id (outcome_of s.asked q failed) (decide s.manager s.sessions.current (Collect id)) stands

standing_text : (s : ScriptState) (q : QueryView) (answer : Answer) (step : Stepped) → IsStanding step.state → IsStanding (with_text s q answer step).state
standing_text s q (Entered r) step stands = record { current = stands.current; opening = stands.opening; priorities = stands.priorities; scannable = stands.scannable }
standing_text s q (Waits gate) step stands = stands
standing_text s q (Refuses reason) step stands = stands

pub standing_query : (s : ScriptState) (r : Result QueryView SqlFault) → IsStanding s → IsStanding (query_step s r).state
standing_query s (Err e) stands = stands
standing_query s (Ok q) stands =
    let p : ℕ = priority_of s.sessions s.sessions.current in
    standing_text s q (decide s.manager s.sessions.current (Submit p (s.asked.widest q))) (submit_step s p (s.asked.widest q)) (standing_by_own s (Submit p (s.asked.widest q)) refl stands)

pub standing_command : (s : ScriptState) (failed : Bool) (c : CommandView) → IsStanding s → IsStanding (command_step s failed c).state
unfolding command_step
standing_command s failed (command.SetPriority level) stands = standing_set s (level_priority s.sessions.opening level) stands
standing_command s failed (command.Query ast) stands = standing_query s (query_asked s.asked ast) stands
standing_command s failed (command.Cancel id) stands = standing_by_own s (Cancel id) refl stands
standing_command s failed command.Onstat stands = stands
standing_command s failed (command.Onmode letter v) stands = standing_by_own s (Onmode (letter_setting letter v)) refl stands
standing_command s failed (command.Claim p f) stands = standing_claim s p f stands
standing_command s failed (command.Run id) stands = standing_refused s (own_refusal s.manager s.sessions.current id) (ran_step s failed id (text_of s id)) stands (λ own. standing_ran s failed id (text_of s id) stands)
standing_command s failed (command.Done id) stands =
    standing_refused s (own_refusal s.manager s.sessions.current id) (collect_step s id not_run (decide s.manager s.sessions.current (Collect id))) stands (λ own. standing_collect s id not_run (decide s.manager s.sessions.current (Collect id)) stands)
standing_command s failed (command.OpenSession admin) stands = standing_opened s admin (decide s.manager (next_session s.manager) (OpenSession admin)) refl stands
standing_command s failed (command.Choose session) stands = standing_use s session stands
standing_command s failed (command.CloseSession session) stands =
    standing_refused s (close_refusal s.manager s.sessions.current session) (record { text = closed_text session (next s.manager session CloseSession).entries; state = after_event s session CloseSession }) stands
    (λ free. standing_event s session CloseSession (ap (λ b. b && true) (closable s.manager s.sessions.current session free).other) stands)
standing_command s failed command.Hello stands = stands
standing_command s failed command.Admin stands = stands
standing_command s failed command.Quit stands = stands
standing_command s failed command.Shutdown stands = stands

pub standing_step : (s : ScriptState) (failed : Bool) (says : Said) → IsStanding s → IsStanding (script_step s failed says).state
standing_step s failed (Ok (Some c)) stands = standing_command s failed c stands
standing_step s failed (Ok None) stands = stands
standing_step s failed (Err place) stands = stands
