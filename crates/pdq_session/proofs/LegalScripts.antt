-- A legal history leads to the manager's state after each line of a script.
use Rattle.std.proofs.Common.{ℕ, zero, suc, ◌≡◌, ◌+◌, ◌-◌, ◌≤◌, List, [], ◌∷◌, ◌++◌, Option, None, Some, Result, Ok, Err, Bool, true, false, length, refl, sym, ap, ◌∙◌, subst, arith}
use Rattle.std.specs.Prelude.{IsTrue, ◌&&◌, ◌==◌, nat_le, if◌then◌else◌, position, slice_get, slice_set, sum_by, option_and_then}
use Rattle.std.specs.List.{position_or_len}
use Rattle.std.proofs.lemmas.Bool.Decides.{nat_tests}
use Rattle.std.proofs.lemmas.List.{length-set}
use Rattle.std.proofs.lemmas.Option.{none-some}
use Rattle.pdq_model.specs.declared.rows.Waiting.{Waiting}
use Rattle.pdq_model.specs.declared.rows.Active.{Active}
use Rattle.pdq_model.specs.declared.rows.Withdrawn.{Withdrawn}
use Rattle.pdq_model.specs.declared.rows.Pending.{Pending}
use Rattle.pdq_model.specs.declared.events.Answer.{Answer}
use Rattle.pdq_model.specs.declared.events.Answer.TheVariants.{Entered, Waits, Refuses}
use Rattle.pdq_model.specs.declared.events.Entry.{Entry}
use Rattle.pdq_model.specs.declared.events.Event.{Event}
use Rattle.pdq_model.specs.declared.events.Event.TheVariants.{OpenSession, CloseSession, Submit, Collect, Finish, Cancel, Onmode}
use Rattle.pdq_model.specs.declared.events.How.{How}
use Rattle.pdq_model.specs.declared.events.How.TheVariants.{Done, Stopped, Failed}
use Rattle.pdq_model.specs.declared.events.Reply.{Reply}
use Rattle.pdq_model.specs.declared.events.Reply.TheVariants as reply
use Rattle.pdq_model.specs.Configuration.{Configuration, IsValid}
use Rattle.pdq_model.specs.State.{State, next_session, opening_state}
use Rattle.pdq_model.specs.Gates.{refusing_gate, waiting_place}
use Rattle.pdq_model.specs.Settling.{settle, admit_all, take_if_idle, with_pending, IsSettled}
use Rattle.pdq_model.specs.Step.{changed, changed_at, collected, entered, decide, next, after_answer, answer_to_collect, active_place, active_row, withdrawn_place, withdrawn_of, without, is_open, is_entered}
use Rattle.pdq_model.specs.History.{IsLegal, IsLegalFrom, IsReplyTo, MayOccur, may_collect, was_collected, state_after, replay}
use Rattle.pdq_model.specs.Laws.{IsWithinLimits, IsAtRest, IsOvertakenLittle, AdmitsHeads}
use Rattle.pdq_model.proofs.Lists.{sum_by_changed}
use Rattle.pdq_model.proofs.Soundness.{heads_none}
use Rattle.pdq_model.proofs.Histories.{settled_replay, limits_are_kept, entries_settle, only_heads_are_admitted, overtaking_is_bounded}
use Rattle.pdq_gate.proofs.Quiet.{settled_too}
use Rattle.pdq_reply.specs.declared.replies.LineFault.{LineFault}
use Rattle.pdq_reply.specs.declared.replies.Refusal.{Refusal}
use Rattle.pdq_reply.specs.declared.replies.Refusal.TheVariants as refusal
use Rattle.pdq_base.specs.Lines.{InputLine, lines_of, size_of, without_return}
use Rattle.pdq_gate.specs.Journal.{history_after}
use Rattle.pdq_query.specs.Queries.{QueryView}
use Rattle.pdq_sql.specs.declared.faults.SqlFault.{SqlFault}
use Rattle.pdq_sql.specs.Commands.{CommandView}
use Rattle.pdq_sql.specs.Commands as command
use Rattle.pdq_session.specs.Commands.{Said, is_claim, line_of}
use Rattle.pdq_reply.specs.Changes.{letter_setting, level_priority}
use Rattle.pdq_reply.specs.Replies.{chosen_text, closed_text, done_text, failed_text, priority_text}
use Rattle.pdq_session.specs.ScriptStates.{ArePercent, AreScannable, AskedTables, IsStanding, ScriptState, after_event, own_session, priority_of, starting_state, text_of, with_current, with_priority}
use Rattle.pdq_session.specs.ScriptSteps.{Outcome, Stepped, claim_step, close_refusal, collect_step, end_step, finished_with, not_run, opened_by, outcome_of, own_refusal, query_step, ran_step, refused_step, set_step, submit_step, unless_refused, use_step, with_text}
use Rattle.pdq_session.specs.ScriptTranscript.{Failures, Out, after, command_step, fails_later, fails_now, fault_at, query_asked, run_lines, script_step, script_transcript, unless_fault}
use Rattle.pdq_session.specs.ScriptLaws.{KeepsRules, ScriptsKeepRules, TranscriptsKeepRules, state_after_lines}
use Rattle.pdq_session.proofs.Standing.{closable, collectable, standing_step}

-- the journal is a legal history that leads to this state
pub record IsLedTo (c : Configuration) (s : State) (history : List Entry) : Type 0 where
  pub legal : IsLegal c history
  pub same : s ≡ replay c history

-- one more entry
legal_then : (s : State) (history : List Entry) (e : Entry) → IsLegalFrom s history → MayOccur (state_after s history) e.session e.event → IsReplyTo (state_after s history) e.session e.event e.reply → IsLegalFrom s (history ++ e ∷ [])
legal_then s [] e legal may replied = (may, replied, tt)
legal_then s (first ∷ history) e legal may replied = (legal.0, legal.1, legal_then (next s first.session first.event) history e legal.2 may replied)

state_then : (s : State) (history : List Entry) (e : Entry) → state_after s (history ++ e ∷ []) ≡ next (state_after s history) e.session e.event
state_then s [] e = refl
state_then s (first ∷ history) e = state_then (next s first.session first.event) history e

abbrev entry_of : ℕ → Event → Reply → Entry
entry_of who event r = record { session = who; event = event; reply = r }

-- an event that may occur makes an entry or changes nothing
pub led_event : (c : Configuration) (s : State) (history : List Entry) (who : ℕ) (event : Event) → IsLedTo c s history → MayOccur s who event → IsLedTo c (next s who event) (history_after history who event (decide s who event))
led_event c s history who event led may = go (decide s who event) refl
  where
    go : (answer : Answer) → decide s who event ≡ answer → IsLedTo c (after_answer s who event answer) (history_after history who event answer)
    go (Entered r) e = record {
      legal = legal_then (opening_state c) history (entry_of who event r) led.legal (subst (λ (t : State). MayOccur t who event) led.same may) (subst (λ (t : State). IsReplyTo t who event r) led.same e);
      same = sym (ap (λ a. after_answer s who event a) e) ∙ ap (λ (t : State). next t who event) led.same ∙ sym (state_then (opening_state c) history (entry_of who event r));
    }
    go (Waits gate) e = led
    go (Refuses reason) e = led

-- a settled state settles to itself
pub nothing_taken : (s : State) (o : Option Pending) → s.pending ≡ o → (length s.active ≡ 0 → s.pending ≡ None) → take_if_idle s o ≡ s
nothing_taken s None e changed = refl
nothing_taken s (Some p) e changed = go (length s.active == 0) refl
  where
    go : (b : Bool) → (length s.active == 0) ≡ b → (if b then record s { config = with_pending s.config p; pending = None } else s) ≡ s
    go true idle = absurd (none-some p (sym (changed (grind (arith, nat_tests))) ∙ e))
    go false busy = refl

pub settle_settled : (s : State) → IsSettled s → settle s ≡ s
unfolding settle
settle_settled s settled = ap admit_all (nothing_taken s s.pending refl settled.changed) ∙ heads_none s (length s.waiting) settled.heads

-- a list in which a row is changed
pub get_changed : {X : Type 0} (xs : List X) (k : ℕ) (x y : X) → slice_get xs k ≡ Some x → slice_get (slice_set xs k y) k ≡ Some y
get_changed [] k x y there = absurd (none-some x there)
get_changed (z ∷ zs) zero x y there = refl
get_changed (z ∷ zs) (suc k) x y there = get_changed zs k x y there

first_changed : {X : Type 0} (p : X → Bool) (xs : List X) (k : ℕ) (x y : X) → slice_get xs k ≡ Some x → p y ≡ p x → position_or_len p (slice_set xs k y) ≡ position_or_len p xs
first_changed p [] k x y there same = absurd (none-some x there)
first_changed p (z ∷ zs) zero x y there same = let e : z ≡ x = cc in rw (same, e) refl
first_changed p (z ∷ zs) (suc k) x y there same = rw (first_changed p zs k x y there same) refl

place_changed : {X : Type 0} (p : X → Bool) (xs : List X) (k : ℕ) (x y : X) → slice_get xs k ≡ Some x → p y ≡ p x → position p (slice_set xs k y) ≡ position p xs
place_changed p xs k x y there same = rw (first_changed p xs k x y there same, length-set xs k y) refl

sum_kept : (f : Active → ℕ) (rows : List Active) (place : ℕ) (a b : Active) → slice_get rows place ≡ Some a → f b ≡ f a → sum_by f (slice_set rows place b) ≡ sum_by f rows
sum_kept f rows place a b there same = omega (arith, sum_by_changed f rows place a b there)

-- where an active query is collected, and that is entered
abbrev pub when_collected : State → ℕ → ℕ → ℕ → Active → State
when_collected s who id place a = record s { active = slice_set s.active place (collected a); withdrawn = without s.withdrawn (withdrawn_place s who id); entries = s.entries + 1 }

-- no gate sees that
gates_kept : (s : State) (who id place : ℕ) (a : Active) → slice_get s.active place ≡ Some a → (w : Waiting) → refusing_gate (when_collected s who id place a) w ≡ refusing_gate s w
unfolding refusing_gate
gates_kept s who id place a there w = rw (length-set s.active place (collected a), sum_kept (λ (x : Active). x.quanta) s.active place a (collected a) there refl, sum_kept (λ (x : Active). x.scans) s.active place a (collected a) there refl) refl

settled_kept : (s : State) (who id place : ℕ) (a : Active) → slice_get s.active place ≡ Some a → IsSettled s → IsSettled (when_collected s who id place a)
settled_kept s who id place a there settled = settled_too s (when_collected s who id place a) refl (length-set s.active place (collected a)) refl (gates_kept s who id place a there) settled

rows_collected : (rows : List Active) (o : Option ℕ) (place : ℕ) (a : Active) → o ≡ Some place → slice_get rows place ≡ Some a → changed_at collected rows o ≡ slice_set rows place (collected a)
rows_collected rows o place a at there = rw (at, there) refl

pub collecting : (s : State) (who id place : ℕ) (a : Active) → IsSettled s → active_place s who id ≡ Some place → slice_get s.active place ≡ Some a → entered s who (Collect id) ≡ when_collected s who id place a
collecting s who id place a settled at there =
    ap (λ (rows : List Active). settle (record s { active = rows; withdrawn = without s.withdrawn (withdrawn_place s who id); entries = s.entries + 1 })) (rows_collected s.active (active_place s who id) place a at there)
    ∙ settle_settled (when_collected s who id place a) (settled_kept s who id place a there settled)

-- and it stands where it stood
collected_there : (s : State) (who id place : ℕ) (a : Active) → active_place s who id ≡ Some place → slice_get s.active place ≡ Some a → active_row (when_collected s who id place a) who id ≡ Some (collected a)
collected_there s who id place a at there =
    let p : Active → Bool = λ x. x.id == id && x.session == who in
    let kept : position p (slice_set s.active place (collected a)) ≡ Some place = place_changed p s.active place a (collected a) there refl ∙ at in
    ap (λ o. option_and_then (slice_get (slice_set s.active place (collected a))) o) kept ∙ get_changed s.active place a (collected a) there

-- what is granted is active
pub record IsActive (s : State) (who id : ℕ) : Type 0 where
  pub place : ℕ
  pub row : Active
  pub at : active_place s who id ≡ Some place
  pub there : slice_get s.active place ≡ Some row

active_found : (s : State) (who id : ℕ) (a : Active) (o : Option ℕ) → active_place s who id ≡ o → option_and_then (slice_get s.active) o ≡ Some a → IsActive s who id
active_found s who id a None at there = absurd (none-some a there)
active_found s who id a (Some place) at there = record { place = place; row = a; at = at; there = there }

pub granted_active : (s : State) (who id quanta scans priority : ℕ) (flagged : Option ℕ) (waits : Option ℕ) (row : Option Active) (left : Option Withdrawn) → active_row s who id ≡ row → answer_to_collect s who id waits row left ≡ Entered (reply.Granted quanta scans priority flagged) → IsActive s who id
granted_active s who id quanta scans priority flagged (Some place) row left found e = absurd (cc)
granted_active s who id quanta scans priority flagged None (Some a) left found e = active_found s who id a (active_place s who id) refl found
granted_active s who id quanta scans priority flagged None None (Some w) found e = absurd (cc)
granted_active s who id quanta scans priority flagged None None None found e = absurd (cc)

-- a query that was granted may be finished
pub granted_collected : (s : State) (who id quanta scans priority : ℕ) (flagged : Option ℕ) → IsSettled s → decide s who (Collect id) ≡ Entered (reply.Granted quanta scans priority flagged) → IsTrue (was_collected (active_row (next s who (Collect id)) who id))
granted_collected s who id quanta scans priority flagged settled e =
    let found = granted_active s who id quanta scans priority flagged (waiting_place s who id) (active_row s who id) (withdrawn_of s who id) refl e in
    let is : next s who (Collect id) ≡ when_collected s who id found.place found.row = ap (λ a. after_answer s who (Collect id) a) e ∙ collecting s who id found.place found.row settled found.at found.there in
    ap (λ (t : State). was_collected (active_row t who id)) is ∙ ap was_collected (collected_there s who id found.place found.row found.at found.there)

pub settled_there : (c : Configuration) (s : State) (history : List Entry) → IsValid c → IsLedTo c s history → IsSettled s
settled_there c s history valid led = subst IsSettled (sym led.same) (settled_replay c history valid led.legal)

-- the same of what a script keeps
abbrev pub IsLed : Configuration → ScriptState → Type 0
IsLed c s = IsLedTo c s.manager s.history

led_then : (c : Configuration) (s : ScriptState) (who : ℕ) (event : Event) → IsLed c s → MayOccur s.manager who event → IsLed c (after_event s who event)
led_then c s who event led may = led_event c s.manager s.history who event led may

led_refused : (c : Configuration) (s : ScriptState) (o : Option Refusal) (step : Stepped) → IsLed c s → (o ≡ None → IsLed c step.state) → IsLed c (unless_refused s o step).state
led_refused c s None step led goes = goes refl
led_refused c s (Some reason) step led goes = led

led_set : (c : Configuration) (s : ScriptState) (p : ℕ) → IsLed c s → IsLed c (set_step s p).state
led_set c s p led = go (nat_le p 100)
  where
    go : (b : Bool) → IsLed c (if b then record { text = priority_text p; state = record s { sessions = with_priority s.sessions p } } else refused_step s refusal.OutOfRange).state
    go true = led
    go false = led

-- a claim is in range
pub record IsInRange (p f : ℕ) : Type 0 where
  pub priority : p ≤ 100
  pub some_frags : 1 ≤ f
  pub frags : f ≤ 16

pub claim_in_range : (p f : ℕ) → is_claim p f ≡ true → IsInRange p f
claim_in_range p f e = record { priority = grind (arith, nat_tests); some_frags = grind (arith, nat_tests); frags = grind (arith, nat_tests) }

pub led_submitted : (c : Configuration) (s : ScriptState) (p f : ℕ) → IsLed c s → IsStanding s → IsInRange p f → IsLed c (submit_step s p f).state
led_submitted c s p f led stands within = led_then c s s.sessions.current (Submit p f) led (record { session = stands.current; priority = within.priority; some_frags = within.some_frags; frags = within.frags })

led_claim : (c : Configuration) (s : ScriptState) (p f : ℕ) → IsLed c s → IsStanding s → IsLed c (claim_step s p f).state
led_claim c s p f led stands = go (is_claim p f) refl
  where
    go : (b : Bool) → is_claim p f ≡ b → IsLed c (if b then submit_step s p f else refused_step s refusal.OutOfRange).state
    go true e = led_submitted c s p f led stands (claim_in_range p f e)
    go false e = led

led_opened : (c : Configuration) (s : ScriptState) (admin : Bool) (answer : Answer) → IsLed c s → IsLed c (opened_by s admin answer).state
led_opened c s admin (Entered (reply.Opened session)) led = led_then c s (next_session s.manager) (OpenSession admin) led refl
led_opened c s admin (Entered other) led = led
led_opened c s admin (Waits gate) led = led
led_opened c s admin (Refuses reason) led = led

led_use : (c : Configuration) (s : ScriptState) (session : ℕ) → IsLed c s → IsLed c (use_step s session).state
led_use c s session led = go (is_open s.manager session)
  where
    go : (b : Bool) → IsLed c (if b then record { text = chosen_text session; state = record s { sessions = with_current s.sessions session } } else refused_step s refusal.NoSession).state
    go true = led
    go false = led

-- the end of a query
pub led_collected : (c : Configuration) (s : ScriptState) (id : ℕ) → IsLed c s → IsTrue (may_collect s.manager s.sessions.current id) → IsLed c (after_event s s.sessions.current (Collect id))
led_collected c s id led may = led_then c s s.sessions.current (Collect id) led may

pub led_finished : (c : Configuration) (s : ScriptState) (id : ℕ) (how : How) → IsLed c s → IsTrue (was_collected (active_row s.manager s.sessions.current id)) → IsLed c (after_event s s.sessions.current (Finish id how))
led_finished c s id how led may = led_then c s s.sessions.current (Finish id how) led may

led_ended : (c : Configuration) (s : ScriptState) (id : ℕ) (outcome : Outcome) → IsLed c s → IsTrue (was_collected (active_row s.manager s.sessions.current id)) → IsLed c (end_step s id outcome).state
led_ended c s id outcome led may = go outcome.failed
  where
    go : (b : Bool) → IsLed c (if b then finished_with (λ step. outcome.text ++ failed_text id step) s id Failed else finished_with (λ step. outcome.text ++ done_text id step) s id Done).state
    go true = led_finished c s id Failed led may
    go false = led_finished c s id Done led may

led_by_answer : (c : Configuration) (s : ScriptState) (id : ℕ) (outcome : Outcome) → IsValid c → IsLed c s → IsTrue (may_collect s.manager s.sessions.current id) → (answer : Answer) → decide s.manager s.sessions.current (Collect id) ≡ answer → IsLed c (collect_step s id outcome answer).state
led_by_answer c s id outcome valid led may (Entered (reply.Granted quanta scans priority None)) e =
    led_ended c (after_event s s.sessions.current (Collect id)) id outcome (led_collected c s id led may) (granted_collected s.manager s.sessions.current id quanta scans priority None (settled_there c s.manager s.history valid led) e)
led_by_answer c s id outcome valid led may (Entered (reply.Granted quanta scans priority (Some by))) e =
    led_finished c (after_event s s.sessions.current (Collect id)) id Stopped (led_collected c s id led may) (granted_collected s.manager s.sessions.current id quanta scans priority (Some by) (settled_there c s.manager s.history valid led) e)
led_by_answer c s id outcome valid led may (Entered (reply.Cancelled by)) e = led_collected c s id led may
led_by_answer c s id outcome valid led may other e = led

led_own : (c : Configuration) (s : ScriptState) (id : ℕ) (outcome : Outcome) → IsValid c → IsLed c s → own_refusal s.manager s.sessions.current id ≡ None → IsLed c (collect_step s id outcome (decide s.manager s.sessions.current (Collect id))).state
led_own c s id outcome valid led own = led_by_answer c s id outcome valid led (collectable s.manager s.sessions.current id own).may (decide s.manager s.sessions.current (Collect id)) refl

led_ran : (c : Configuration) (s : ScriptState) (failed : Bool) (id : ℕ) (text : Option QueryView) → IsValid c → IsLed c s → own_refusal s.manager s.sessions.current id ≡ None → IsLed c (ran_step s failed id text).state
led_ran c s failed id None valid led own = led
led_ran c s failed id (Some q) valid led own = led_own c s id (outcome_of s.asked q failed) valid led own

led_text : (c : Configuration) (s : ScriptState) (q : QueryView) (answer : Answer) (step : Stepped) → IsLed c step.state → IsLed c (with_text s q answer step).state
led_text c s q (Entered r) step led = led
led_text c s q (Waits gate) step led = led
led_text c s q (Refuses reason) step led = led

led_query : (c : Configuration) (s : ScriptState) (r : Result QueryView SqlFault) → IsLed c s → IsStanding s → IsLed c (query_step s r).state
led_query c s (Err e) led stands = led
led_query c s (Ok q) led stands =
    let p : ℕ = priority_of s.sessions s.sessions.current in
    led_text c s q (decide s.manager s.sessions.current (Submit p (s.asked.widest q))) (submit_step s p (s.asked.widest q))
    (led_submitted c s p (s.asked.widest q) led stands (record { priority = stands.priorities (s.sessions.current - 1); some_frags = (stands.scannable q).0; frags = (stands.scannable q).1 }))

led_command : (c : Configuration) (s : ScriptState) (failed : Bool) (says : CommandView) → IsValid c → IsLed c s → IsStanding s → IsLed c (command_step s failed says).state
unfolding command_step
led_command c s failed (command.SetPriority level) valid led stands = led_set c s (level_priority s.sessions.opening level) led
led_command c s failed (command.Query ast) valid led stands = led_query c s (query_asked s.asked ast) led stands
led_command c s failed (command.Cancel id) valid led stands = led_then c s s.sessions.current (Cancel id) led stands.current
led_command c s failed command.Onstat valid led stands = led
led_command c s failed (command.Onmode letter v) valid led stands = led_then c s s.sessions.current (Onmode (letter_setting letter v)) led stands.current
led_command c s failed (command.Claim p f) valid led stands = led_claim c s p f led stands
led_command c s failed (command.Run id) valid led stands = led_refused c s (own_refusal s.manager s.sessions.current id) (ran_step s failed id (text_of s id)) led (λ own. led_ran c s failed id (text_of s id) valid led own)
led_command c s failed (command.Done id) valid led stands =
    led_refused c s (own_refusal s.manager s.sessions.current id) (collect_step s id not_run (decide s.manager s.sessions.current (Collect id))) led (λ own. led_own c s id not_run valid led own)
led_command c s failed (command.OpenSession admin) valid led stands = led_opened c s admin (decide s.manager (next_session s.manager) (OpenSession admin)) led
led_command c s failed (command.Choose session) valid led stands = led_use c s session led
led_command c s failed (command.CloseSession session) valid led stands =
    led_refused c s (close_refusal s.manager s.sessions.current session) (record { text = closed_text session (next s.manager session CloseSession).entries; state = after_event s session CloseSession }) led
    (λ free. led_then c s session CloseSession led (closable s.manager s.sessions.current session free).may)
led_command c s failed command.Hello valid led stands = led
led_command c s failed command.Admin valid led stands = led
led_command c s failed command.Quit valid led stands = led
led_command c s failed command.Shutdown valid led stands = led

pub led_step : (c : Configuration) (s : ScriptState) (failed : Bool) (says : Said) → IsValid c → IsLed c s → IsStanding s → IsLed c (script_step s failed says).state
led_step c s failed (Ok (Some says)) valid led stands = led_command c s failed says valid led stands
led_step c s failed (Ok None) valid led stands = led
led_step c s failed (Err place) valid led stands = led

-- a script begins with the entry of its own session
pub led_start : (asked : AskedTables) (c : Configuration) (opening : ℕ) → IsLed c (starting_state asked c opening)
led_start asked c opening = record { legal = (refl, refl, tt); same = refl }

own_open : (c : Configuration) → IsTrue (is_open (next (opening_state c) own_session (OpenSession true)) own_session)
unfolding settle
own_open c = refl

small_first : (opening : ℕ) → opening ≤ 100 → ArePercent (opening ∷ [])
small_first opening small zero = small
small_first opening small (suc k) = omega arith

pub standing_start : (asked : AskedTables) (c : Configuration) (opening : ℕ) → AreScannable asked → opening ≤ 100 → IsStanding (starting_state asked c opening)
standing_start asked c opening scannable small = record { current = own_open c; opening = small; priorities = small_first opening small; scannable = scannable }

led_lines : (c : Configuration) (s : ScriptState) (failed : Failures) (lines : List InputLine) → IsValid c → IsLed c s → IsStanding s → IsLed c (state_after_lines s failed lines)
led_lines c s failed [] valid led stands = led
led_lines c s failed (line ∷ lines) valid led stands =
    let says : Said = line_of (without_return line.bytes) in
    led_lines c (script_step s (fails_now failed) says).state (fails_later failed) lines valid (led_step c s (fails_now failed) says valid led stands) (standing_step s (fails_now failed) says stands)

-- and to the state that it leaves
unless_led : (c : Configuration) (s : ScriptState) (o : Option LineFault) (text : List ℕ) (rest : Out) → IsLed c s → IsLed c rest.state → IsLed c (unless_fault s o (after text rest)).state
unless_led c s None text rest here there = there
unless_led c s (Some reason) text rest here there = here

led_run : (c : Configuration) (s : ScriptState) (before : ℕ) (failed : Failures) (lines : List InputLine) → IsValid c → IsLed c s → IsStanding s → IsLed c (run_lines s before failed lines).state
unfolding run_lines
led_run c s before failed [] valid led stands = led
led_run c s before failed (line ∷ lines) valid led stands =
    let says : Said = line_of (without_return line.bytes) in
    let now : Bool = fails_now failed in
    unless_led c s (fault_at s before line) (script_step s now says).text (run_lines (script_step s now says).state (before + size_of line) (fails_later failed) lines) led
    (led_run c (script_step s now says).state (before + size_of line) (fails_later failed) lines valid (led_step c s now says valid led stands) (standing_step s now says stands))

-- the entries before one of a legal history are legal, and its reply is what the manager answered after them
record EntersAfter (s : State) (before : List Entry) (e : Entry) : Type 0 where
  legal : IsLegalFrom s before
  entered : IsTrue (is_entered (decide (state_after s before) e.session e.event))

enters_after : (s : State) (before later : List Entry) (e : Entry) → IsLegalFrom s (before ++ e ∷ later) → EntersAfter s before e
enters_after s [] later e legal = record { legal = tt; entered = let P : Answer → Type 0 = λ a. IsTrue (is_entered a) in subst P (sym legal.1) refl }
enters_after s (first ∷ before) later e legal =
    let rest = enters_after (next s first.session first.event) before later e legal.2 in record { legal = (legal.0, legal.1, rest.legal); entered = rest.entered }

heads_from_led : (c : Configuration) (s : ScriptState) → IsValid c → IsLed c s → (before later : List Entry) (e : Entry) → s.history ≡ before ++ e ∷ later → AdmitsHeads (replay c before) e.session e.event
heads_from_led c s valid led before later e is =
    let there = enters_after (opening_state c) before later e (subst (IsLegalFrom (opening_state c)) is led.legal) in
    only_heads_are_admitted c before valid there.legal e.session e.event there.entered

rules_from_led : (c : Configuration) (s : ScriptState) → IsValid c → IsLed c s → KeepsRules c s
rules_from_led c s valid led = record {
  limits = subst IsWithinLimits (sym led.same) (limits_are_kept c s.history valid led.legal);
  at_rest = subst IsAtRest (sym led.same) (entries_settle c s.history valid led.legal);
  overtaken = subst IsOvertakenLittle (sym led.same) (overtaking_is_bounded c s.history valid led.legal);
  legal = led.legal;
  replayed = led.same;
  admitted = heads_from_led c s valid led;
}

pub scripts_keep_rules : ScriptsKeepRules
scripts_keep_rules asked c opening failed lines valid scannable small =
    rules_from_led c (state_after_lines (starting_state asked c opening) failed lines) valid (led_lines c (starting_state asked c opening) failed lines valid (led_start asked c opening) (standing_start asked c opening scannable small))

pub transcripts_keep_rules : TranscriptsKeepRules
transcripts_keep_rules asked c opening bytes failed valid scannable small =
    rules_from_led c (script_transcript asked c opening bytes failed).state valid (led_run c (starting_state asked c opening) 0 failed (lines_of bytes) valid (led_start asked c opening) (standing_start asked c opening scannable small))
