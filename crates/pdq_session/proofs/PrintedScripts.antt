-- What a script prints keeps the limits after each line.
use Rattle.std.proofs.Common.{ℕ, ◌≡◌, ◌+◌, ◌-◌, ◌≤◌, inl, inr, List, [], ◌∷◌, ◌++◌, Option, None, Some, Result, Ok, Err, Bool, true, false, length, refl, sym, ap, ◌∙◌, subst, arith, append_assoc}
use Rattle.std.specs.Prelude.{IsTrue, not, ◌&&◌, ◌==◌, nat_le, if◌then◌else◌, filter, flat_map, is_some, map, option_and_then, option_map, position, slice_get, sum_by, unwrap_or}
use Rattle.std.proofs.lemmas.Bool.{false≢true}
use Rattle.std.proofs.lemmas.Bool.Decides.{nat_tests}
use Rattle.std.proofs.lemmas.Grind.{flat_map-append}
use Rattle.std.proofs.lemmas.List.{append-nil, length-map, map-append}
use Rattle.std.proofs.lemmas.List.Sums.{sum_by-append, sum_by-cons}
use Rattle.pdq_model.specs.declared.rows.Active.{Active}
use Rattle.pdq_model.specs.declared.rows.Admit.{Admit}
use Rattle.pdq_model.specs.declared.rows.Pending.{Pending}
use Rattle.pdq_model.specs.declared.rows.Session.{Session}
use Rattle.pdq_model.specs.declared.rows.Waiting.{Waiting}
use Rattle.pdq_model.specs.declared.events.Entry.{Entry}
use Rattle.pdq_model.specs.declared.rows.Withdrawn.{Withdrawn}
use Rattle.pdq_model.specs.declared.events.Answer.{Answer}
use Rattle.pdq_model.specs.declared.events.Answer.TheVariants.{Entered, Waits, Refuses}
use Rattle.pdq_model.specs.declared.events.Event.{Event}
use Rattle.pdq_model.specs.declared.events.Event.TheVariants.{OpenSession, CloseSession, Submit, Collect, Finish, Cancel, Onmode}
use Rattle.pdq_model.specs.declared.events.How.{How}
use Rattle.pdq_model.specs.declared.events.How.TheVariants as how
use Rattle.pdq_model.specs.declared.events.Reply.{Reply}
use Rattle.pdq_model.specs.declared.events.Reply.TheVariants as reply
use Rattle.pdq_model.specs.declared.events.Setting.{Setting}
use Rattle.pdq_model.specs.declared.events.Setting.TheVariants.{MaxPriority, TotalMemory, MaxQueries, MaxScans, NonPdq}
use Rattle.pdq_model.specs.declared.events.Why.{Why}
use Rattle.pdq_model.specs.declared.events.Why.TheVariants as why
use Rattle.pdq_model.specs.Configuration.{Configuration, is_valid, IsValid}
use Rattle.pdq_model.specs.State.{State, next_session}
use Rattle.pdq_model.specs.StatusView.{status_of}
use Rattle.pdq_model.specs.Gates.{refusing_gate, reserved_quanta, scans_in_use, waiting_place}
use Rattle.pdq_model.specs.Settling.{admit_of, settle, take_if_idle, take_pending, with_pending, IsSettled}
use Rattle.pdq_model.specs.Step.{changed_at, collected, decide, next, after_answer, admitted_after, answer_to_collect, active_place, active_row, cancelled, withdraw, can_wait, changed_reply, entered, flagged_at, has_size, is_admin, is_full_for, is_open, needs_pool, pending_or_present, session_place, pool_size_of, target_of, withdrawn_place, withdrawn_of, without, is_entered}
use Rattle.pdq_model.specs.History.{may_collect, was_collected}
use Rattle.pdq_model.specs.Laws.{counted, queries_numbered, rows_admitted, AdmitsHeads, HasOwnNumbers, IsWithinLimits}
use Rattle.pdq_model.proofs.Heads.{grown_by_admissions, settling_admits}
use Rattle.pdq_model.proofs.Histories.{active_after_admissions, admits_heads, limits_are_kept}
use Rattle.pdq_model.proofs.Lists.{place_passes}
use Rattle.pdq_model.proofs.Numbers.{numbers_are_unique}
use Rattle.pdq_gate.proofs.Quiet.{settled_too}
use Rattle.pdq_base.specs.Lines.{InputLine, lines_of, size_of, without_return}
use Rattle.pdq_query.specs.Answer.{answer}
use Rattle.pdq_query.specs.Queries.{QueryView}
use Rattle.pdq_value.specs.declared.cells.Cell.{Cell}
use Rattle.pdq_sql.specs.declared.faults.SqlFault.{SqlFault}
use Rattle.pdq_sql.specs.Commands.{CommandView}
use Rattle.pdq_sql.specs.Commands as command
use Rattle.pdq_reply.specs.declared.replies.LineFault.{LineFault}
use Rattle.pdq_reply.specs.declared.replies.Refusal.{Refusal}
use Rattle.pdq_reply.specs.declared.replies.Refusal.TheVariants as refusal
use Rattle.pdq_session.specs.Commands.{Said, is_claim, line_of}
use Rattle.pdq_reply.specs.Changes.{letter_setting, level_priority}
use Rattle.pdq_reply.specs.Replies.{admit_text, admits_text, cancelled_text, chosen_text, closed_text, done_text, failed_text, priority_text, refusal_text}
use Rattle.pdq_session.specs.ScriptStates.{AskedTables, IsStanding, ScriptState, after_event, own_session, priority_of, starting_state, text_of, with_current, with_priority}
use Rattle.pdq_session.specs.ScriptSteps.{Outcome, Stepped, cancel_text, change_text, claim_step, close_refusal, collect_step, end_step, event_text, finished_with, not_run, opened_by, outcome_of, own_refusal, query_step, ran_step, refused_step, set_step, shown_answer, submit_step, submit_text, unless_refused, use_step, with_text}
use Rattle.pdq_session.specs.ScriptTranscript.{Failures, Out, after, command_step, fails_later, fails_now, fault_at, query_asked, run_lines, script_step, unless_fault}
use Rattle.pdq_session.specs.PrintedLines.{Account, AreSomeOf, IsWithin, Limits, PrintedLine, StaysWithin, TextsKeepLimits, account_after, after_query, limits_of, limits_with, opening_account, print, setting_asked, setting_told, settings_asked, settings_told, take_limits, without_query}
use Rattle.pdq_session.specs.PrintedLines as line
use Rattle.pdq_session.specs.PrintedLines.PrintedLine.{Admitted}
use Rattle.pdq_session.proofs.LegalScripts.{IsInRange, IsLed, IsLedTo, claim_in_range, collecting, granted_active, granted_collected, led_collected, led_event, led_finished, led_start, led_step, led_submitted, nothing_taken, when_collected, settle_settled, settled_there, standing_start}
use Rattle.pdq_session.proofs.ActiveLists.{flagged_same, how_many, length_flagged, one_taken_out, other_than, same_admits}
use Rattle.pdq_session.proofs.Standing.{collectable, standing_step}

-- the account after these lines
abbrev account_at : Account → List PrintedLine → Account
account_at t [] = t
account_at t (line ∷ lines) = account_at (account_after t line) lines

account_at-append : (t : Account) (xs ys : List PrintedLine) → account_at t (xs ++ ys) ≡ account_at (account_at t xs) ys
account_at-append t [] ys = refl
account_at-append t (x ∷ xs) ys = account_at-append (account_after t x) xs ys

stays_then : (t : Account) (xs ys : List PrintedLine) → StaysWithin t xs → StaysWithin (account_at t xs) ys → StaysWithin t (xs ++ ys)
stays_then t [] ys first second = second
stays_then t (x ∷ xs) ys first second = (first.0, stays_then (account_after t x) xs ys first.1 second)

-- the limits that a pending change asks for
abbrev pending_limits : Pending → Limits
pending_limits p = record { queries = p.max_queries; scans = p.max_scans }

-- the account is that of the state: the limits of the configuration and of what is pending, and what the active queries were given
record Matches (t : Account) (s : State) : Type 0 where
  limits : t.limits ≡ limits_of s.config
  pending : t.pending ≡ option_map pending_limits s.pending
  held : t.held ≡ map admit_of s.active

sum_admits : (f : Admit → ℕ) (rows : List Active) → sum_by f (map admit_of rows) ≡ sum_by (λ (a : Active). f (admit_of a)) rows
sum_admits f [] = refl
sum_admits f (a ∷ rows) = sum_by-cons f (admit_of a) (map admit_of rows) ∙ ap (λ n. f (admit_of a) + n) (sum_admits f rows) ∙ sym (sum_by-cons (λ (x : Active). f (admit_of x)) a rows)

within_there : (c : Configuration) (s : State) (history : List Entry) (t : Account) → IsValid c → IsLedTo c s history → Matches t s → IsWithin t
within_there c s history t valid led matches =
    let limits : IsWithinLimits s = subst IsWithinLimits (sym led.same) (limits_are_kept c history valid led.legal) in
    let queries : s.config.max_queries ≡ t.limits.queries = sym (ap (λ (x : Limits). x.queries) matches.limits) in
    let scans : s.config.max_scans ≡ t.limits.scans = sym (ap (λ (x : Limits). x.scans) matches.limits) in
    let quanta_are : sum_by (λ (a : Admit). a.quanta) t.held ≡ sum_by (λ (a : Active). a.quanta) s.active = ap (sum_by (λ (a : Admit). a.quanta)) matches.held ∙ sum_admits (λ (a : Admit). a.quanta) s.active in
    let scans_are : sum_by (λ (a : Admit). a.scans) t.held ≡ sum_by (λ (a : Active). a.scans) s.active = ap (sum_by (λ (a : Admit). a.scans)) matches.held ∙ sum_admits (λ (a : Admit). a.scans) s.active in record {
      quanta = omega (arith, limits.quanta, quanta_are, queries);
      scans = omega (arith, limits.scans, scans_are, scans);
    }

-- a state that differs in nothing that the account has
matches_same : (t : Account) (s u : State) → u.config ≡ s.config → u.pending ≡ s.pending → u.active ≡ s.active → Matches t s → Matches t u
matches_same t s u config pending active matches = record {
  limits = matches.limits ∙ ap limits_of (sym config);
  pending = matches.pending ∙ ap (option_map pending_limits) (sym pending);
  held = matches.held ∙ ap (map admit_of) (sym active);
}

-- the text is one of lines, which changed what was asked for, after each of which the limits are kept, and they lead to the account of this state
record Tells (asked : List Setting) (t : Account) (s : State) (text : List ℕ) : Type 0 where
  lines : List PrintedLine
  printed : text ≡ flat_map print lines
  set : AreSomeOf (settings_told lines) asked
  within : StaysWithin t lines
  matches : Matches (account_at t lines) s

tells_none : (asked : List Setting) (t : Account) (s : State) → IsWithin t → Matches t s → Tells asked t s []
tells_none asked t s within matches = record { lines = []; printed = refl; set = tt; within = within; matches = matches }

-- a line that changes no setting, and then more
tells_front : (asked : List Setting) (t : Account) (s : State) (l : PrintedLine) (text : List ℕ) → setting_told l ≡ [] → IsWithin t → Tells asked (account_after t l) s text → Tells asked t s (print l ++ text)
tells_front asked t s l text none within rest = record {
  lines = l ∷ rest.lines;
  printed = ap (λ xs. print l ++ xs) rest.printed;
  set = let P : List Setting → Type 0 = λ xs. AreSomeOf (xs ++ settings_told rest.lines) asked in subst P (sym none) rest.set;
  within = (within, rest.within);
  matches = rest.matches;
}

tells_line : (asked : List Setting) (t : Account) (s : State) (l : PrintedLine) (text : List ℕ) → setting_told l ≡ [] → IsWithin t → IsWithin (account_after t l) → Matches (account_after t l) s → text ≡ print l → Tells asked t s text
tells_line asked t s l text none within later matches is = let P : List ℕ → Type 0 = Tells asked t s in subst P (append-nil (print l) ∙ sym is) (tells_front asked t s l [] none within (tells_none asked (account_after t l) s later matches))

-- a line that makes a change that was asked for, and then more that makes none
tells_set : (x : Setting) (t : Account) (s : State) (l : PrintedLine) (text : List ℕ) → setting_told l ≡ x ∷ [] → IsWithin t → Tells [] (account_after t l) s text → Tells (x ∷ []) t s (print l ++ text)
tells_set x t s l text told within rest = record {
  lines = l ∷ rest.lines;
  printed = ap (λ xs. print l ++ xs) rest.printed;
  set = let P : List Setting → Type 0 = λ xs. AreSomeOf (xs ++ settings_told rest.lines) (x ∷ []) in subst P (sym told) (inl (refl, rest.set));
  within = (within, rest.within);
  matches = rest.matches;
}

-- lines for queries that are admitted
with_held : Account → List Admit → Account
with_held t admits = record t { held = t.held ++ admits }

at_admits : (t : Account) (admits : List Admit) → account_at t (map Admitted admits) ≡ with_held t admits
unfolding with_held
at_admits t [] = ap (λ (xs : List Admit). let u : Account = record t { held = xs } in u) (sym (append-nil t.held))
at_admits t (a ∷ admits) = at_admits (account_after t (Admitted a)) admits ∙ ap (λ (xs : List Admit). let u : Account = record t { held = xs } in u) (append_assoc t.held (a ∷ []) admits)

stays_admits : (t : Account) (admits : List Admit) → sum_by (λ (a : Admit). a.quanta) (t.held ++ admits) ≤ t.limits.queries → sum_by (λ (a : Admit). a.scans) (t.held ++ admits) ≤ t.limits.scans → StaysWithin t (map Admitted admits)
stays_admits t [] quanta scans = record {
  quanta = omega (arith, quanta, ap (sum_by (λ (a : Admit). a.quanta)) (append-nil t.held));
  scans = omega (arith, scans, ap (sum_by (λ (a : Admit). a.scans)) (append-nil t.held));
}
stays_admits t (a ∷ admits) quanta scans = (
  record {
    quanta = omega (arith, quanta, sum_by-append (λ (x : Admit). x.quanta) t.held (a ∷ admits));
    scans = omega (arith, scans, sum_by-append (λ (x : Admit). x.scans) t.held (a ∷ admits));
  },
  stays_admits (account_after t (Admitted a)) admits
      (omega (arith, quanta, ap (sum_by (λ (x : Admit). x.quanta)) (append_assoc t.held (a ∷ []) admits)))
      (omega (arith, scans, ap (sum_by (λ (x : Admit). x.scans)) (append_assoc t.held (a ∷ []) admits))),
)

printed_admits : (admits : List Admit) → admits_text admits ≡ flat_map print (map Admitted admits)
printed_admits [] = refl
printed_admits (a ∷ admits) = ap (λ xs. admit_text a ++ xs) (printed_admits admits)

held_matches : (t : Account) (s : State) (admits : List Admit) → t.limits ≡ limits_of s.config → t.pending ≡ option_map pending_limits s.pending → t.held ++ admits ≡ map admit_of s.active → Matches (with_held t admits) s
unfolding with_held
held_matches t s admits limits pending held = record { limits = limits; pending = pending; held = held }

told_admits : (admits : List Admit) → settings_told (map Admitted admits) ≡ []
told_admits [] = refl
told_admits (a ∷ admits) = told_admits admits

within_admits : (t : Account) (admits : List Admit) → IsWithin (with_held t admits) → StaysWithin t (map Admitted admits)
unfolding with_held
within_admits t admits within = stays_admits t admits within.quanta within.scans

-- the lines of an entry's admissions, from the account of the event's own change and of a pending one that can be taken
tells_entry : (asked : List Setting) (c : Configuration) (s : State) (history : List Entry) (who : ℕ) (event : Event) (t : Account) → IsValid c → IsLedTo c (next s who event) history → is_entered (decide s who event) ≡ true → Matches t (take_pending (counted s who event)) →
    Tells asked t (next s who event) (admits_text (admitted_after s who event []))
tells_entry asked c s history who event t valid led accepted matches =
    let was : State = take_pending (counted s who event) in
    let now : State = next s who event in
    let admitted : AdmitsHeads s who event = admits_heads s who event accepted in
    let grown = grown_by_admissions was now admitted.heads in
    let rows : List Active = rows_admitted was now admitted.heads in
    let admits : List Admit = map admit_of rows in
    let all_held : t.held ++ admits ≡ map admit_of now.active =
    ap (λ xs. xs ++ admits) matches.held ∙ sym (map-append admit_of was.active rows) ∙ ap (map admit_of) (sym (active_after_admissions was now admitted.heads)) in
    let reached : Matches (with_held t admits) now = held_matches t now admits (matches.limits ∙ ap limits_of (sym grown.config)) (matches.pending ∙ ap (option_map pending_limits) (sym grown.pending)) all_held in
    let within : IsWithin (with_held t admits) = within_there c now history (with_held t admits) valid led reached in
    let P : Account → Type 0 = λ u. Matches u now in
    let S : List Setting → Type 0 = λ xs. AreSomeOf xs asked in record {
      lines = map Admitted admits;
      printed = ap admits_text admitted.told ∙ printed_admits admits;
      set = subst S (sym (told_admits admits)) tt;
      within = within_admits t admits within;
      matches = subst P (sym (at_admits t admits)) reached;
    }

-- an event that makes no entry changes nothing
nothing_entered : (s : State) (who : ℕ) (event : Event) → is_entered (decide s who event) ≡ false → next s who event ≡ s
nothing_entered s who event refused = rw refused refl

none_admitted : (s : State) (who : ℕ) (event : Event) → is_entered (decide s who event) ≡ false → admits_text (admitted_after s who event []) ≡ []
none_admitted s who event refused = rw refused refl

tells_nothing : (asked : List Setting) (s : State) (who : ℕ) (event : Event) (t : Account) → IsWithin t → Matches t s → is_entered (decide s who event) ≡ false → Tells asked t (next s who event) (admits_text (admitted_after s who event []))
tells_nothing asked s who event t within matches refused =
    let P : State → Type 0 = Matches t in
    let R : List ℕ → Type 0 = Tells asked t (next s who event) in
    subst R (sym (none_admitted s who event refused)) (tells_none asked t (next s who event) within (subst P (sym (nothing_entered s who event refused)) matches))

tells_refused : (asked : List Setting) (s : State) (who : ℕ) (event : Event) (reason : Why) (t : Account) → IsWithin t → Matches t s → decide s who event ≡ Refuses reason →
    Tells asked t (next s who event) (refusal_text (refusal.Manager reason) (next s who event).entries ++ admits_text (admitted_after s who event []))
tells_refused asked s who event reason t within matches e =
    tells_front asked t (next s who event) (line.Refused (refusal.Manager reason) (next s who event).entries) (admits_text (admitted_after s who event [])) refl within (tells_nothing asked s who event t within matches (ap is_entered e))

-- at rest no pending change is taken
rests : (s : State) → (length s.active ≡ 0 → s.pending ≡ None) → take_pending s ≡ s
rests s idle = nothing_taken s s.pending refl idle

matches_rest : (t : Account) (s : State) → (length s.active ≡ 0 → s.pending ≡ None) → Matches t s → Matches t (take_pending s)
matches_rest t s idle matches = let P : State → Type 0 = Matches t in subst P (sym (rests s idle)) matches

-- a submission
tells_submit : (asked : List Setting) (c : Configuration) (s : ScriptState) (who p f : ℕ) (t : Account) → IsValid c → IsLed c s → IsLed c (after_event s who (Submit p f)) → Matches t s.manager → Tells asked t (next s.manager who (Submit p f)) (event_text submit_text s.manager who (Submit p f))
tells_submit asked c s who p f t valid led led_then matches = go (decide s.manager who (Submit p f)) refl
  where
    within : IsWithin t
    within = within_there c s.manager s.history t valid led matches

    rest : is_entered (decide s.manager who (Submit p f)) ≡ true → Tells asked t (next s.manager who (Submit p f)) (admits_text (admitted_after s.manager who (Submit p f) []))
    rest accepted = tells_entry asked c s.manager (after_event s who (Submit p f)).history who (Submit p f) t valid led_then accepted
        (matches_rest t (counted s.manager who (Submit p f)) (settled_there c s.manager s.history valid led).changed (record { limits = matches.limits; pending = matches.pending; held = matches.held }))

    go : (answer : Answer) → decide s.manager who (Submit p f) ≡ answer → Tells asked t (next s.manager who (Submit p f)) (submit_text answer (next s.manager who (Submit p f)).entries ++ admits_text (admitted_after s.manager who (Submit p f) []))
    go (Entered (reply.Placed id priority gate)) e = tells_front asked t (next s.manager who (Submit p f)) (line.Placed id (next s.manager who (Submit p f)).entries priority gate) (admits_text (admitted_after s.manager who (Submit p f) [])) refl within (rest (ap is_entered e))
    go (Entered r) e = rest (ap is_entered e)
    go (Refuses reason) e = tells_refused asked s.manager who (Submit p f) reason t within matches e
    go (Waits gate) e = tells_nothing asked s.manager who (Submit p f) t within matches (ap is_entered e)

-- what a cancellation changes, before the manager settles
matches_cancelled : (t : Account) (s : State) (who id : ℕ) → IsSettled s → Matches t s → Matches t (take_pending (counted s who (Cancel id)))
matches_cancelled t s who id settled matches = go (position (λ (w : Waiting). w.id == id) s.waiting)
  where
    go : (o : Option ℕ) → Matches t (take_pending (record (cancelled s (s.entries + 1) id o) { entries = s.entries + 1 }))
    go None =
        let rows : List Active = changed_at (flagged_at (s.entries + 1)) s.active (position (λ (a : Active). a.id == id) s.active) in
        matches_rest t (record s { active = rows; entries = s.entries + 1 }) (λ none. settled.changed (sym (length_flagged (s.entries + 1) s.active (position (λ (a : Active). a.id == id) s.active)) ∙ none))
        (record { limits = matches.limits; pending = matches.pending; held = matches.held ∙ sym (flagged_same (s.entries + 1) s.active (position (λ (a : Active). a.id == id) s.active)) })
    go (Some place) = by (slice_get s.waiting place)
      where
        by : (o : Option Waiting) → Matches t (take_pending (record (withdraw s (s.entries + 1) place o) { entries = s.entries + 1 }))
        by None = matches_rest t (record s { entries = s.entries + 1 }) settled.changed (record { limits = matches.limits; pending = matches.pending; held = matches.held })
        by (Some w) = matches_rest t (record (withdraw s (s.entries + 1) place (Some w)) { entries = s.entries + 1 }) settled.changed (record { limits = matches.limits; pending = matches.pending; held = matches.held })

tells_cancel : (asked : List Setting) (c : Configuration) (s : ScriptState) (who id : ℕ) (t : Account) → IsValid c → IsLed c s → IsLed c (after_event s who (Cancel id)) → Matches t s.manager → Tells asked t (next s.manager who (Cancel id)) (event_text (cancel_text id) s.manager who (Cancel id))
tells_cancel asked c s who id t valid led led_then matches = go (decide s.manager who (Cancel id)) refl
  where
    within : IsWithin t
    within = within_there c s.manager s.history t valid led matches

    rest : is_entered (decide s.manager who (Cancel id)) ≡ true → Tells asked t (next s.manager who (Cancel id)) (admits_text (admitted_after s.manager who (Cancel id) []))
    rest accepted = tells_entry asked c s.manager (after_event s who (Cancel id)).history who (Cancel id) t valid led_then accepted (matches_cancelled t s.manager who id (settled_there c s.manager s.history valid led) matches)

    go : (answer : Answer) → decide s.manager who (Cancel id) ≡ answer → Tells asked t (next s.manager who (Cancel id)) (cancel_text id answer (next s.manager who (Cancel id)).entries ++ admits_text (admitted_after s.manager who (Cancel id) []))
    go (Entered reply.Withdrawn) e = tells_front asked t (next s.manager who (Cancel id)) (line.Withdrawn id (next s.manager who (Cancel id)).entries) (admits_text (admitted_after s.manager who (Cancel id) [])) refl within (rest (ap is_entered e))
    go (Entered reply.Flagged) e = tells_front asked t (next s.manager who (Cancel id)) (line.Flagged id (next s.manager who (Cancel id)).entries) (admits_text (admitted_after s.manager who (Cancel id) [])) refl within (rest (ap is_entered e))
    go (Entered r) e = rest (ap is_entered e)
    go (Refuses reason) e = tells_refused asked s.manager who (Cancel id) reason t within matches e
    go (Waits gate) e = tells_nothing asked s.manager who (Cancel id) t within matches (ap is_entered e)

-- a change: the reply says that it is pending where it waits after settling
reply_to_change : (s : State) (by : ℕ) (x : Setting) (r : Reply) → decide s by (Onmode x) ≡ Entered r → r ≡ changed_reply s by x
reply_to_change s by x r = go (not (is_admin s by)) (not (is_valid (target_of s x))) (needs_pool x && not (has_size (pool_size_of s x) (pool_size_of s x))) (is_full_for s 1)
  where
    go : (user bad size full : Bool) → (if user then Refuses why.NotAllowed else if bad then Refuses why.BadValue else if size then Refuses (why.PoolSize (pool_size_of s x).quanta (pool_size_of s x).frames) else if full then Refuses why.JournalFull else Entered (changed_reply s by x)) ≡ Entered r → r ≡ changed_reply s by x
    go true bad size full e = cc
    go false true size full e = cc
    go false false true full e = cc
    go false false false true e = cc
    go false false false false e = cc

flag_of_change : (s : State) (by : ℕ) (x : Setting) (pending : Bool) → decide s by (Onmode x) ≡ Entered (reply.Changed pending) → pending ≡ (can_wait x && is_some (entered s by (Onmode x)).pending)
flag_of_change s by x pending e = let is : reply.Changed pending ≡ reply.Changed (can_wait x && is_some (entered s by (Onmode x)).pending) = reply_to_change s by x (reply.Changed pending) e in cc

settled_pending : (s : State) → (settle s).pending ≡ (take_pending s).pending
settled_pending s = (grown_by_admissions (take_pending s) (settle s) (settling_admits s)).pending

-- the limits that are pending, or in force where none are
limits_standing : (t : Account) (s : State) → Matches t s → unwrap_or t.pending t.limits ≡ limits_of (pending_or_present s)
limits_standing t s matches = go s.pending refl
  where
    go : (o : Option Pending) → s.pending ≡ o → unwrap_or t.pending t.limits ≡ limits_of (unwrap_or (option_map (with_pending s.config) s.pending) s.config)
    go None e = rw (matches.pending, e) matches.limits
    go (Some p) e = rw (matches.pending, e) refl

-- what a change that can wait asks for
record AsksFor (s : State) (by : ℕ) (x : Setting) : Type 0 where
  change : Pending
  pending : (counted s by (Onmode x)).pending ≡ Some change
  config : (counted s by (Onmode x)).config ≡ s.config
  active : (counted s by (Onmode x)).active ≡ s.active
  limits : pending_limits change ≡ limits_with x (limits_of (pending_or_present s))

asks_for : (s : State) (by : ℕ) (x : Setting) → can_wait x ≡ true → AsksFor s by x
asks_for s by (MaxPriority v) waits = absurd (false≢true waits)
asks_for s by (TotalMemory v) waits = record { change = record { total_kb = v; max_queries = (pending_or_present s).max_queries; max_scans = (pending_or_present s).max_scans }; pending = refl; config = refl; active = refl; limits = refl }
asks_for s by (MaxQueries v) waits = record { change = record { total_kb = (pending_or_present s).total_kb; max_queries = v; max_scans = (pending_or_present s).max_scans }; pending = refl; config = refl; active = refl; limits = refl }
asks_for s by (MaxScans v) waits = record { change = record { total_kb = (pending_or_present s).total_kb; max_queries = (pending_or_present s).max_queries; max_scans = v }; pending = refl; config = refl; active = refl; limits = refl }
asks_for s by (NonPdq v) waits = absurd (false≢true waits)

-- how a change is told: by which line, and the account after it
record ToldBy (t : Account) (s : State) (by : ℕ) (x : Setting) (pending : Bool) (step : ℕ) : Type 0 where
  l : PrintedLine
  text : change_text (Entered (reply.Changed pending)) step ≡ print l
  told : setting_told l ≡ x ∷ []
  matches : Matches (account_after t l) (take_pending (counted s by (Onmode x)))

told_at_once : (t : Account) (s : State) (by : ℕ) (x : Setting) (pending : Bool) (step : ℕ) → pending ≡ false → Matches (record t { limits = limits_with x t.limits }) (take_pending (counted s by (Onmode x))) → ToldBy t s by x pending step
told_at_once t s by x pending step is matches = record { l = line.Changed x step; text = ap (λ b. change_text (Entered (reply.Changed b)) step) is; told = refl; matches = matches }

told_pending : (t : Account) (s : State) (by : ℕ) (x : Setting) (pending : Bool) (step : ℕ) → pending ≡ true → Matches (record t { pending = Some (limits_with x (unwrap_or t.pending t.limits)) }) (take_pending (counted s by (Onmode x))) → ToldBy t s by x pending step
told_pending t s by x pending step is matches = record { l = line.Pending x step; text = ap (λ b. change_text (Entered (reply.Changed b)) step) is; told = refl; matches = matches }

-- what a change leaves before the manager settles, taken or not
abbrev if_taken : State → ℕ → Setting → Pending → Bool → State
if_taken s by x change b = if b then record (counted s by (Onmode x)) { config = with_pending (counted s by (Onmode x)).config change; pending = None } else counted s by (Onmode x)

is_taken : (s : State) (by : ℕ) (x : Setting) (asks : AsksFor s by x) (b : Bool) → (length s.active == 0) ≡ b → take_pending (counted s by (Onmode x)) ≡ if_taken s by x asks.change b
is_taken s by x asks b e =
    ap (take_if_idle (counted s by (Onmode x))) asks.pending
    ∙ ap (λ (rows : List Active). if length rows == 0 then record (counted s by (Onmode x)) { config = with_pending (counted s by (Onmode x)).config asks.change; pending = None } else counted s by (Onmode x)) asks.active
    ∙ ap (if_taken s by x asks.change) e

flag_is : (s : State) (by : ℕ) (x : Setting) (pending : Bool) (asks : AsksFor s by x) → can_wait x ≡ true → pending ≡ (can_wait x && is_some (entered s by (Onmode x)).pending) → (b : Bool) → (length s.active == 0) ≡ b → pending ≡ is_some (if_taken s by x asks.change b).pending
flag_is s by x pending asks waits flag b e = flag ∙ ap (λ c. c && is_some (entered s by (Onmode x)).pending) waits ∙ ap is_some (settled_pending (counted s by (Onmode x)) ∙ ap (λ (u : State). u.pending) (is_taken s by x asks b e))

-- where nothing is active the change is taken at once, and else it is pending
told_waiting : (t : Account) (s : State) (by : ℕ) (x : Setting) (pending : Bool) (step : ℕ) → IsSettled s → Matches t s → can_wait x ≡ true → pending ≡ (can_wait x && is_some (entered s by (Onmode x)).pending) → ToldBy t s by x pending step
told_waiting t s by x pending step settled matches waits flag = go (length s.active == 0) refl
  where
    go : (b : Bool) → (length s.active == 0) ≡ b → ToldBy t s by x pending step
    go true e =
        let asks : AsksFor s by x = asks_for s by x waits in
        let none : s.pending ≡ None = settled.changed (grind (arith, nat_tests)) in
        let P : State → Type 0 = Matches (record t { limits = limits_with x t.limits }) in
        let none_told : t.pending ≡ None = matches.pending ∙ ap (option_map pending_limits) none in
        let standing : t.limits ≡ limits_of (pending_or_present s) = sym (ap (λ o. unwrap_or o t.limits) none_told) ∙ limits_standing t s matches in
        told_at_once t s by x pending step (flag_is s by x pending asks waits flag true e)
        (subst P (sym (is_taken s by x asks true e)) (record {
          limits = ap (limits_with x) standing ∙ sym asks.limits;
          pending = none_told;
          held = matches.held ∙ ap (map admit_of) (sym asks.active);
        }))
    go false e =
        let asks : AsksFor s by x = asks_for s by x waits in
        let P : State → Type 0 = Matches (record t { pending = Some (limits_with x (unwrap_or t.pending t.limits)) }) in
        told_pending t s by x pending step (flag_is s by x pending asks waits flag false e ∙ ap is_some asks.pending)
        (subst P (sym (is_taken s by x asks false e)) (record {
          limits = matches.limits ∙ ap limits_of (sym asks.config);
          pending = ap (λ l. Some (limits_with x l)) (limits_standing t s matches) ∙ ap Some (sym asks.limits) ∙ sym (ap (option_map pending_limits) asks.pending);
          held = matches.held ∙ ap (map admit_of) (sym asks.active);
        }))

told_by : (t : Account) (s : State) (by : ℕ) (x : Setting) (pending : Bool) (step : ℕ) → IsSettled s → Matches t s → pending ≡ (can_wait x && is_some (entered s by (Onmode x)).pending) → ToldBy t s by x pending step
told_by t s by (MaxPriority v) pending step settled matches flag = told_at_once t s by (MaxPriority v) pending step flag (matches_rest t (counted s by (Onmode (MaxPriority v))) settled.changed (record { limits = matches.limits; pending = matches.pending; held = matches.held }))
told_by t s by (TotalMemory v) pending step settled matches flag = told_waiting t s by (TotalMemory v) pending step settled matches refl flag
told_by t s by (MaxQueries v) pending step settled matches flag = told_waiting t s by (MaxQueries v) pending step settled matches refl flag
told_by t s by (MaxScans v) pending step settled matches flag = told_waiting t s by (MaxScans v) pending step settled matches refl flag
told_by t s by (NonPdq v) pending step settled matches flag = told_at_once t s by (NonPdq v) pending step flag (matches_rest t (counted s by (Onmode (NonPdq v))) settled.changed (record { limits = matches.limits; pending = matches.pending; held = matches.held }))

tells_change : (c : Configuration) (s : ScriptState) (who : ℕ) (x : Setting) (t : Account) → IsValid c → IsLed c s → IsLed c (after_event s who (Onmode x)) → Matches t s.manager → Tells (x ∷ []) t (next s.manager who (Onmode x)) (event_text change_text s.manager who (Onmode x))
tells_change c s who x t valid led led_then matches = go (decide s.manager who (Onmode x)) refl
  where
    within : IsWithin t
    within = within_there c s.manager s.history t valid led matches

    go : (answer : Answer) → decide s.manager who (Onmode x) ≡ answer → Tells (x ∷ []) t (next s.manager who (Onmode x)) (change_text answer (next s.manager who (Onmode x)).entries ++ admits_text (admitted_after s.manager who (Onmode x) []))
    go (Entered (reply.Changed pending)) e =
        let told = told_by t s.manager who x pending (next s.manager who (Onmode x)).entries (settled_there c s.manager s.history valid led) matches (flag_of_change s.manager who x pending e) in
        let rest : Tells [] (account_after t told.l) (next s.manager who (Onmode x)) (admits_text (admitted_after s.manager who (Onmode x) [])) = tells_entry [] c s.manager (after_event s who (Onmode x)).history who (Onmode x) (account_after t told.l) valid led_then (ap is_entered e) told.matches in
        let P : List ℕ → Type 0 = λ xs. Tells (x ∷ []) t (next s.manager who (Onmode x)) (xs ++ admits_text (admitted_after s.manager who (Onmode x) [])) in
        subst P (sym told.text) (tells_set x t (next s.manager who (Onmode x)) told.l (admits_text (admitted_after s.manager who (Onmode x) [])) told.told within rest)
    go (Entered r) e = let is : r ≡ changed_reply s.manager who x = reply_to_change s.manager who x r e in absurd (cc)
    go (Refuses reason) e = tells_refused (x ∷ []) s.manager who (Onmode x) reason t within matches e
    go (Waits gate) e = tells_nothing (x ∷ []) s.manager who (Onmode x) t within matches (ap is_entered e)

-- a collected query of this number is active, under this session
record Stands (s : State) (who id : ℕ) : Type 0 where
  place : ℕ
  row : Active
  at : active_place s who id ≡ Some place
  there : slice_get s.active place ≡ Some row

stands_by : (s : State) (who id : ℕ) (o : Option ℕ) → active_place s who id ≡ o → IsTrue (was_collected (option_and_then (slice_get s.active) o)) → Stands s who id
stands_by s who id None at was = absurd (false≢true was)
stands_by s who id (Some place) at was = go (slice_get s.active place) refl was
  where
    go : (o : Option Active) → slice_get s.active place ≡ o → IsTrue (was_collected o) → Stands s who id
    go None there was = absurd (false≢true was)
    go (Some a) there was = record { place = place; row = a; at = at; there = there }

both : (a b : Bool) → (a && b) ≡ true → a ≡ true
both true b is = refl
both false b is = cc

numbered_once : (c : Configuration) (s : State) (history : List Entry) (id : ℕ) → IsValid c → IsLedTo c s history → how_many id s.active ≤ 1
numbered_once c s history id valid led =
    let own_numbers : HasOwnNumbers s = subst HasOwnNumbers (sym led.same) (numbers_are_unique c history valid led.legal) in
    let active : how_many id s.active ≤ queries_numbered s id = omega arith in
    omega (arith, own_numbers.queries id, active)

-- the end of a collected query takes back what it was given
given_back : (c : Configuration) (s : State) (history : List Entry) (who id : ℕ) (t : Account) → IsValid c → IsLedTo c s history → Matches t s → IsTrue (was_collected (active_row s who id)) → filter (other_than id) t.held ≡ map admit_of (without s.active (active_place s who id))
given_back c s history who id t valid led matches was =
    let stands = stands_by s who id (active_place s who id) refl was in
    let passes : (stands.row.id == id && stands.row.session == who) ≡ true = place_passes (λ (a : Active). a.id == id && a.session == who) s.active stands.place stands.row stands.at stands.there in
    ap (filter (other_than id)) matches.held
    ∙ one_taken_out s.active stands.place id stands.row stands.there (both (stands.row.id == id) (stands.row.session == who) passes) (numbered_once c s history id valid led)
    ∙ ap (λ o. map admit_of (without s.active o)) (sym stands.at)

-- pending limits and a pending change are taken together
taken_together : (u : Account) (s : State) (p : Pending) → Matches u s → (a b : Bool) → a ≡ b →
    Matches (if a then record u { limits = pending_limits p; pending = None } else u) (if b then record s { config = with_pending s.config p; pending = None } else s)
taken_together u s p matches true true e = record { limits = refl; pending = refl; held = matches.held }
taken_together u s p matches true false e = absurd (false≢true (sym e))
taken_together u s p matches false true e = absurd (false≢true e)
taken_together u s p matches false false e = matches

matches_taken : (u : Account) (s : State) → Matches u s → Matches (take_limits u u.pending) (take_pending s)
matches_taken u s matches = go s.pending refl
  where
    go : (o : Option Pending) → s.pending ≡ o → Matches (take_limits u u.pending) (take_if_idle s o)
    go None e =
        let none : u.pending ≡ None = matches.pending ∙ ap (option_map pending_limits) e in
        let P : Option Limits → Type 0 = λ o. Matches (take_limits u o) s in subst P (sym none) matches
    go (Some p) e =
        let some : u.pending ≡ Some (pending_limits p) = matches.pending ∙ ap (option_map pending_limits) e in
        let lengths : length u.held ≡ length s.active = ap length matches.held ∙ length-map s.active admit_of in
        let P : Option Limits → Type 0 = λ o. Matches (take_limits u o) (take_if_idle s (Some p)) in
        subst P (sym some) (taken_together u s p matches (length u.held == 0) (length s.active == 0) (ap (λ n. n == 0) lengths))

matches_finished : (c : Configuration) (s : State) (history : List Entry) (who id : ℕ) (how : How) (t : Account) → IsValid c → IsLedTo c s history → Matches t s → IsTrue (was_collected (active_row s who id)) → Matches (after_query t id) (take_pending (counted s who (Finish id how)))
matches_finished c s history who id how t valid led matches was =
    matches_taken (without_query t id) (counted s who (Finish id how)) (record { limits = matches.limits; pending = matches.pending; held = given_back c s history who id t valid led matches was })

-- a query ends, by a line that takes its number out
tells_finish : (asked : List Setting) (c : Configuration) (s : ScriptState) (id : ℕ) (how : How) (t : Account) (l : PrintedLine) → IsValid c → IsLed c s → Matches t s.manager → IsTrue (was_collected (active_row s.manager s.sessions.current id)) → account_after t l ≡ after_query t id → setting_told l ≡ [] →
    Tells asked t (next s.manager s.sessions.current (Finish id how)) (print l ++ admits_text (admitted_after s.manager s.sessions.current (Finish id how) []))
tells_finish asked c s id how t l valid led matches was takes none =
    let who : ℕ = s.sessions.current in
    let P : Account → Type 0 = λ u. Tells asked u (next s.manager who (Finish id how)) (admits_text (admitted_after s.manager who (Finish id how) [])) in
    tells_front asked t (next s.manager who (Finish id how)) l (admits_text (admitted_after s.manager who (Finish id how) [])) none (within_there c s.manager s.history t valid led matches)
    (subst P (sym takes) (tells_entry asked c s.manager (after_event s who (Finish id how)).history who (Finish id how) (after_query t id) valid (led_finished c s id how led was) refl (matches_finished c s.manager s.history who id how t valid led matches was)))

-- a query was collected
matches_collected : (c : Configuration) (s : State) (history : List Entry) (who id quanta scans priority : ℕ) (flagged : Option ℕ) (t : Account) → IsValid c → IsLedTo c s history → Matches t s → decide s who (Collect id) ≡ Entered (reply.Granted quanta scans priority flagged) → Matches t (next s who (Collect id))
matches_collected c s history who id quanta scans priority flagged t valid led matches e =
    let found = granted_active s who id quanta scans priority flagged (waiting_place s who id) (active_row s who id) (withdrawn_of s who id) refl e in
    let now = when_collected s who id found.place found.row in
    let is : next s who (Collect id) ≡ now = ap (λ a. after_answer s who (Collect id) a) e ∙ collecting s who id found.place found.row (settled_there c s history valid led) found.at found.there in
    let P : State → Type 0 = Matches t in
    subst P (sym is) (record { limits = matches.limits; pending = matches.pending; held = matches.held ∙ sym (same_admits s.active found.place found.row found.there) })

-- one that was withdrawn was collected: no active query changes
no_row : (s : State) (who id by : ℕ) (waits : Option ℕ) (row : Option Active) (left : Option Withdrawn) → answer_to_collect s who id waits row left ≡ Entered (reply.Cancelled by) → row ≡ None
no_row s who id by (Some place) row left e = absurd (cc)
no_row s who id by None (Some a) left e = absurd (cc)
no_row s who id by None None left e = refl

unchanged_at : (rows : List Active) (o : Option ℕ) → option_and_then (slice_get rows) o ≡ None → changed_at collected rows o ≡ rows
unchanged_at rows None none = refl
unchanged_at rows (Some k) none = rw none refl

-- a state that differs in nothing that gates and queries see settles to itself
quiet_settles : (s t : State) → t.waiting ≡ s.waiting → length t.active ≡ length s.active → t.pending ≡ s.pending → ((w : Waiting) → refusing_gate t w ≡ refusing_gate s w) → IsSettled s → settle t ≡ t
quiet_settles s t waiting active pending gates settled = settle_settled t (settled_too s t waiting active pending gates settled)

fetched_gates : (s : State) (withdrawn : List Withdrawn) (entries : ℕ) (w : Waiting) → refusing_gate (record s { withdrawn = withdrawn; entries = entries }) w ≡ refusing_gate s w
unfolding refusing_gate
fetched_gates s withdrawn entries w = refl

fetched_settles : (s : State) (withdrawn : List Withdrawn) (entries : ℕ) → IsSettled s → settle (record s { withdrawn = withdrawn; entries = entries }) ≡ record s { withdrawn = withdrawn; entries = entries }
fetched_settles s withdrawn entries settled = quiet_settles s (record s { withdrawn = withdrawn; entries = entries }) refl refl refl (fetched_gates s withdrawn entries) settled

matches_fetched : (c : Configuration) (s : State) (history : List Entry) (who id by : ℕ) (t : Account) → IsValid c → IsLedTo c s history → Matches t s → decide s who (Collect id) ≡ Entered (reply.Cancelled by) → Matches t (next s who (Collect id))
matches_fetched c s history who id by t valid led matches e =
    let none : active_row s who id ≡ None = no_row s who id by (waiting_place s who id) (active_row s who id) (withdrawn_of s who id) e in
    let left : List Withdrawn = without s.withdrawn (withdrawn_place s who id) in
    let now : State = record s { withdrawn = left; entries = s.entries + 1 } in
    let is : next s who (Collect id) ≡ now =
    ap (λ a. after_answer s who (Collect id) a) e
    ∙ ap (λ (rows : List Active). settle (record s { active = rows; withdrawn = left; entries = s.entries + 1 })) (unchanged_at s.active (active_place s who id) none)
    ∙ fetched_settles s left (s.entries + 1) (settled_there c s history valid led) in
    let P : State → Type 0 = Matches t in subst P (sym is) (record { limits = matches.limits; pending = matches.pending; held = matches.held })

-- a session was opened or closed
opened_gates : (s : State) (sessions : List Session) (opened entries : ℕ) (w : Waiting) → refusing_gate (record s { sessions = sessions; opened = opened; entries = entries }) w ≡ refusing_gate s w
unfolding refusing_gate
opened_gates s sessions opened entries w = refl

matches_sessions : (t : Account) (s : State) (sessions : List Session) (opened entries : ℕ) → IsSettled s → Matches t s → Matches t (settle (record s { sessions = sessions; opened = opened; entries = entries }))
matches_sessions t s sessions opened entries settled matches =
    let now : State = record s { sessions = sessions; opened = opened; entries = entries } in
    let P : State → Type 0 = Matches t in
    subst P (sym (quiet_settles s now refl refl refl (opened_gates s sessions opened entries) settled)) (record { limits = matches.limits; pending = matches.pending; held = matches.held })

matches_opened : (c : Configuration) (s : State) (history : List Entry) (admin : Bool) (r : Reply) (t : Account) → IsValid c → IsLedTo c s history → Matches t s → decide s (next_session s) (OpenSession admin) ≡ Entered r → Matches t (next s (next_session s) (OpenSession admin))
matches_opened c s history admin r t valid led matches e =
    let P : State → Type 0 = Matches t in
    subst P (sym (ap (after_answer s (next_session s) (OpenSession admin)) e)) (matches_sessions t s (s.sessions ++ record { number = next_session s; admin = admin } ∷ []) (s.opened + 1) (s.entries + 1) (settled_there c s history valid led) matches)

matches_closed : (c : Configuration) (s : State) (history : List Entry) (session : ℕ) (t : Account) → IsValid c → IsLedTo c s history → Matches t s → Matches t (next s session CloseSession)
matches_closed c s history session t valid led matches = matches_sessions t s (without s.sessions (session_place s session)) s.opened (s.entries + 1) (settled_there c s history valid led) matches

-- lines that change nothing
tells_same : (asked : List Setting) (c : Configuration) (s : ScriptState) (t : Account) (l : PrintedLine) (text : List ℕ) → account_after t l ≡ t → setting_told l ≡ [] → text ≡ print l → IsValid c → IsLed c s → Matches t s.manager → Tells asked t s.manager text
tells_same asked c s t l text same none is valid led matches =
    let within : IsWithin t = within_there c s.manager s.history t valid led matches in
    let W : Account → Type 0 = IsWithin in
    let M : Account → Type 0 = λ u. Matches u s.manager in
    tells_line asked t s.manager l text none within (subst W (sym same) within) (subst M (sym same) matches) is

tells_refusal : (asked : List Setting) (c : Configuration) (s : ScriptState) (t : Account) (reason : Refusal) → IsValid c → IsLed c s → Matches t s.manager → Tells asked t s.manager (refusal_text reason s.manager.entries)
tells_refusal asked c s t reason valid led matches = tells_same asked c s t (line.Refused reason s.manager.entries) (refusal_text reason s.manager.entries) refl refl refl valid led matches

-- what a step tells
abbrev StepTells : List Setting → Account → Stepped → Type 0
StepTells asked t step = Tells asked t step.state.manager step.text

tells_silent : (asked : List Setting) (c : Configuration) (s : ScriptState) (t : Account) → IsValid c → IsLed c s → Matches t s.manager → Tells asked t s.manager []
tells_silent asked c s t valid led matches = tells_none asked t s.manager (within_there c s.manager s.history t valid led matches) matches

tells_unless : (asked : List Setting) (c : Configuration) (s : ScriptState) (t : Account) (o : Option Refusal) (step : Stepped) → IsValid c → IsLed c s → Matches t s.manager → (o ≡ None → StepTells asked t step) → StepTells asked t (unless_refused s o step)
tells_unless asked c s t None step valid led matches goes = goes refl
tells_unless asked c s t (Some reason) step valid led matches goes = tells_refusal asked c s t reason valid led matches

tells_priority : (asked : List Setting) (c : Configuration) (s : ScriptState) (p : ℕ) (t : Account) → IsValid c → IsLed c s → Matches t s.manager → StepTells asked t (set_step s p)
tells_priority asked c s p t valid led matches = go (nat_le p 100)
  where
    go : (b : Bool) → StepTells asked t (if b then record { text = priority_text p; state = record s { sessions = with_priority s.sessions p } } else refused_step s refusal.OutOfRange)
    go true = tells_same asked c s t (line.Priority p) (priority_text p) refl refl refl valid led matches
    go false = tells_refusal asked c s t refusal.OutOfRange valid led matches

tells_claim : (asked : List Setting) (c : Configuration) (s : ScriptState) (p f : ℕ) (t : Account) → IsValid c → IsLed c s → IsStanding s → Matches t s.manager → StepTells asked t (claim_step s p f)
tells_claim asked c s p f t valid led stands matches = go (is_claim p f) refl
  where
    go : (b : Bool) → is_claim p f ≡ b → StepTells asked t (if b then submit_step s p f else refused_step s refusal.OutOfRange)
    go true e = tells_submit asked c s s.sessions.current p f t valid led (led_submitted c s p f led stands (claim_in_range p f e)) matches
    go false e = tells_refusal asked c s t refusal.OutOfRange valid led matches

tells_text : (asked : List Setting) (t : Account) (s : ScriptState) (q : QueryView) (answer : Answer) (step : Stepped) → StepTells asked t step → StepTells asked t (with_text s q answer step)
tells_text asked t s q (Entered r) step tells = tells
tells_text asked t s q (Waits gate) step tells = tells
tells_text asked t s q (Refuses reason) step tells = tells

tells_query : (asked : List Setting) (c : Configuration) (s : ScriptState) (r : Result QueryView SqlFault) (t : Account) → IsValid c → IsLed c s → IsStanding s → Matches t s.manager → StepTells asked t (query_step s r)
tells_query asked c s (Err e) t valid led stands matches = tells_silent asked c s t valid led matches
tells_query asked c s (Ok q) t valid led stands matches =
    let p : ℕ = priority_of s.sessions s.sessions.current in
    let f : ℕ = s.asked.widest q in
    let may : IsInRange p f = record { priority = stands.priorities (s.sessions.current - 1); some_frags = (stands.scannable q).0; frags = (stands.scannable q).1 } in
    tells_text asked t s q (decide s.manager s.sessions.current (Submit p f)) (submit_step s p f)
    (tells_submit asked c s s.sessions.current p f t valid led (led_submitted c s p f led stands may) matches)

tells_opened : (asked : List Setting) (c : Configuration) (s : ScriptState) (admin : Bool) (answer : Answer) (t : Account) → IsValid c → IsLed c s → Matches t s.manager → decide s.manager (next_session s.manager) (OpenSession admin) ≡ answer → StepTells asked t (opened_by s admin answer)
tells_opened asked c s admin (Entered (reply.Opened session)) t valid led matches e =
    let within = within_there c s.manager s.history t valid led matches in
    let now : State = next s.manager (next_session s.manager) (OpenSession admin) in
    tells_line asked t now (line.Session session admin now.entries) (print (line.Session session admin now.entries)) refl within within (matches_opened c s.manager s.history admin (reply.Opened session) t valid led matches e) refl
tells_opened asked c s admin (Entered other) t valid led matches e = tells_silent asked c s t valid led matches
tells_opened asked c s admin (Waits gate) t valid led matches e = tells_silent asked c s t valid led matches
tells_opened asked c s admin (Refuses reason) t valid led matches e = tells_refusal asked c s t (refusal.Manager reason) valid led matches

tells_use : (asked : List Setting) (c : Configuration) (s : ScriptState) (session : ℕ) (t : Account) → IsValid c → IsLed c s → Matches t s.manager → StepTells asked t (use_step s session)
tells_use asked c s session t valid led matches = go (is_open s.manager session)
  where
    go : (b : Bool) → StepTells asked t (if b then record { text = chosen_text session; state = record s { sessions = with_current s.sessions session } } else refused_step s refusal.NoSession)
    go true = tells_same asked c s t (line.Chosen session) (chosen_text session) refl refl refl valid led matches
    go false = tells_refusal asked c s t refusal.NoSession valid led matches

tells_closed : (asked : List Setting) (c : Configuration) (s : ScriptState) (session : ℕ) (t : Account) → IsValid c → IsLed c s → Matches t s.manager → Tells asked t (next s.manager session CloseSession) (closed_text session (next s.manager session CloseSession).entries)
tells_closed asked c s session t valid led matches =
    let within = within_there c s.manager s.history t valid led matches in
    let now : State = next s.manager session CloseSession in
    tells_line asked t now (line.Closed session now.entries) (closed_text session now.entries) refl within within (matches_closed c s.manager s.history session t valid led matches) refl

-- what is written before the last line of a query that was run: lines that change nothing
record IsShown (outcome : Outcome) : Type 0 where
  lines : List PrintedLine
  printed : outcome.text ≡ flat_map print lines
  told : settings_told lines ≡ []
  same : (t : Account) → account_at t lines ≡ t
  stays : (t : Account) (more : List PrintedLine) → IsWithin t → StaysWithin t more → StaysWithin t (lines ++ more)

shown_none : IsShown not_run
shown_none = record { lines = []; printed = refl; told = refl; same = λ t. refl; stays = λ t more within stays. stays }

shown_line : (outcome : Outcome) (l : PrintedLine) → outcome.text ≡ print l → setting_told l ≡ [] → ((t : Account) → account_after t l ≡ t) → IsShown outcome
shown_line outcome l is none same = record {
  lines = l ∷ [];
  printed = is ∙ sym (append-nil (print l));
  told = ap (λ (xs : List Setting). xs ++ []) none;
  same = same;
  stays = λ t more within stays. (within, let P : Account → Type 0 = λ u. StaysWithin u more in subst P (sym (same t)) stays);
}

shown_answered : (answer : Option (List (List Cell))) → IsShown (shown_answer answer)
shown_answered None = shown_line (shown_answer None) line.TooManyRows refl refl (λ t. refl)
shown_answered (Some rows) = shown_line (shown_answer (Some rows)) (line.Rows rows) refl refl (λ t. refl)

shown_outcome : (asked : AskedTables) (q : QueryView) (failed : Bool) → IsShown (outcome_of asked q failed)
shown_outcome asked q true = shown_line (outcome_of asked q true) line.StoreFailed refl refl (λ t. refl)
shown_outcome asked q false = shown_answered (answer asked.tables q)

tells_outcome : (asked : List Setting) (t : Account) (s : State) (outcome : Outcome) (text : List ℕ) → IsWithin t → IsShown outcome → Tells asked t s text → Tells asked t s (outcome.text ++ text)
tells_outcome asked t s outcome text within shown tells = record {
  lines = shown.lines ++ tells.lines;
  printed = ap (λ xs. xs ++ text) shown.printed ∙ ap (λ xs. flat_map print shown.lines ++ xs) tells.printed ∙ sym (flat_map-append print shown.lines tells.lines);
  set = let P : List Setting → Type 0 = λ xs. AreSomeOf xs asked in subst P (sym (flat_map-append setting_told shown.lines tells.lines ∙ ap (λ xs. xs ++ settings_told tells.lines) shown.told)) tells.set;
  within = shown.stays t tells.lines within tells.within;
  matches = let P : Account → Type 0 = λ u. Matches u s in subst P (sym (account_at-append t shown.lines tells.lines ∙ ap (λ u. account_at u tells.lines) (shown.same t))) tells.matches;
}

tells_ended : (asked : List Setting) (c : Configuration) (s : ScriptState) (id : ℕ) (outcome : Outcome) (t : Account) → IsValid c → IsLed c s → Matches t s.manager → IsTrue (was_collected (active_row s.manager s.sessions.current id)) → IsShown outcome → StepTells asked t (end_step s id outcome)
tells_ended asked c s id outcome t valid led matches was shown = go outcome.failed
  where
    within : IsWithin t
    within = within_there c s.manager s.history t valid led matches

    go : (b : Bool) → StepTells asked t (if b then finished_with (λ step. outcome.text ++ failed_text id step) s id how.Failed else finished_with (λ step. outcome.text ++ done_text id step) s id how.Done)
    go true =
        let now : State = next s.manager s.sessions.current (Finish id how.Failed) in
        let admits : List ℕ = admits_text (admitted_after s.manager s.sessions.current (Finish id how.Failed) []) in
        let P : List ℕ → Type 0 = Tells asked t now in
        subst P (sym (append_assoc outcome.text (failed_text id now.entries) admits))
        (tells_outcome asked t now outcome (failed_text id now.entries ++ admits) within shown (tells_finish asked c s id how.Failed t (line.Failed id now.entries) valid led matches was refl refl))
    go false =
        let now : State = next s.manager s.sessions.current (Finish id how.Done) in
        let admits : List ℕ = admits_text (admitted_after s.manager s.sessions.current (Finish id how.Done) []) in
        let P : List ℕ → Type 0 = Tells asked t now in
        subst P (sym (append_assoc outcome.text (done_text id now.entries) admits))
        (tells_outcome asked t now outcome (done_text id now.entries ++ admits) within shown (tells_finish asked c s id how.Done t (line.Done id now.entries) valid led matches was refl refl))

tells_collect : (asked : List Setting) (c : Configuration) (s : ScriptState) (id : ℕ) (outcome : Outcome) (t : Account) → IsValid c → IsLed c s → Matches t s.manager → IsTrue (may_collect s.manager s.sessions.current id) → IsShown outcome → (answer : Answer) → decide s.manager s.sessions.current (Collect id) ≡ answer → StepTells asked t (collect_step s id outcome answer)
tells_collect asked c s id outcome t valid led matches may shown (Entered (reply.Granted quanta scans priority None)) e =
    tells_ended asked c (after_event s s.sessions.current (Collect id)) id outcome t valid (led_collected c s id led may)
    (matches_collected c s.manager s.history s.sessions.current id quanta scans priority None t valid led matches e)
    (granted_collected s.manager s.sessions.current id quanta scans priority None (settled_there c s.manager s.history valid led) e) shown
tells_collect asked c s id outcome t valid led matches may shown (Entered (reply.Granted quanta scans priority (Some by))) e =
    tells_finish asked c (after_event s s.sessions.current (Collect id)) id how.Stopped t (line.Stopped id (next (next s.manager s.sessions.current (Collect id)) s.sessions.current (Finish id how.Stopped)).entries by) valid (led_collected c s id led may)
    (matches_collected c s.manager s.history s.sessions.current id quanta scans priority (Some by) t valid led matches e)
    (granted_collected s.manager s.sessions.current id quanta scans priority (Some by) (settled_there c s.manager s.history valid led) e) refl refl
tells_collect asked c s id outcome t valid led matches may shown (Entered (reply.Cancelled by)) e =
    let within = within_there c s.manager s.history t valid led matches in
    let now : State = next s.manager s.sessions.current (Collect id) in
    tells_line asked t now (line.Cancelled id now.entries by) (cancelled_text id now.entries by) refl within within (matches_fetched c s.manager s.history s.sessions.current id by t valid led matches e) refl
tells_collect asked c s id outcome t valid led matches may shown (Waits gate) e = tells_refusal asked c s t refusal.NotNow valid led matches
tells_collect asked c s id outcome t valid led matches may shown other e = tells_refusal asked c s t (refusal.Manager why.NoSuchQuery) valid led matches

tells_own : (asked : List Setting) (c : Configuration) (s : ScriptState) (id : ℕ) (outcome : Outcome) (t : Account) → IsValid c → IsLed c s → Matches t s.manager → IsShown outcome → own_refusal s.manager s.sessions.current id ≡ None → StepTells asked t (collect_step s id outcome (decide s.manager s.sessions.current (Collect id)))
tells_own asked c s id outcome t valid led matches shown own = tells_collect asked c s id outcome t valid led matches (collectable s.manager s.sessions.current id own).may shown (decide s.manager s.sessions.current (Collect id)) refl

tells_ran : (asked : List Setting) (c : Configuration) (s : ScriptState) (failed : Bool) (id : ℕ) (text : Option QueryView) (t : Account) → IsValid c → IsLed c s → Matches t s.manager → own_refusal s.manager s.sessions.current id ≡ None → StepTells asked t (ran_step s failed id text)
tells_ran asked c s failed id None t valid led matches own = tells_refusal asked c s t refusal.NotNow valid led matches
tells_ran asked c s failed id (Some q) t valid led matches own = tells_own asked c s id (outcome_of s.asked q failed) t valid led matches (shown_outcome s.asked q failed) own

tells_command : (c : Configuration) (s : ScriptState) (failed : Bool) (says : CommandView) (t : Account) → IsValid c → IsLed c s → IsStanding s → Matches t s.manager → StepTells (setting_asked (Ok (Some says))) t (command_step s failed says)
unfolding command_step
tells_command c s failed (command.SetPriority level) t valid led stands matches = tells_priority [] c s (level_priority s.sessions.opening level) t valid led matches
tells_command c s failed (command.Query ast) t valid led stands matches = tells_query [] c s (query_asked s.asked ast) t valid led stands matches
tells_command c s failed (command.Cancel id) t valid led stands matches = tells_cancel [] c s s.sessions.current id t valid led (led_event c s.manager s.history s.sessions.current (Cancel id) led stands.current) matches
tells_command c s failed command.Onstat t valid led stands matches = tells_same [] c s t (line.Status (status_of s.manager)) (print (line.Status (status_of s.manager))) refl refl refl valid led matches
tells_command c s failed (command.Onmode letter v) t valid led stands matches = tells_change c s s.sessions.current (letter_setting letter v) t valid led (led_event c s.manager s.history s.sessions.current (Onmode (letter_setting letter v)) led stands.current) matches
tells_command c s failed (command.Claim p f) t valid led stands matches = tells_claim [] c s p f t valid led stands matches
tells_command c s failed (command.Run id) t valid led stands matches = tells_unless [] c s t (own_refusal s.manager s.sessions.current id) (ran_step s failed id (text_of s id)) valid led matches (λ own. tells_ran [] c s failed id (text_of s id) t valid led matches own)
tells_command c s failed (command.Done id) t valid led stands matches =
    tells_unless [] c s t (own_refusal s.manager s.sessions.current id) (collect_step s id not_run (decide s.manager s.sessions.current (Collect id))) valid led matches (λ own. tells_own [] c s id not_run t valid led matches shown_none own)
tells_command c s failed (command.OpenSession admin) t valid led stands matches = tells_opened [] c s admin (decide s.manager (next_session s.manager) (OpenSession admin)) t valid led matches refl
tells_command c s failed (command.Choose session) t valid led stands matches = tells_use [] c s session t valid led matches
tells_command c s failed (command.CloseSession session) t valid led stands matches =
    tells_unless [] c s t (close_refusal s.manager s.sessions.current session) (record { text = closed_text session (next s.manager session CloseSession).entries; state = after_event s session CloseSession }) valid led matches (λ free. tells_closed [] c s session t valid led matches)
tells_command c s failed command.Hello t valid led stands matches = tells_silent [] c s t valid led matches
tells_command c s failed command.Admin t valid led stands matches = tells_silent [] c s t valid led matches
tells_command c s failed command.Quit t valid led stands matches = tells_silent [] c s t valid led matches
tells_command c s failed command.Shutdown t valid led stands matches = tells_silent [] c s t valid led matches

tells_step : (c : Configuration) (s : ScriptState) (failed : Bool) (says : Said) (t : Account) → IsValid c → IsLed c s → IsStanding s → Matches t s.manager → StepTells (setting_asked says) t (script_step s failed says)
tells_step c s failed (Ok (Some says)) t valid led stands matches = tells_command c s failed says t valid led stands matches
tells_step c s failed (Ok None) t valid led stands matches = tells_silent [] c s t valid led matches
tells_step c s failed (Err place) t valid led stands matches = tells_silent [] c s t valid led matches

-- some of two lists together
some_skip : (xs ys : List Setting) (y : Setting) → AreSomeOf xs ys → AreSomeOf xs (y ∷ ys)
some_skip [] ys y are = tt
some_skip (x ∷ xs) ys y are = inr are

some_then : (xs : List Setting) (ys us vs : List Setting) → AreSomeOf xs ys → AreSomeOf us vs → AreSomeOf (xs ++ us) (ys ++ vs)
some_then [] [] us vs first second = second
some_then [] (y ∷ ys) us vs first second = some_skip us (ys ++ vs) y (some_then [] ys us vs tt second)
some_then (x ∷ xs) [] us vs first second = absurd first
some_then (x ∷ xs) (y ∷ ys) us vs (inl (same, rest)) second = inl (same, some_then xs ys us vs rest second)
some_then (x ∷ xs) (y ∷ ys) us vs (inr rest) second = inr (some_then (x ∷ xs) ys us vs rest second)

-- the text of a script from here on is one of lines that keep the limits
record Shows (asked : List InputLine) (t : Account) (text : List ℕ) : Type 0 where
  lines : List PrintedLine
  printed : text ≡ flat_map print lines
  set : AreSomeOf (settings_told lines) (settings_asked asked)
  within : StaysWithin t lines

shows_line : (asked : List InputLine) (t : Account) (l : PrintedLine) → account_after t l ≡ t → setting_told l ≡ [] → IsWithin t → Shows asked t (print l)
shows_line asked t l same none within =
    let P : Account → Type 0 = IsWithin in
    let S : List Setting → Type 0 = λ xs. AreSomeOf (xs ++ []) (settings_asked asked) in
    record { lines = l ∷ []; printed = sym (append-nil (print l)); set = subst S (sym none) tt; within = (within, subst P (sym same) within) }

shows_then : (first : InputLine) (rest : List InputLine) (t : Account) (s : State) (text more : List ℕ) → (tells : Tells (setting_asked (line_of (without_return first.bytes))) t s text) → Shows rest (account_at t tells.lines) more → Shows (first ∷ rest) t (text ++ more)
shows_then first rest t s text more tells shows = record {
  lines = tells.lines ++ shows.lines;
  printed = ap (λ xs. xs ++ more) tells.printed ∙ ap (λ xs. flat_map print tells.lines ++ xs) shows.printed ∙ sym (flat_map-append print tells.lines shows.lines);
  set = let S : List Setting → Type 0 = λ xs. AreSomeOf xs (settings_asked (first ∷ rest)) in
      subst S (sym (flat_map-append setting_told tells.lines shows.lines)) (some_then (settings_told tells.lines) (setting_asked (line_of (without_return first.bytes))) (settings_told shows.lines) (settings_asked rest) tells.set shows.set);
  within = stays_then t tells.lines shows.lines tells.within shows.within;
}

shows_unless : (asked : List InputLine) (s : ScriptState) (t : Account) (o : Option LineFault) (text : List ℕ) (rest : Out) → IsWithin t → Shows asked t (text ++ rest.text) → Shows asked t (unless_fault s o (after text rest)).text
shows_unless asked s t None text rest within shows = shows
shows_unless asked s t (Some reason) text rest within shows = shows_line asked t (line.Faulty reason) refl refl within

shows_run : (c : Configuration) (s : ScriptState) (t : Account) (before : ℕ) (failed : Failures) (lines : List InputLine) → IsValid c → IsLed c s → IsStanding s → Matches t s.manager → Shows lines t (run_lines s before failed lines).text
unfolding run_lines
shows_run c s t before failed [] valid led stands matches = shows_line [] t (line.End s.manager.entries (reserved_quanta s.manager) (scans_in_use s.manager) (length s.manager.waiting)) refl refl (within_there c s.manager s.history t valid led matches)
shows_run c s t before failed (first ∷ lines) valid led stands matches =
    let says : Said = line_of (without_return first.bytes) in
    let now : Bool = fails_now failed in
    let step : StepTells (setting_asked says) t (script_step s now says) = tells_step c s now says t valid led stands matches in
    let rest : Out = run_lines (script_step s now says).state (before + size_of first) (fails_later failed) lines in
    shows_unless (first ∷ lines) s t (fault_at s before first) (script_step s now says).text rest (within_there c s.manager s.history t valid led matches)
    (shows_then first lines t (script_step s now says).state.manager (script_step s now says).text rest.text step
    (shows_run c (script_step s now says).state (account_at t step.lines) (before + size_of first) (fails_later failed) lines valid (led_step c s now says valid led stands) (standing_step s now says stands) step.matches))

nothing_held : (asked : AskedTables) (c : Configuration) (opening : ℕ) → Matches (opening_account c) (starting_state asked c opening).manager
unfolding settle
nothing_held asked c opening = record { limits = refl; pending = refl; held = refl }

pub texts_keep_limits : TextsKeepLimits
texts_keep_limits asked c opening bytes failed valid scannable small =
    let s : ScriptState = starting_state asked c opening in
    let t : Account = opening_account c in
    let led : IsLed c s = led_start asked c opening in
    let within : IsWithin t = within_there c s.manager s.history t valid led (nothing_held asked c opening) in
    let rest : Shows (lines_of bytes) t (run_lines s 0 failed (lines_of bytes)).text = shows_run c s t 0 failed (lines_of bytes) valid led (standing_start asked c opening scannable small) (nothing_held asked c opening) in record {
      lines = line.Session own_session true s.manager.entries ∷ rest.lines;
      printed = ap (λ xs. print (line.Session own_session true s.manager.entries) ++ xs) rest.printed;
      set = rest.set;
      within = (within, rest.within);
    }
