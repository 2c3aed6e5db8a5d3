-- The journal of a script only grows, at its end.
use Rattle.std.proofs.Common.{◌≡◌, ℕ, ◌+◌, Bool, true, false, List, [], ◌∷◌, ◌++◌, Option, None, Some, Result, Ok, Err, refl, ap, sym, ◌∙◌, subst, append_assoc}
use Rattle.std.specs.Prelude.{nat_le, if◌then◌else◌}
use Rattle.std.proofs.lemmas.List.{append-nil}
use Rattle.std.proofs.lemmas.Option.{none-some}
use Rattle.pdq_model.specs.declared.events.Answer.{Answer}
use Rattle.pdq_model.specs.declared.events.Answer.TheVariants.{Entered, Waits, Refuses}
use Rattle.pdq_model.specs.declared.events.Entry.{Entry}
use Rattle.pdq_model.specs.declared.events.Event.{Event}
use Rattle.pdq_model.specs.declared.events.Event.TheVariants.{OpenSession, CloseSession, Submit, Collect, Finish, Cancel, Onmode}
use Rattle.pdq_model.specs.declared.events.How.TheVariants.{Done, Stopped, Failed}
use Rattle.pdq_model.specs.declared.events.Reply.TheVariants as reply
use Rattle.pdq_model.specs.State.{next_session}
use Rattle.pdq_model.specs.Step.{decide, is_open, next}
use Rattle.pdq_gate.specs.Journal.{history_after}
use Rattle.pdq_base.specs.Lines.{InputLine, size_of, without_return}
use Rattle.pdq_query.specs.Queries.{QueryView}
use Rattle.pdq_sql.specs.declared.faults.SqlFault.{SqlFault}
use Rattle.pdq_sql.specs.Commands.{CommandView}
use Rattle.pdq_sql.specs.Commands as command
use Rattle.pdq_reply.specs.declared.replies.LineFault.{LineFault}
use Rattle.pdq_reply.specs.declared.replies.Refusal.{Refusal}
use Rattle.pdq_reply.specs.declared.replies.Refusal.TheVariants as refusal
use Rattle.pdq_session.specs.Commands.{Said, is_claim, line_of}
use Rattle.pdq_reply.specs.Changes.{letter_setting, level_priority}
use Rattle.pdq_reply.specs.Replies.{chosen_text, closed_text, done_text, failed_text, priority_text}
use Rattle.pdq_session.specs.ScriptStates.{ScriptState, after_event, priority_of, text_of, with_current, with_priority}
use Rattle.pdq_session.specs.ScriptSteps.{Outcome, Stepped, claim_step, close_refusal, collect_step, end_step, finished_with, not_run, opened_by, outcome_of, own_refusal, query_step, ran_step, refused_step, run_step, set_step, submit_step, unless_refused, use_step, with_text}
use Rattle.pdq_session.specs.ScriptTranscript.{Failures, Out, after, command_step, fails_later, fails_now, fault_at, fault_of, fault_of_command, fault_of_query, query_asked, run_lines, script_step, unless_fault}
use Rattle.pdq_session.specs.ScriptLines.{Begins, IsGivenUp, MadeFirst}

pub begins_same : {X : Type 0} (xs : List X) → Begins xs xs
begins_same xs = record { tail = []; part = sym (append-nil xs) }

begins_one : {X : Type 0} (xs : List X) (x : X) → Begins (xs ++ x ∷ []) xs
begins_one xs x = record { tail = x ∷ []; part = refl }

pub begins_then : {X : Type 0} (xs ys zs : List X) → Begins ys xs → Begins zs ys → Begins zs xs
begins_then xs ys zs first second = record {
  tail = first.tail ++ second.tail;
  part = second.part ∙ ap (λ ws. ws ++ second.tail) first.part ∙ append_assoc xs first.tail second.tail;
}

pub begins_is : {X : Type 0} (xs ys zs : List X) → zs ≡ ys → Begins ys xs → Begins zs xs
begins_is xs ys zs same begins = record { tail = begins.tail; part = same ∙ begins.part }

grown_by : (history : List Entry) (who : ℕ) (event : Event) (answer : Answer) → Begins (history_after history who event answer) history
grown_by history who event (Entered r) = begins_one history (record { session = who; event = event; reply = r })
grown_by history who event (Waits gate) = begins_same history
grown_by history who event (Refuses reason) = begins_same history

pub grown_event : (s : ScriptState) (who : ℕ) (event : Event) → Begins (after_event s who event).history s.history
grown_event s who event = grown_by s.history who event (decide s.manager who event)

grown_twice : (s : ScriptState) (who : ℕ) (first second : Event) → Begins (after_event (after_event s who first) who second).history s.history
grown_twice s who first second = begins_then s.history (after_event s who first).history (after_event (after_event s who first) who second).history (grown_event s who first) (grown_event (after_event s who first) who second)

grown_refused : (s : ScriptState) (o : Option Refusal) (step : Stepped) → Begins step.state.history s.history → Begins (unless_refused s o step).state.history s.history
grown_refused s None step grown = grown
grown_refused s (Some reason) step grown = begins_same s.history

grown_set : (s : ScriptState) (p : ℕ) → Begins (set_step s p).state.history s.history
grown_set s p = elim (nat_le p 100) as (λ b. Begins (if b then record { text = priority_text p; state = record s { sessions = with_priority s.sessions p } } else refused_step s refusal.OutOfRange).state.history s.history) [ true ↦ begins_same s.history | false ↦ begins_same s.history ]

grown_claim : (s : ScriptState) (p f : ℕ) → Begins (claim_step s p f).state.history s.history
grown_claim s p f = elim (is_claim p f) as (λ b. Begins (if b then submit_step s p f else refused_step s refusal.OutOfRange).state.history s.history) [ true ↦ grown_event s s.sessions.current (Submit p f) | false ↦ begins_same s.history ]

grown_opened : (s : ScriptState) (admin : Bool) (answer : Answer) → Begins (opened_by s admin answer).state.history s.history
grown_opened s admin (Entered (reply.Opened session)) = grown_event s (next_session s.manager) (OpenSession admin)
grown_opened s admin (Entered other) = begins_same s.history
grown_opened s admin (Waits gate) = begins_same s.history
grown_opened s admin (Refuses reason) = begins_same s.history

grown_use : (s : ScriptState) (session : ℕ) → Begins (use_step s session).state.history s.history
grown_use s session = elim (is_open s.manager session) as (λ b. Begins (if b then record { text = chosen_text session; state = record s { sessions = with_current s.sessions session } } else refused_step s refusal.NoSession).state.history s.history) [ true ↦ begins_same s.history | false ↦ begins_same s.history ]

pub grown_end : (s before : ScriptState) (id : ℕ) (outcome : Outcome) → Begins s.history before.history → Begins (end_step s id outcome).state.history before.history
grown_end s before id outcome grown = go outcome.failed
  where
    go : (b : Bool) → Begins (if b then finished_with (λ step. outcome.text ++ failed_text id step) s id Failed else finished_with (λ step. outcome.text ++ done_text id step) s id Done).state.history before.history
    go true = begins_then before.history s.history (after_event s s.sessions.current (Finish id Failed)).history grown (grown_event s s.sessions.current (Finish id Failed))
    go false = begins_then before.history s.history (after_event s s.sessions.current (Finish id Done)).history grown (grown_event s s.sessions.current (Finish id Done))

pub grown_collect : (s : ScriptState) (id : ℕ) (outcome : Outcome) (answer : Answer) → Begins (collect_step s id outcome answer).state.history s.history
grown_collect s id outcome (Entered (reply.Granted quanta scans priority None)) = grown_end (after_event s s.sessions.current (Collect id)) s id outcome (grown_event s s.sessions.current (Collect id))
grown_collect s id outcome (Entered (reply.Granted quanta scans priority (Some by))) = grown_twice s s.sessions.current (Collect id) (Finish id Stopped)
grown_collect s id outcome (Entered (reply.Cancelled by)) = grown_event s s.sessions.current (Collect id)
grown_collect s id outcome other = begins_same s.history

grown_ran : (s : ScriptState) (failed : Bool) (id : ℕ) (text : Option QueryView) → Begins (ran_step s failed id text).state.history s.history
grown_ran s failed id None = begins_same s.history
grown_ran s failed id (Some q) = grown_collect s id (outcome_of s.asked q failed) (decide s.manager s.sessions.current (Collect id))

grown_text : (s : ScriptState) (q : QueryView) (answer : Answer) (step : Stepped) → Begins step.state.history s.history → Begins (with_text s q answer step).state.history s.history
grown_text s q (Entered r) step grown = grown
grown_text s q (Waits gate) step grown = grown
grown_text s q (Refuses reason) step grown = grown

pub grown_query : (s : ScriptState) (r : Result QueryView SqlFault) → Begins (query_step s r).state.history s.history
grown_query s (Err e) = begins_same s.history
grown_query s (Ok q) =
    let event : Event = Submit (priority_of s.sessions s.sessions.current) (s.asked.widest q) in
    grown_text s q (decide s.manager s.sessions.current event) (submit_step s (priority_of s.sessions s.sessions.current) (s.asked.widest q)) (grown_event s s.sessions.current event)

grown_command : (s : ScriptState) (failed : Bool) (c : CommandView) → Begins (command_step s failed c).state.history s.history
unfolding command_step
grown_command s failed (command.SetPriority level) = grown_set s (level_priority s.sessions.opening level)
grown_command s failed (command.Query ast) = grown_query s (query_asked s.asked ast)
grown_command s failed (command.Cancel id) = grown_event s s.sessions.current (Cancel id)
grown_command s failed command.Onstat = begins_same s.history
grown_command s failed (command.Onmode letter v) = grown_event s s.sessions.current (Onmode (letter_setting letter v))
grown_command s failed (command.Claim p f) = grown_claim s p f
grown_command s failed (command.Run id) = grown_refused s (own_refusal s.manager s.sessions.current id) (ran_step s failed id (text_of s id)) (grown_ran s failed id (text_of s id))
grown_command s failed (command.Done id) = grown_refused s (own_refusal s.manager s.sessions.current id) (collect_step s id not_run (decide s.manager s.sessions.current (Collect id))) (grown_collect s id not_run (decide s.manager s.sessions.current (Collect id)))
grown_command s failed (command.OpenSession admin) = grown_opened s admin (decide s.manager (next_session s.manager) (OpenSession admin))
grown_command s failed (command.Choose session) = grown_use s session
grown_command s failed (command.CloseSession session) = grown_refused s (close_refusal s.manager s.sessions.current session) (record { text = closed_text session (next s.manager session CloseSession).entries; state = after_event s session CloseSession }) (grown_event s session CloseSession)
grown_command s failed command.Hello = begins_same s.history
grown_command s failed command.Admin = begins_same s.history
grown_command s failed command.Quit = begins_same s.history
grown_command s failed command.Shutdown = begins_same s.history

pub grown_step : (s : ScriptState) (failed : Bool) (says : Said) → Begins (script_step s failed says).state.history s.history
grown_step s failed (Ok (Some c)) = grown_command s failed c
grown_step s failed (Ok None) = begins_same s.history
grown_step s failed (Err place) = begins_same s.history

-- a line that is refused leaves all as it is
refused_query : (s : ScriptState) (r : Result QueryView SqlFault) (reason : LineFault) → fault_of_query r ≡ Some reason → (query_step s r).state ≡ s
refused_query s (Ok q) reason is = absurd (none-some reason is)
refused_query s (Err e) reason is = refl

refused_command : (s : ScriptState) (failed : Bool) (c : CommandView) (reason : LineFault) → fault_of_command s.asked c ≡ Some reason → (command_step s failed c).state ≡ s
unfolding command_step
refused_command s failed (command.Query ast) reason is = refused_query s (query_asked s.asked ast) reason is
refused_command s failed (command.SetPriority level) reason is = absurd (none-some reason is)
refused_command s failed (command.Cancel id) reason is = absurd (none-some reason is)
refused_command s failed command.Onstat reason is = refl
refused_command s failed (command.Onmode letter v) reason is = absurd (none-some reason is)
refused_command s failed (command.Claim p f) reason is = absurd (none-some reason is)
refused_command s failed (command.Run id) reason is = absurd (none-some reason is)
refused_command s failed (command.Done id) reason is = absurd (none-some reason is)
refused_command s failed (command.OpenSession admin) reason is = absurd (none-some reason is)
refused_command s failed (command.Choose session) reason is = absurd (none-some reason is)
refused_command s failed (command.CloseSession session) reason is = absurd (none-some reason is)
refused_command s failed command.Hello reason is = refl
refused_command s failed command.Admin reason is = refl
refused_command s failed command.Quit reason is = refl
refused_command s failed command.Shutdown reason is = refl

refused_same : (s : ScriptState) (failed : Bool) (says : Said) (reason : LineFault) → fault_of s.asked says ≡ Some reason → (script_step s failed says).state ≡ s
refused_same s failed (Ok (Some c)) reason is = refused_command s failed c reason is
refused_same s failed (Ok None) reason is = refl
refused_same s failed (Err place) reason is = refl

grown_unless : (s : ScriptState) (o : Option LineFault) (text : List ℕ) (rest : Out) (history : List Entry) → Begins s.history history → Begins rest.state.history history → Begins (unless_fault s o (after text rest)).state.history history
grown_unless s None text rest history here there = there
grown_unless s (Some reason) text rest history here there = here

-- what is left to run makes further entries
pub grown_run : (s : ScriptState) (before : ℕ) (failed : Failures) (lines : List InputLine) → Begins (run_lines s before failed lines).state.history s.history
unfolding run_lines
grown_run s before failed [] = begins_same s.history
grown_run s before failed (line ∷ lines) =
    let step = script_step s (fails_now failed) (line_of (without_return line.bytes)) in
    let rest : Out = run_lines step.state (before + size_of line) (fails_later failed) lines in
    grown_unless s (fault_at s before line) step.text rest s.history (begins_same s.history)
    (begins_then s.history step.state.history rest.state.history (grown_step s (fails_now failed) (line_of (without_return line.bytes))) (grown_run step.state (before + size_of line) (fails_later failed) lines))

-- a line whose entries were made, and what is left
pub grown_line : (s : ScriptState) (failed : Bool) (says : Said) (text : List ℕ) (rest : Out) → Begins rest.state.history (script_step s failed says).state.history → Begins (unless_fault s (fault_of s.asked says) (after text rest)).state.history (script_step s failed says).state.history
grown_line s failed says text rest grown = go (fault_of s.asked says) refl
  where
    go : (o : Option LineFault) → fault_of s.asked says ≡ o → Begins (unless_fault s o (after text rest)).state.history (script_step s failed says).state.history
    go None is = grown
    go (Some reason) is = let P : ScriptState → Type 0 = λ t. Begins s.history t.history in subst P (sym (refused_same s failed says reason is)) (begins_same s.history)

-- the entries that were made, where memory was wanting
pub made_all : (whole made : List Entry) → Begins whole made → MadeFirst whole made
made_all whole made begins = record { front = made; ends = []; part = sym (append-nil made); begins = begins; given_up = tt }

pub made_then : (made here whole : List Entry) → MadeFirst here made → Begins whole here → MadeFirst whole made
made_then made here whole first begins = record { front = first.front; ends = first.ends; part = first.part; begins = begins_then first.front here whole first.begins begins; given_up = first.given_up }

pub made_given_up : (whole front made : List Entry) (e : Entry) → Begins whole front → made ≡ front ++ e ∷ [] → IsGivenUp e.event → MadeFirst whole made
made_given_up whole front made e begins is gone = record { front = front; ends = e ∷ []; part = is; begins = begins; given_up = gone }

-- RUN only makes further entries
pub grown_run_query : (s : ScriptState) (failed : Bool) (id : ℕ) → Begins (run_step s failed id).state.history s.history
grown_run_query s failed id = grown_refused s (own_refusal s.manager s.sessions.current id) (ran_step s failed id (text_of s id)) (grown_ran s failed id (text_of s id))
