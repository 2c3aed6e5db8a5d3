-- What each command of a script does: its reply, and the state after it.
use Rattle.std.specs.Prelude.{ℕ, List, [], ◌∷◌, ◌++◌, Bool, true, false, not, ◌==◌, ◌||◌, nat_le, if◌then◌else◌, Option, Some, None, Result, Ok, Err}
use Rattle.pdq_model.specs.declared.events.Answer.{Answer}
use Rattle.pdq_model.specs.declared.events.Event.{Event}
use Rattle.pdq_model.specs.declared.events.Answer.TheVariants.{Entered, Waits, Refuses}
use Rattle.pdq_model.specs.declared.events.Event.TheVariants.{OpenSession, CloseSession, Submit, Collect, Finish, Cancel, Onmode}
use Rattle.pdq_model.specs.declared.events.How.{How}
use Rattle.pdq_model.specs.declared.events.How.TheVariants.{Done, Stopped, Failed}
use Rattle.pdq_model.specs.declared.events.Reply.TheVariants as reply
use Rattle.pdq_model.specs.declared.events.Setting.{Setting}
use Rattle.pdq_model.specs.declared.events.Why.TheVariants as why
use Rattle.pdq_model.specs.State.{State, next_query, next_session}
use Rattle.pdq_model.specs.StatusView.{status_of}
use Rattle.pdq_model.specs.Step.{admitted_after, decide, is_open, next}
use Rattle.pdq_model.specs.History.{has_query, may_collect}
use Rattle.pdq_gate.specs.Queries.{session_of}
use Rattle.pdq_stat.specs.StatusText.{status_text}
use Rattle.pdq_value.specs.declared.cells.Cell.{Cell}
use Rattle.pdq_query.specs.Answer.{answer}
use Rattle.pdq_query.specs.Queries.{QueryView}
use Rattle.pdq_sql.specs.declared.faults.SqlFault.{SqlFault}
use Rattle.pdq_sql.specs.declared.commands.Letter.{Letter}
use Rattle.pdq_reply.specs.declared.replies.Refusal.{Refusal}
use Rattle.pdq_reply.specs.declared.replies.Refusal.TheVariants as refusal
use Rattle.pdq_reply.specs.Answers.{rows_text, too_many_rows}
use Rattle.pdq_session.specs.Commands.{is_claim}
use Rattle.pdq_reply.specs.Changes.{letter_setting}
use Rattle.pdq_session.specs.ScriptStates.{AskedTables, ScriptState, after_event, priority_of, text_of, with_current, with_opened, with_priority}
use Rattle.pdq_reply.specs.Replies.{admits_text, cancelled_text, changed_text, chosen_text, closed_text, done_text, failed_text, flagged_text, pending_text, placed_text, priority_text, refusal_text, session_text, stopped_text, store_failed, withdrawn_text}

-- the reply to one line, and the state after it
pub record Stepped : Type 0 where
  pub text : List ℕ
  pub state : ScriptState

-- nothing is replied and nothing done
abbrev pub silent_step : ScriptState → Stepped
silent_step s = record { text = []; state = s }

-- what is asked for is refused
abbrev pub refused_step : ScriptState → Refusal → Stepped
refused_step s reason = record { text = refusal_text reason s.manager.entries; state = s }

-- the reply to an event, from its answer and the number of entries then, and then a line for each query that its entry admitted
abbrev pub event_text : (Answer → ℕ → List ℕ) → State → ℕ → Event → List ℕ
event_text told s who event = told (decide s who event) (next s who event).entries ++ admits_text (admitted_after s who event [])

-- an event of the current session
abbrev pub event_step : (Answer → ℕ → List ℕ) → ScriptState → Event → Stepped
event_step told s event = record { text = event_text told s.manager s.sessions.current event; state = after_event s s.sessions.current event }

-- the current session's priority is set
abbrev pub set_step : ScriptState → ℕ → Stepped
set_step s p = if nat_le p 100 then record { text = priority_text p; state = record s { sessions = with_priority s.sessions p } } else refused_step s refusal.OutOfRange

-- a query is submitted
abbrev pub submit_text : Answer → ℕ → List ℕ
submit_text (Entered (reply.Placed id priority gate)) step = placed_text id step priority gate
submit_text (Refuses reason) step = refusal_text (refusal.Manager reason) step
submit_text other step = []

abbrev pub submit_step : ScriptState → ℕ → ℕ → Stepped
submit_step s p f = event_step submit_text s (Submit p f)

-- a claim submits a query without a text
abbrev pub claim_step : ScriptState → ℕ → ℕ → Stepped
claim_step s p f = if is_claim p f then submit_step s p f else refused_step s refusal.OutOfRange

-- a query is cancelled
abbrev pub cancel_text : ℕ → Answer → ℕ → List ℕ
cancel_text id (Entered reply.Withdrawn) step = withdrawn_text id step
cancel_text id (Entered reply.Flagged) step = flagged_text id step
cancel_text id (Refuses reason) step = refusal_text (refusal.Manager reason) step
cancel_text id other step = []

abbrev pub cancel_step : ScriptState → ℕ → Stepped
cancel_step s id = event_step (cancel_text id) s (Cancel id)

-- a parameter of the manager is changed
abbrev pub change_text : Answer → ℕ → List ℕ
change_text (Entered (reply.Changed pending)) step = if pending then pending_text step else changed_text step
change_text (Refuses reason) step = refusal_text (refusal.Manager reason) step
change_text other step = []

abbrev pub change_step : ScriptState → Setting → Stepped
change_step s x = event_step change_text s (Onmode x)

abbrev pub onmode_step : ScriptState → Letter → ℕ → Stepped
onmode_step s letter v = change_step s (letter_setting letter v)

-- the status is shown
abbrev pub onstat_step : ScriptState → Stepped
onstat_step s = record { text = status_text (status_of s.manager); state = s }

-- a session is opened, and is the current one then
abbrev pub opened_by : ScriptState → Bool → Answer → Stepped
opened_by s admin (Entered (reply.Opened session)) = record {
  text = session_text session admin (next s.manager (next_session s.manager) (OpenSession admin)).entries;
  state = record (after_event s (next_session s.manager) (OpenSession admin)) { sessions = with_opened s.sessions session };
}
opened_by s admin (Refuses reason) = refused_step s (refusal.Manager reason)
opened_by s admin other = silent_step s

abbrev pub open_step : ScriptState → Bool → Stepped
open_step s admin = opened_by s admin (decide s.manager (next_session s.manager) (OpenSession admin))

-- an open session is made the current one
abbrev pub use_step : ScriptState → ℕ → Stepped
use_step s session = if is_open s.manager session then record { text = chosen_text session; state = record s { sessions = with_current s.sessions session } } else refused_step s refusal.NoSession

-- what is refused leaves all as it is, and else this is done
abbrev pub unless_refused : ScriptState → Option Refusal → Stepped → Stepped
unless_refused s None step = step
unless_refused s (Some reason) step = refused_step s reason

-- an open session is closed, other than the current one, that has no query
abbrev pub close_refusal : State → ℕ → ℕ → Option Refusal
close_refusal s current session =
    if not (is_open s session) then Some refusal.NoSession
    else if session == current || has_query s session then Some refusal.NotNow
    else None

abbrev pub close_step : ScriptState → ℕ → Stepped
close_step s session = unless_refused s (close_refusal s.manager s.sessions.current session) (record {
  text = closed_text session (next s.manager session CloseSession).entries;
  state = after_event s session CloseSession;
})

-- what a granted query came to: what is written before its last line, and whether it failed
pub record Outcome : Type 0 where
  pub text : List ℕ
  pub failed : Bool

-- a query that is not run
abbrev pub not_run : Outcome
not_run = record { text = []; failed = false }

-- a query that is run: its rows, or why there are none
abbrev pub shown_answer : Option (List (List Cell)) → Outcome
shown_answer None = record { text = too_many_rows; failed = true }
shown_answer (Some rows) = record { text = rows_text rows; failed = false }

abbrev pub outcome_of : AskedTables → QueryView → Bool → Outcome
outcome_of asked q store_fails = if store_fails then record { text = store_failed; failed = true } else shown_answer (answer asked.tables q)

-- a collected query ends so, and then each query that this entry admitted has a line
abbrev pub finished_with : (ℕ → List ℕ) → ScriptState → ℕ → How → Stepped
finished_with text s id how = event_step (λ answer step. text step) s (Finish id how)

abbrev pub end_step : ScriptState → ℕ → Outcome → Stepped
end_step s id outcome = if outcome.failed then finished_with (λ step. outcome.text ++ failed_text id step) s id Failed else finished_with (λ step. outcome.text ++ done_text id step) s id Done

-- a collected query ends: it is stopped where it was cancelled before, and else it ends by what it came to
abbrev pub finish_step : ScriptState → ℕ → Outcome → Option ℕ → Stepped
finish_step s id outcome None = end_step s id outcome
finish_step s id outcome (Some by) = finished_with (λ step. stopped_text id step by) s id Stopped

-- a query whose collection came to this answer; one that was withdrawn is collected alone
abbrev pub collect_step : ScriptState → ℕ → Outcome → Answer → Stepped
collect_step s id outcome (Entered (reply.Granted quanta scans priority flagged)) = finish_step (after_event s s.sessions.current (Collect id)) id outcome flagged
collect_step s id outcome (Entered (reply.Cancelled by)) = record {
  text = cancelled_text id (next s.manager s.sessions.current (Collect id)).entries by;
  state = after_event s s.sessions.current (Collect id);
}
collect_step s id outcome (Waits gate) = refused_step s refusal.NotNow
collect_step s id outcome other = refused_step s (refusal.Manager why.NoSuchQuery)

-- a query can be collected by its own session alone
abbrev pub own_refusal : State → ℕ → ℕ → Option Refusal
own_refusal s current id =
    if not (may_collect s (session_of s id) id) then Some (refusal.Manager why.NoSuchQuery)
    else if not (session_of s id == current) then Some (refusal.Manager why.NotAllowed)
    else None

-- a query is collected and ends without being run
abbrev pub done_step : ScriptState → ℕ → Stepped
done_step s id = unless_refused s (own_refusal s.manager s.sessions.current id) (collect_step s id not_run (decide s.manager s.sessions.current (Collect id)))

-- a query with a text is collected and run; a claim has nothing to run
abbrev pub ran_step : ScriptState → Bool → ℕ → Option QueryView → Stepped
ran_step s store_fails id None = refused_step s refusal.NotNow
ran_step s store_fails id (Some q) = collect_step s id (outcome_of s.asked q store_fails) (decide s.manager s.sessions.current (Collect id))

abbrev pub run_step : ScriptState → Bool → ℕ → Stepped
run_step s store_fails id = unless_refused s (own_refusal s.manager s.sessions.current id) (ran_step s store_fails id (text_of s id))

-- the text of a query is kept where it was submitted
abbrev pub with_text : ScriptState → QueryView → Answer → Stepped → Stepped
with_text s q (Entered r) step = record step { state = record step.state { texts = s.texts ++ record { id = next_query s.manager; text = q } ∷ [] } }
with_text s q other step = step

-- a query is submitted with the current session's priority, for so many scan threads as its widest table has fragments
abbrev pub query_step : ScriptState → Result QueryView SqlFault → Stepped
query_step s (Err e) = silent_step s
query_step s (Ok q) = with_text s q (decide s.manager s.sessions.current (Submit (priority_of s.sessions s.sessions.current) (s.asked.widest q))) (submit_step s (priority_of s.sessions s.sessions.current) (s.asked.widest q))
