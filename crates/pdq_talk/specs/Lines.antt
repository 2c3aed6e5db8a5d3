-- What one line of a session asks for, what is replied to it, and when a reply is the right one. A reply names the steps that it prints, so its text and
-- the entries that it speaks of are functions of it, and what has to be true of it is said of the history alone.
use Rattle.std.specs.Prelude.{ℕ, ◌≡◌, ◌<◌, ◌≤◌, List, [], ◌∷◌, ◌++◌, length, Bool, true, false, Option, Some, None, nat_le, if◌then◌else◌, ⊤, ◌⊎◌}
use Rattle.pdq_model.specs.declared.events.Answer.TheVariants.{Refuses}
use Rattle.pdq_model.specs.declared.events.Entry.{Entry}
use Rattle.pdq_model.specs.declared.events.Event.TheVariants.{OpenSession, CloseSession, Submit, Collect, Finish, Cancel, Onmode}
use Rattle.pdq_model.specs.declared.events.How.{How}
use Rattle.pdq_model.specs.declared.events.How.TheVariants.{Done, Stopped, Failed}
use Rattle.pdq_model.specs.declared.events.Event.{Event}
use Rattle.pdq_model.specs.declared.events.Reply.{Reply}
use Rattle.pdq_model.specs.declared.events.Reply.TheVariants as reply
use Rattle.pdq_model.specs.declared.events.Setting.{Setting}
use Rattle.pdq_model.specs.declared.events.Why.{Why}
use Rattle.pdq_model.specs.declared.events.Why.TheVariants as why
use Rattle.pdq_model.specs.Configuration.{Configuration}
use Rattle.pdq_model.specs.State.{next_session}
use Rattle.pdq_model.specs.Step.{answer_to_change, decide}
use Rattle.pdq_talk.specs.declared.replied.Party.{Party}
use Rattle.pdq_talk.specs.declared.replied.Standing.{Standing}
use Rattle.pdq_talk.specs.declared.replied.Evaluated.{Evaluated}
use Rattle.pdq_talk.specs.declared.replied.Ran.{Ran}
use Rattle.pdq_talk.specs.declared.replied.Came.{Came}
use Rattle.pdq_talk.specs.declared.replied.Replied.{Replied}
use Rattle.pdq_talk.specs.declared.replied.Evaluated.TheVariants.{Rows, TooManyRows, StoreFailed, NoMemory}
use Rattle.pdq_talk.specs.declared.replied.Ran.TheVariants.{Ended, WasStopped}
use Rattle.pdq_talk.specs.declared.replied.Came.TheVariants.{WasCancelled, WasGranted}
use Rattle.pdq_talk.specs.declared.replied.Replied.TheVariants.{Silent, Error, NoSession, NoRoom, Opened, NotNow, NotAllowed, Refused, ChangeRefused, PrioritySet, OutOfRange, Placed, Cancelled, Changed, Shown, Closed, Left}
use Rattle.pdq_model.specs.Given.{WasCancelledAt}
use Rattle.pdq_talk.specs.Status.{onstat}
use Rattle.pdq_talk.specs.History.{StandsAt, IsChangedByAnother, entry_of, state_at}
use Rattle.pdq_sql.specs.declared.faults.SqlFault.{SqlFault}
use Rattle.pdq_reply.specs.Answers.{refused_select, too_many_rows}
use Rattle.pdq_reply.specs.Changes.{pool_made}
use Rattle.pdq_reply.specs.Replies as text
use Rattle.pdq_talk.specs.Texts.{granted_text, no_memory, no_session, not_now_text, out_of_range, refused_text}

-- what is known of the answer to a query: its text, or that it has more choices than the row limit; nothing where the stores do not tell what they hold
pub data Expected : Type 0 where
  AnyAnswer : Expected
  RowsOf : List ℕ → Expected
  PastLimit : Expected

-- what a line asks for; a query comes with the number of fragments that it submits, and with what is known of its answer
pub data Asked : Type 0 where
  -- a blank line or a comment
  Nothing : Asked
  -- no line of the language, and a query over names that do not fit the tables
  BadLine : SqlFault → Asked
  Unresolved : SqlFault → Asked
  -- HELLO and ADMIN
  Open : Bool → Asked
  -- SET PDQPRIORITY, None where the number is above 100
  Priority : Option ℕ → Asked
  Query : ℕ → Expected → Asked
  CancelQuery : ℕ → Asked
  Change : Setting → Asked
  Status : Asked
  Quit : Asked
  Shutdown : Asked

-- a priority in percent; None where the number is above 100
abbrev pub percent : ℕ → Option ℕ
percent n = if nat_le n 100 then Some n else None

-- whether a query that was evaluated so is done or has failed
abbrev pub ending_of : Evaluated → How
ending_of (Rows rows) = Done
ending_of TooManyRows = Failed
ending_of StoreFailed = Failed
ending_of NoMemory = Failed

abbrev pub evaluated_text : Evaluated → List ℕ
evaluated_text (Rows rows) = rows.items
evaluated_text TooManyRows = too_many_rows
evaluated_text StoreFailed = text.store_failed
evaluated_text NoMemory = no_memory

abbrev pub end_text : How → ℕ → ℕ → List ℕ
end_text Done id step = text.done_text id step
end_text Stopped id step = []
end_text Failed id step = text.failed_text id step

abbrev pub ran_text : ℕ → Ran → List ℕ
ran_text id (Ended evaluated step) = evaluated_text evaluated ++ end_text (ending_of evaluated) id step
ran_text id (WasStopped step by) = text.stopped_text id step by

abbrev pub came_text : ℕ → Came → List ℕ
came_text id (WasCancelled step by) = text.cancelled_text id step by
came_text id (WasGranted step quanta scans priority flagged ran) = granted_text id step quanta scans ++ ran_text id ran

-- these lines are those that are known
abbrev pub AreRows : Expected → List ℕ → Type 0
AreRows AnyAnswer rows = ⊤
AreRows (RowsOf lines) rows = rows ≡ lines
AreRows PastLimit rows = ⊥

abbrev pub IsPastLimit : Expected → Type 0
IsPastLimit AnyAnswer = ⊤
IsPastLimit (RowsOf lines) = ⊥
IsPastLimit PastLimit = ⊤

-- a query came to the answer that is known, unless a store failed or memory was wanting
abbrev pub IsAnswer : Expected → Evaluated → Type 0
IsAnswer answer (Rows rows) = AreRows answer rows.items
IsAnswer answer TooManyRows = IsPastLimit answer
IsAnswer answer StoreFailed = ⊤
IsAnswer answer NoMemory = ⊤

-- the refusal of a pool's size has another session's change for its cause
abbrev pub HasPoolCause : List Entry → ℕ → ℕ → ℕ → Why → Type 0
HasPoolCause history who last step (why.PoolSize quanta frames) = IsChangedByAnother history who last step
HasPoolCause history who last step why.QueueFull = ⊤
HasPoolCause history who last step why.JournalFull = ⊤
HasPoolCause history who last step why.NotAllowed = ⊤
HasPoolCause history who last step why.NoSuchQuery = ⊤
HasPoolCause history who last step why.BadValue = ⊤
HasPoolCause history who last step why.AlreadyCancelled = ⊤
HasPoolCause history who last step why.TooManySessions = ⊤

-- a step that is printed lies between the last one printed and the end of the history
pub record IsStep (history : List Entry) (last step : ℕ) : Type 0 where
  pub later : last ≤ step
  pub within : step ≤ length history

-- an entry of a line: it stands at its step, which comes after the last one printed
pub record IsEntered (history : List Entry) (last step : ℕ) (entry : Entry) : Type 0 where
  pub later : last < step
  pub stands : StandsAt history step entry

-- a granted query ran to this end
abbrev pub RunsTo : List Entry → ℕ → ℕ → Expected → ℕ → Option ℕ → Ran → Type 0
RunsTo history who id answer last None (Ended evaluated step) =
    IsAnswer answer evaluated × IsEntered history last step (entry_of who (Finish id (ending_of evaluated)) reply.Finished)
RunsTo history who id answer last (Some by) (Ended evaluated step) = ⊥
RunsTo history who id answer last None (WasStopped step by) =
    WasCancelledAt history by id × IsEntered history last step (entry_of who (Finish id Stopped) reply.Finished)
RunsTo history who id answer last (Some flagged) (WasStopped step by) =
    (by ≡ flagged) × WasCancelledAt history by id × IsEntered history last step (entry_of who (Finish id Stopped) reply.Finished)

-- what became of a placed query
abbrev pub ComesTo : List Entry → ℕ → ℕ → Expected → ℕ → Came → Type 0
ComesTo history who id answer last (WasCancelled step by) =
    WasCancelledAt history by id × IsEntered history last step (entry_of who (Collect id) (reply.Cancelled by))
ComesTo history who id answer last (WasGranted step quanta scans priority flagged ran) =
    IsEntered history last step (entry_of who (Collect id) (reply.Granted quanta scans priority flagged)) × RunsTo history who id answer step flagged ran

-- the text of a reply
abbrev pub reply_text : Replied → List ℕ
reply_text Silent = []
reply_text (Error e) = refused_select e
reply_text NoSession = no_session
reply_text NoRoom = no_memory
reply_text (Opened number step admin) = text.session_text number admin step
reply_text (NotNow step) = not_now_text step
reply_text (NotAllowed step) = refused_text why.NotAllowed step
reply_text (Refused reason step) = refused_text reason step
reply_text (ChangeRefused reason look step) = refused_text reason step
reply_text (PrioritySet p) = text.priority_text p
reply_text OutOfRange = out_of_range
reply_text (Placed frags id step priority gate came) = text.placed_text id step priority gate ++ came_text id came
reply_text (Cancelled true id step) = text.withdrawn_text id step
reply_text (Cancelled false id step) = text.flagged_text id step
reply_text (Changed setting true step) = text.pending_text step
reply_text (Changed setting false step) = text.changed_text step
reply_text (Shown step status) = status.items
reply_text (Closed number step shuts) = text.closed_text number step
reply_text Left = []

-- the entries that a reply speaks of, each with its place
abbrev pub ran_entries : ℕ → ℕ → Ran → List (ℕ × Entry)
ran_entries who id (Ended evaluated step) = (step, entry_of who (Finish id (ending_of evaluated)) reply.Finished) ∷ []
ran_entries who id (WasStopped step by) = (step, entry_of who (Finish id Stopped) reply.Finished) ∷ []

abbrev pub came_entries : ℕ → ℕ → Came → List (ℕ × Entry)
came_entries who id (WasCancelled step by) = (step, entry_of who (Collect id) (reply.Cancelled by)) ∷ []
came_entries who id (WasGranted step quanta scans priority flagged ran) = (step, entry_of who (Collect id) (reply.Granted quanta scans priority flagged)) ∷ ran_entries who id ran

abbrev pub cancel_reply : Bool → Reply
cancel_reply waited = if waited then reply.Withdrawn else reply.Flagged

-- the same of the whole reply, to a line of the session `who` at this priority
abbrev pub reply_entries : ℕ → ℕ → Replied → List (ℕ × Entry)
reply_entries who p (Opened number step admin) = (step, entry_of number (OpenSession admin) (reply.Opened number)) ∷ []
reply_entries who p (Placed frags id step priority gate came) = (step, entry_of who (Submit p frags) (reply.Placed id priority gate)) ∷ came_entries who id came
reply_entries who p (Cancelled waited id step) = (step, entry_of who (Cancel id) (cancel_reply waited)) ∷ []
reply_entries who p (Changed setting pending step) = (step, entry_of who (Onmode setting) (reply.Changed pending)) ∷ []
reply_entries who p (Closed number step shuts) = (step, entry_of who CloseSession reply.Closed) ∷ []
reply_entries who p other = []

-- the greatest step that a reply prints, where the greatest so far is `last`
abbrev pub ran_step : Ran → ℕ
ran_step (Ended evaluated step) = step
ran_step (WasStopped step by) = step

abbrev pub came_step : Came → ℕ
came_step (WasCancelled step by) = step
came_step (WasGranted step quanta scans priority flagged ran) = ran_step ran

abbrev pub step_after : ℕ → Replied → ℕ
step_after last (Opened number step admin) = step
step_after last (NotNow step) = step
step_after last (NotAllowed step) = step
step_after last (Refused reason step) = step
step_after last (ChangeRefused reason look step) = step
step_after last (Placed frags id step priority gate came) = came_step came
step_after last (Cancelled waited id step) = step
step_after last (Changed setting pending step) = step
step_after last (Shown step status) = step
step_after last (Closed number step shuts) = step
step_after last other = last

abbrev pub party_after : Option Party → Replied → Option Party
party_after party (Opened number step admin) = Some (record { number = number; admin = admin })
party_after party (Closed number step shuts) = None
party_after party other = party

abbrev pub priority_after : ℕ → Replied → ℕ
priority_after p (PrioritySet q) = q
priority_after p other = p

-- what a session keeps after a reply
abbrev pub standing_after : Standing → Replied → Standing
standing_after s r = record { party = party_after s.party r; priority = priority_after s.priority r; step = step_after s.step r }

-- the number of the session that is open, and 0 where none is
abbrev pub number_of : Option Party → ℕ
number_of None = 0
number_of (Some party) = party.number

-- this fault is the reply
abbrev pub IsError : SqlFault → Replied → Type 0
IsError e (Error told) = told ≡ e
IsError e other = ⊥

-- when a reply is the right one, over a manager of the configuration `c` and a history of which the session knows at least this much
module _ (c : Configuration) (history : List Entry) where
  -- the manager refused at this step
  abbrev pub IsRefusedAt : ℕ → ℕ → ℕ → Event → Why → Type 0
  IsRefusedAt last step who event reason = IsStep history last step × (decide (state_at c history step) who event ≡ Refuses reason)

  -- HELLO or ADMIN where no session is open
  abbrev pub IsOpening : ℕ → Bool → Replied → Type 0
  IsOpening last admin (Opened number step role) = (role ≡ admin) × IsEntered history last step (entry_of number (OpenSession admin) (reply.Opened number))
  IsOpening last admin (Refused reason step) = IsRefusedAt last step (next_session (state_at c history step)) (OpenSession admin) reason
  IsOpening last admin other = ⊥

  abbrev pub IsNotNow : ℕ → Replied → Type 0
  IsNotNow last (NotNow step) = IsStep history last step
  IsNotNow last other = ⊥

  abbrev pub IsQueried : ℕ → ℕ → ℕ → ℕ → Expected → Replied → Type 0
  IsQueried who p last frags answer (Refused reason step) = IsRefusedAt last step who (Submit p frags) reason
  IsQueried who p last frags answer (Placed f id step priority gate came) =
      (f ≡ frags) × IsEntered history last step (entry_of who (Submit p frags) (reply.Placed id priority gate)) × ComesTo history who id answer step came
  IsQueried who p last frags answer other = ⊥

  abbrev pub IsCancelling : ℕ → ℕ → ℕ → Replied → Type 0
  IsCancelling who last id (Cancelled waited of step) = (of ≡ id) × IsEntered history last step (entry_of who (Cancel id) (cancel_reply waited))
  IsCancelling who last id (Refused reason step) = IsRefusedAt last step who (Cancel id) reason
  IsCancelling who last id other = ⊥

  abbrev pub IsChanging : ℕ → ℕ → Setting → Replied → Type 0
  IsChanging who last setting (Changed made pending step) = (made ≡ setting) × IsEntered history last step (entry_of who (Onmode setting) (reply.Changed pending))
  IsChanging who last setting (ChangeRefused reason look step) =
      (last ≤ look) × (look ≤ step) × IsStep history last step
      × (answer_to_change (state_at c history step) who setting (pool_made (state_at c history look) who setting) ≡ Refuses reason)
      × HasPoolCause history who last step reason
  IsChanging who last setting other = ⊥

  abbrev pub IsShowing : ℕ → Replied → Type 0
  IsShowing last (Shown step status) = IsStep history last step × (status.items ≡ onstat (state_at c history step))
  IsShowing last other = ⊥

  -- QUIT, and SHUTDOWN of an administrator
  abbrev pub IsClosing : ℕ → ℕ → Bool → Replied → Type 0
  IsClosing who last shuts (Closed number step by_shutdown) = (number ≡ who) × (by_shutdown ≡ shuts) × IsEntered history last step (entry_of who CloseSession reply.Closed)
  IsClosing who last shuts other = ⊥

  abbrev pub IsNotAllowed : ℕ → Replied → Type 0
  IsNotAllowed last (NotAllowed step) = IsStep history last step
  IsNotAllowed last other = ⊥

  -- the reply to SHUTDOWN, by role
  abbrev pub IsShutting : Bool → ℕ → ℕ → Replied → Type 0
  IsShutting true who last r = IsClosing who last true r
  IsShutting false who last r = IsNotAllowed last r

  abbrev pub priority_reply : Option ℕ → Replied
  priority_reply None = OutOfRange
  priority_reply (Some p) = PrioritySet p

  -- the reply where no session is open
  abbrev pub RepliesBefore : ℕ → Asked → Replied → Type 0
  RepliesBefore last Nothing r = r ≡ Silent
  RepliesBefore last (BadLine e) r = IsError e r
  RepliesBefore last (Open admin) r = IsOpening last admin r
  RepliesBefore last Quit r = r ≡ Left
  RepliesBefore last other r = r ≡ NoSession

  -- the reply to a session that is open
  abbrev pub RepliesWithin : Party → ℕ → ℕ → Asked → Replied → Type 0
  RepliesWithin who p last Nothing r = r ≡ Silent
  RepliesWithin who p last (BadLine e) r = IsError e r
  RepliesWithin who p last (Unresolved e) r = IsError e r
  RepliesWithin who p last (Open admin) r = IsNotNow last r
  RepliesWithin who p last (Priority level) r = r ≡ priority_reply level
  RepliesWithin who p last (Query frags answer) r = IsQueried who.number p last frags answer r
  RepliesWithin who p last (CancelQuery id) r = IsCancelling who.number last id r
  RepliesWithin who p last (Change setting) r = IsChanging who.number last setting r
  RepliesWithin who p last Status r = IsShowing last r
  RepliesWithin who p last Quit r = IsClosing who.number last false r
  RepliesWithin who p last Shutdown r = IsShutting who.admin who.number last r

  abbrev pub RepliesBy : Option Party → ℕ → ℕ → Asked → Replied → Type 0
  RepliesBy None p last asked r = RepliesBefore last asked r
  RepliesBy (Some who) p last asked r = RepliesWithin who p last asked r

  -- the reply to one line; want of memory may stand in place of the whole, where no entry was made
  abbrev pub RepliesTo : Standing → Asked → Replied → Type 0
  RepliesTo s asked r = (r ≡ NoRoom) ⊎ RepliesBy s.party s.priority s.step asked r
