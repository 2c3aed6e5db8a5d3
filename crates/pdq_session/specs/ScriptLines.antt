-- A line of a script as it is run.
use Rattle.std.specs.Prelude.{⊤, ◌≡◌, ℕ, List, [], ◌∷◌, ◌++◌, Bool, true, false, Option, Some, None, Ok, Err}
use Rattle.pdq_model.specs.declared.events.Entry.{Entry}
use Rattle.pdq_model.specs.declared.events.Event.{Event}
use Rattle.pdq_model.specs.declared.events.Event.TheVariants.{Collect, Finish}
use Rattle.pdq_model.specs.Step.{decide}
use Rattle.pdq_model.specs.declared.events.How.TheVariants.{Failed}
use Rattle.pdq_query.specs.declared.query.Query.{Query as QueryValue}
use Rattle.pdq_query.specs.Fits.{Fits}
use Rattle.pdq_query.specs.Queries.{QueryView, query_of}
use Rattle.pdq_sql.specs.Asts.{AstView}
use Rattle.pdq_sql.specs.Commands.{CommandView, command_of}
use Rattle.pdq_sql.specs.Commands as command
use Rattle.pdq_answer.specs.declared.evaluating.Evaluated.{Evaluated}
use Rattle.pdq_answer.specs.declared.evaluating.Evaluated.TheVariants as evaluated
use Rattle.pdq_exec.specs.Runs.{rows_are}
use Rattle.pdq_reply.specs.Answers.{rows_text, too_many_rows}
use Rattle.pdq_reply.specs.Replies.{store_failed}
use Rattle.pdq_session.specs.declared.script_lines.ScriptLine.{ScriptLine}
use Rattle.pdq_session.specs.declared.script_lines.ScriptLine.TheVariants.{Blank, Query, Run, Other}
use Rattle.pdq_session.specs.Commands.{AsksNoTable, Said}
use Rattle.pdq_session.specs.ScriptStates.{AskedTables, ScriptState, shapes_asked}
use Rattle.pdq_session.specs.ScriptSteps.{Outcome, Stepped, collect_step, end_step, outcome_of, query_step, run_step, silent_step}
use Rattle.pdq_session.specs.ScriptTranscript.{command_step, query_asked}

-- a select was read, and its names are resolved over these tables
pub record IsResolved (asked : AskedTables) (said : Option CommandView) (q : QueryValue) : Type 0 where
  pub ast : AstView
  pub is : said ≡ Some (command.Query ast)
  pub resolves : query_asked asked ast ≡ Ok (query_of q)
  pub fits : Fits (shapes_asked asked) (query_of q)

-- any other command but RUN
pub record IsOther (said : Option CommandView) (c : CommandView) : Type 0 where
  pub is : said ≡ Some c
  pub asks : AsksNoTable c

-- what a line says, as it is run over these tables
abbrev pub IsLineOf : AskedTables → Option CommandView → ScriptLine → Type 0
IsLineOf asked said Blank = said ≡ None
IsLineOf asked said (Query q) = IsResolved asked said q
IsLineOf asked said (Run id) = said ≡ Some (command.Run id)
IsLineOf asked said (Other c) = IsOther said (command_of c)

-- the same of a line that was read
abbrev pub SaysLine : AskedTables → Said → ScriptLine → Type 0
SaysLine asked (Ok said) line = IsLineOf asked said line
SaysLine asked (Err place) line = ⊥

-- what a line does, at which a store failed or not
abbrev pub line_step : ScriptState → Bool → ScriptLine → Stepped
line_step s failed Blank = silent_step s
line_step s failed (Query q) = query_step s (Ok (query_of q))
line_step s failed (Run id) = run_step s failed id
line_step s failed (Other c) = command_step s failed (command_of c)

-- the text of a query, which fits the tables; a line that is no QUERY has none
abbrev pub LineFits : AskedTables → ScriptLine → Type 0
LineFits asked Blank = ⊤
LineFits asked (Query q) = Fits (shapes_asked asked) (query_of q)
LineFits asked (Run id) = ⊤
LineFits asked (Other c) = AsksNoTable (command_of c)

-- what a query came to, as the reply tells it
abbrev pub outcome_told : Evaluated → Outcome
outcome_told (evaluated.Rows rows) = record { text = rows_text (rows_are rows); failed = false }
outcome_told evaluated.TooManyRows = record { text = too_many_rows; failed = true }
outcome_told evaluated.StoreFailed = record { text = store_failed; failed = true }
outcome_told (evaluated.Stopped step) = record { text = []; failed = true }

-- a store failed while it was worked out
abbrev pub is_store_failure : Evaluated → Bool
is_store_failure (evaluated.Rows rows) = false
is_store_failure evaluated.TooManyRows = false
is_store_failure evaluated.StoreFailed = true
is_store_failure (evaluated.Stopped step) = false

-- whether it has rows
abbrev pub has_rows : Evaluated → Bool
has_rows (evaluated.Rows rows) = true
has_rows evaluated.TooManyRows = false
has_rows evaluated.StoreFailed = false
has_rows (evaluated.Stopped step) = false

-- this part begins the whole
pub record Begins {X : Type 0} (whole front : List X) : Type 0 where
  pub tail : List X
  pub part : whole ≡ front ++ tail

-- the end of a query that was given up for want of memory
abbrev pub IsGivenUp : Event → Type 0
IsGivenUp (Finish id how) = how ≡ Failed
IsGivenUp other = ⊥

abbrev pub AreGivenUp : List Entry → Type 0
AreGivenUp [] = ⊤
AreGivenUp (e ∷ []) = IsGivenUp e.event
AreGivenUp (e ∷ f ∷ more) = ⊥

-- the entries that were made begin the whole; behind them there may be the end of a query that was given up for want of memory
pub record MadeFirst (whole made : List Entry) : Type 0 where
  pub front : List Entry
  pub ends : List Entry
  pub part : made ≡ front ++ ends
  pub begins : Begins whole front
  pub given_up : AreGivenUp ends

-- a collected query came to this outcome, which is that of the answer where the stores are trusted, and a store failed or not
pub record CameTo (trusted : Type 0) (s new : ScriptState) (ready now : List ℕ) (id : ℕ) (q : QueryView) (failed : Bool) : Type 0 where
  pub outcome : Outcome
  pub state : new ≡ (end_step s id outcome).state
  pub text : now ≡ ready ++ (end_step s id outcome).text
  pub told : trusted → outcome ≡ outcome_of s.asked q failed

-- a query was collected, and run where it was granted and not cancelled
pub record RanQuery (trusted : Type 0) (s new : ScriptState) (ready now : List ℕ) (id : ℕ) (q : QueryView) (failed : Bool) : Type 0 where
  pub outcome : Outcome
  pub state : new ≡ (collect_step s id outcome (decide s.manager s.sessions.current (Collect id))).state
  pub text : now ≡ ready ++ (collect_step s id outcome (decide s.manager s.sessions.current (Collect id))).text
  pub told : trusted → outcome ≡ outcome_of s.asked q failed

-- a line was run
pub record RanLine (s new : ScriptState) (ready now : List ℕ) (line : ScriptLine) (failed : Bool) : Type 0 where
  pub state : new ≡ (line_step s failed line).state
  pub text : now ≡ ready ++ (line_step s failed line).text
