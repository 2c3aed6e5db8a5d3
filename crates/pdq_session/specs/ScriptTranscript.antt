-- What a script writes, how it ends, and the state that it leaves. It is a function of the bytes and of the lines at which a store failed.
use Rattle.std.specs.Prelude.{ℕ, ◌+◌, List, [], ◌∷◌, ◌++◌, Bool, true, false, count_by, if◌then◌else◌, map, Option, Some, None, Result, Ok, Err}
use Rattle.pdq_model.specs.Configuration.{Configuration}
use Rattle.pdq_value.specs.Tables.{TableView}
use Rattle.pdq_query.specs.Queries.{QueryView}
use Rattle.pdq_sql.specs.declared.faults.SqlFault.{SqlFault}
use Rattle.pdq_sql.specs.declared.faults.SqlWhy.TheVariants.{BadLine}
use Rattle.pdq_sql.specs.Commands.{CommandView}
use Rattle.pdq_sql.specs.Commands as command
use Rattle.pdq_sql.specs.Asts.{AstView}
use Rattle.pdq_sql.specs.Resolution.{resolution_of}
use Rattle.pdq_reply.specs.declared.replies.LineFault.{LineFault}
use Rattle.pdq_reply.specs.declared.replies.LineFault.TheVariants as fault
use Rattle.pdq_base.specs.Lines.{InputLine, lines_of, size_of, without_return}
use Rattle.pdq_reply.specs.Limits.{is_past_input, is_too_long}
use Rattle.pdq_session.specs.Commands.{Said, line_of}
use Rattle.pdq_reply.specs.Changes.{level_priority}
use Rattle.pdq_session.specs.ScriptStates.{AskedTables, ScriptState, own_session, starting_state}
use Rattle.pdq_session.specs.ScriptSteps.{Stepped, cancel_step, claim_step, close_step, done_step, onmode_step, onstat_step, open_step, query_step, run_step, set_step, silent_step, use_step}
use Rattle.pdq_reply.specs.Replies.{end_text, fault_text, session_text}

-- how a script ends: at the end of its input, or at a line that is refused
pub data ScriptEnding : Type 0 where
  AtEnd : ScriptEnding
  AtFault : ScriptEnding

-- whether a store failed at each line, in the order of the lines; at a line beyond these none did
abbrev pub Failures : Type 0
Failures = List Bool

-- at how many lines a store failed
abbrev pub failures_in : Failures → ℕ
failures_in failed = count_by (λ b. b) failed

-- whether a store failed at the first of the lines
abbrev pub fails_now : Failures → Bool
fails_now [] = false
fails_now (now ∷ later) = now

-- the same of the lines after it
abbrev pub fails_later : Failures → Failures
fails_later [] = []
fails_later (now ∷ later) = later

-- what is written, how the script ends, and what it leaves
pub record Out : Type 0 where
  pub text : List ℕ
  pub ending : ScriptEnding
  pub state : ScriptState

-- this text, and then what the rest writes
abbrev pub after : List ℕ → Out → Out
after text rest = record { text = text ++ rest.text; ending = rest.ending; state = rest.state }

-- the query that a select asks for, over the shapes of these tables
abbrev pub query_asked : AskedTables → AstView → Result QueryView SqlFault
query_asked asked ast = resolution_of (map (λ (t : TableView). t.shape) asked.tables) ast

-- what a command does, at which a store failed or not
unfoldable pub command_step : ScriptState → Bool → CommandView → Stepped
command_step s failed (command.SetPriority level) = set_step s (level_priority s.sessions.opening level)
command_step s failed (command.Query ast) = query_step s (query_asked s.asked ast)
command_step s failed (command.Cancel id) = cancel_step s id
command_step s failed command.Onstat = onstat_step s
command_step s failed (command.Onmode letter v) = onmode_step s letter v
command_step s failed (command.Claim p f) = claim_step s p f
command_step s failed (command.Run id) = run_step s failed id
command_step s failed (command.Done id) = done_step s id
command_step s failed (command.OpenSession admin) = open_step s admin
command_step s failed (command.Choose session) = use_step s session
command_step s failed (command.CloseSession session) = close_step s session
command_step s failed command.Hello = silent_step s
command_step s failed command.Admin = silent_step s
command_step s failed command.Quit = silent_step s
command_step s failed command.Shutdown = silent_step s

-- the reply to a line, and the state after it; a line that is refused leaves all as it is
abbrev pub script_step : ScriptState → Bool → Said → Stepped
script_step s failed (Ok (Some c)) = command_step s failed c
script_step s failed (Ok None) = silent_step s
script_step s failed (Err place) = silent_step s

-- why a query ends the script, where it does
abbrev pub fault_of_query : Result QueryView SqlFault → Option LineFault
fault_of_query (Ok q) = None
fault_of_query (Err e) = Some (fault.Refused e)

abbrev pub fault_of_command : AskedTables → CommandView → Option LineFault
fault_of_command asked (command.Query ast) = fault_of_query (query_asked asked ast)
fault_of_command asked other = None

-- why a line ends the script, where it does
abbrev pub fault_of : AskedTables → Said → Option LineFault
fault_of asked (Ok (Some c)) = fault_of_command asked c
fault_of asked (Ok None) = None
fault_of asked (Err place) = Some (fault.Refused (record { why = BadLine; place = place }))

-- the same, where so many bytes stand before the line: the limits are asked first
abbrev pub fault_at : ScriptState → ℕ → InputLine → Option LineFault
fault_at s before line =
    if is_past_input before line then Some fault.InputTooLong
    else if is_too_long line then Some fault.LineTooLong
    else fault_of s.asked (line_of (without_return line.bytes))

-- the end of a script at the end of its input
abbrev pub ended : ScriptState → Out
ended s = record { text = end_text s.manager; ending = AtEnd; state = s }

-- the end of a script where a line has this fault, and else what is written otherwise
abbrev pub unless_fault : ScriptState → Option LineFault → Out → Out
unless_fault s None out = out
unless_fault s (Some reason) out = record { text = fault_text reason; ending = AtFault; state = s }

-- the lines are run one after another, up to one that is refused
unfoldable pub run_lines : ScriptState → ℕ → Failures → List InputLine → Out
run_lines s before failed [] = ended s
run_lines s before failed (line ∷ lines) =
    unless_fault s (fault_at s before line)
    (after (script_step s (fails_now failed) (line_of (without_return line.bytes))).text
    (run_lines (script_step s (fails_now failed) (line_of (without_return line.bytes))).state (before + size_of line) (fails_later failed) lines))

-- what a script of these bytes writes over these tables, where this is the opening priority and stores failed at these lines
abbrev pub script_transcript : AskedTables → Configuration → ℕ → List ℕ → Failures → Out
script_transcript asked c opening bytes failed = after (session_text own_session true (starting_state asked c opening).manager.entries) (run_lines (starting_state asked c opening) 0 failed (lines_of bytes))
