-- The lines that a script prints, read without the manager: which queries were admitted and have not ended, what they were given, and the limits in force.
use Rattle.std.specs.Prelude.{ℕ, ◌≡◌, ◌≤◌, ◌⊎◌, List, [], ◌∷◌, ◌++◌, Bool, not, ◌==◌, if◌then◌else◌, Option, Some, None, Ok, filter, flat_map, length, sum_by, unwrap_or}
use Rattle.pdq_model.specs.declared.events.Setting.{Setting}
use Rattle.pdq_model.specs.declared.events.Setting.TheVariants.{MaxPriority, TotalMemory, MaxQueries, MaxScans, NonPdq}
use Rattle.pdq_model.specs.declared.rows.Admit.{Admit}
use Rattle.pdq_model.specs.Configuration.{Configuration, IsValid}
use Rattle.pdq_model.specs.StatusView.{StatusView}
use Rattle.pdq_stat.specs.StatusText.{status_text}
use Rattle.pdq_value.specs.declared.cells.Cell.{Cell}
use Rattle.pdq_base.specs.Lines.{InputLine, lines_of, without_return}
use Rattle.pdq_sql.specs.Commands as command
use Rattle.pdq_reply.specs.declared.replies.LineFault.{LineFault}
use Rattle.pdq_reply.specs.declared.replies.Refusal.{Refusal}
use Rattle.pdq_reply.specs.Answers.{rows_text, too_many_rows}
use Rattle.pdq_session.specs.Commands.{Said, line_of}
use Rattle.pdq_reply.specs.Changes.{letter_setting}
use Rattle.pdq_reply.specs.Replies.{admit_text, cancelled_text, changed_text, chosen_text, closed_text, done_text, end_line, failed_text, fault_text, flagged_text, pending_text, placed_text, priority_text, refusal_text, session_text, stopped_text, store_failed, withdrawn_text}
use Rattle.pdq_session.specs.ScriptStates.{AreScannable, AskedTables}
use Rattle.pdq_session.specs.ScriptTranscript.{Failures, script_transcript}

-- a printed line with its numbers, or a text of several lines
pub data PrintedLine : Type 0 where
  -- the session, whether it is an administrator's, and the step
  Session : ℕ → Bool → ℕ → PrintedLine
  Chosen : ℕ → PrintedLine
  Closed : ℕ → ℕ → PrintedLine
  Priority : ℕ → PrintedLine
  -- the query, the step, its effective priority and the gate at which it stands
  Placed : ℕ → ℕ → ℕ → ℕ → PrintedLine
  -- the query, its quanta and its scan threads
  Admitted : Admit → PrintedLine
  -- the query and the step; and, of one that was cancelled, the step at which it was
  Done : ℕ → ℕ → PrintedLine
  Failed : ℕ → ℕ → PrintedLine
  Stopped : ℕ → ℕ → ℕ → PrintedLine
  Cancelled : ℕ → ℕ → ℕ → PrintedLine
  Withdrawn : ℕ → ℕ → PrintedLine
  Flagged : ℕ → ℕ → PrintedLine
  -- the step, and what the script's line set, which the printed line does not tell
  Changed : Setting → ℕ → PrintedLine
  Pending : Setting → ℕ → PrintedLine
  Status : StatusView → PrintedLine
  Rows : List (List Cell) → PrintedLine
  TooManyRows : PrintedLine
  StoreFailed : PrintedLine
  Refused : Refusal → ℕ → PrintedLine
  Faulty : LineFault → PrintedLine
  -- the step, the quanta reserved, the scan threads in use and how many queries wait
  End : ℕ → ℕ → ℕ → ℕ → PrintedLine

abbrev pub print : PrintedLine → List ℕ
print (Session session admin step) = session_text session admin step
print (Chosen session) = chosen_text session
print (Closed session step) = closed_text session step
print (Priority p) = priority_text p
print (Placed id step priority gate) = placed_text id step priority gate
print (Admitted admit) = admit_text admit
print (Done id step) = done_text id step
print (Failed id step) = failed_text id step
print (Stopped id step by) = stopped_text id step by
print (Cancelled id step by) = cancelled_text id step by
print (Withdrawn id step) = withdrawn_text id step
print (Flagged id step) = flagged_text id step
print (Changed x step) = changed_text step
print (Pending x step) = pending_text step
print (Status view) = status_text view
print (Rows rows) = rows_text rows
print TooManyRows = too_many_rows
print StoreFailed = store_failed
print (Refused reason step) = refusal_text reason step
print (Faulty reason) = fault_text reason
print (End step reserved scans waiting) = end_line step reserved scans waiting

-- DS_MAX_QUERIES and DS_MAX_SCANS
pub record Limits : Type 0 where
  pub queries : ℕ
  pub scans : ℕ

abbrev pub limits_of : Configuration → Limits
limits_of c = record { queries = c.max_queries; scans = c.max_scans }

-- the limits with a setting put in
abbrev pub limits_with : Setting → Limits → Limits
limits_with (MaxPriority v) limits = limits
limits_with (TotalMemory v) limits = limits
limits_with (MaxQueries v) limits = record limits { queries = v }
limits_with (MaxScans v) limits = record limits { scans = v }
limits_with (NonPdq v) limits = limits

-- what the lines so far tell
pub record Account : Type 0 where
  -- the limits that are in force, and those that are pending
  pub limits : Limits
  pub pending : Option Limits
  -- what the ADMIT lines gave whose query has no ending line yet
  pub held : List Admit

-- before the first line
abbrev pub opening_account : Configuration → Account
opening_account c = record { limits = limits_of c; pending = None; held = [] }

-- pending limits are in force from when nothing is held
abbrev pub take_limits : Account → Option Limits → Account
take_limits t None = t
take_limits t (Some limits) = if length t.held == 0 then record t { limits = limits; pending = None } else t

-- the query of this number has ended
abbrev pub without_query : Account → ℕ → Account
without_query t id = record t { held = filter (λ a. not (a.id == id)) t.held }

abbrev pub after_query : Account → ℕ → Account
after_query t id = take_limits (without_query t id) t.pending

-- after one more line: an ADMIT line gives, and the line DONE, FAILED or STOPPED of a query takes back; CHANGED and PENDING change the limits
abbrev pub account_after : Account → PrintedLine → Account
account_after t (Admitted admit) = record t { held = t.held ++ admit ∷ [] }
account_after t (Done id step) = after_query t id
account_after t (Failed id step) = after_query t id
account_after t (Stopped id step by) = after_query t id
account_after t (Changed x step) = record t { limits = limits_with x t.limits }
account_after t (Pending x step) = record t { pending = Some (limits_with x (unwrap_or t.pending t.limits)) }
account_after t other = t

-- no more quanta are held than DS_MAX_QUERIES, and no more scan threads than DS_MAX_SCANS
pub record IsWithin (t : Account) : Type 0 where
  pub quanta : sum_by (λ (a : Admit). a.quanta) t.held ≤ t.limits.queries
  pub scans : sum_by (λ (a : Admit). a.scans) t.held ≤ t.limits.scans

-- so it is now, and after each of these lines
abbrev pub StaysWithin : Account → List PrintedLine → Type 0
StaysWithin t [] = IsWithin t
StaysWithin t (line ∷ lines) = IsWithin t × StaysWithin (account_after t line) lines

-- the settings of the lines CHANGED and PENDING
abbrev pub setting_told : PrintedLine → List Setting
setting_told (Changed x step) = x ∷ []
setting_told (Pending x step) = x ∷ []
setting_told other = []

abbrev pub settings_told : List PrintedLine → List Setting
settings_told lines = flat_map setting_told lines

-- the settings that the lines of a script ask for
abbrev pub setting_asked : Said → List Setting
setting_asked (Ok (Some (command.Onmode letter v))) = letter_setting letter v ∷ []
setting_asked other = []

abbrev pub settings_asked : List InputLine → List Setting
settings_asked lines = flat_map (λ (line : InputLine). setting_asked (line_of (without_return line.bytes))) lines

-- some of these, in their order
abbrev pub AreSomeOf : List Setting → List Setting → Type 0
AreSomeOf [] asked = Unit {0}
AreSomeOf (x ∷ told) [] = ⊥
AreSomeOf (x ∷ told) (y ∷ asked) = ((x ≡ y) × AreSomeOf told asked) ⊎ AreSomeOf (x ∷ told) asked

-- the text is one of printed lines, what they changed was asked for by the script's lines, and after each the limits are kept
pub record PrintsWithinLimits (c : Configuration) (asked : List InputLine) (text : List ℕ) : Type 0 where
  pub lines : List PrintedLine
  pub printed : text ≡ flat_map print lines
  pub set : AreSomeOf (settings_told lines) (settings_asked asked)
  pub within : StaysWithin (opening_account c) lines

-- whatever the bytes of a script, its text keeps the limits after each line
abbrev pub TextsKeepLimits : Type 0
TextsKeepLimits = (asked : AskedTables) (c : Configuration) (opening : ℕ) (bytes : List ℕ) (failed : Failures) → IsValid c → AreScannable asked → opening ≤ 100 → PrintsWithinLimits c (lines_of bytes) (script_transcript asked c opening bytes failed).text
