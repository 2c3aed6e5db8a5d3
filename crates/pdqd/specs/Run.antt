-- What a run writes, and the status that it ends with.
use Rattle.std.specs.Prelude.{⊤, ℕ, ◌≡◌, ◌≢◌, ◌+◌, ◌≤◌, ◌⊎◌, ◌==◌, List, Bool, true, if◌then◌else◌, IsTrue, Option, Some, Ok, Err, slice_index, sum}
use Rattle.pdq_edge.specs.Causes.{Rose}
use Rattle.pdq_model.specs.Configuration.{Configuration}
use Rattle.pdq_session.specs.declared.scripts.ScriptEnd.{ScriptEnd}
use Rattle.pdq_session.specs.Progress.{SourceView, Ends, WroteAll, WrotePart, any_failed}
use Rattle.pdq_base.specs.Lines.{InputLine, lines_of}
use Rattle.pdq_session.specs.PrintedLines.{PrintsWithinLimits}
use Rattle.pdq_session.specs.ScriptLaws.{KeepsRules, state_after_lines}
use Rattle.pdq_session.specs.ScriptStates.{AskedTables, ScriptState, asked_of, no_tables, starting_state}
use Rattle.pdq_session.specs.ScriptTranscript.{Failures, ScriptEnding, AtEnd, AtFault, fails_now, script_transcript}
use Rattle.pdqd.specs.declared.words.Form.{Form}
use Rattle.pdqd.specs.declared.words.Form.TheVariants.{Script, ScriptTables, Ask, AskTables, Make}
use Rattle.pdqd.specs.Output.{Output}
use Rattle.pdq_table.specs.Storing.{IsStored, StoredView}
use Rattle.pdq_load.specs.Files.{AreTold, Contents, GivenFiles}
use Rattle.pdq_load.specs.Loaded.{Loaded, loaded}
use Rattle.pdqd.specs.Ask.{Answers, ask_question, blocks_of, refused, shown, tables_question}
use Rattle.pdqd.specs.Make.{make_output}
use Rattle.pdqd.specs.Stores.{AreRight, FewFailed, StoresView}

abbrev pub status_of : ScriptEnding → ℕ
status_of AtEnd = 0
status_of AtFault = 65

-- what a script over these tables writes
abbrev pub script_output : AskedTables → Configuration → ℕ → List ℕ → Failures → Output
script_output asked config opening bytes failed = record {
  text = (script_transcript asked config opening bytes failed).text;
  status = status_of (script_transcript asked config opening bytes failed).ending;
}

-- what a script over the tables that were loaded writes, or the line that refuses them
abbrev pub script_over : Configuration → ℕ → List ℕ → Failures → Loaded → Output
script_over config opening bytes failed (Err line) = refused line
script_over config opening bytes failed (Ok stored) = script_output (asked_of (Some stored)) config opening bytes failed

-- what a run of this form writes where it is given these files and these bytes of its source, stores fail at these of its lines or queries, and the others are answered so
abbrev pub run_output : Form → GivenFiles → List ℕ → Failures → Answers → Output
run_output (Script config opening) files bytes failed answers = script_output no_tables config opening bytes failed
run_output (ScriptTables config opening schema) files bytes failed answers = script_over config opening bytes failed (loaded files)
run_output (Ask select) files bytes failed answers = shown (fails_now failed) answers (ask_question select bytes)
run_output (AskTables select schema) files bytes failed answers = shown (fails_now failed) answers (tables_question select files)
run_output (Make count) files bytes failed answers = make_output count failed

abbrev pub run_text : Form → GivenFiles → List ℕ → Failures → Answers → List ℕ
run_text form files bytes failed answers = (run_output form files bytes failed answers).text

-- where a question is answered, at least the blocks that its answer needs were put in stores that tell theirs
abbrev pub PutsEnough : Form → GivenFiles → List ℕ → StoresView → StoresView → Type 0
PutsEnough (Script config opening) files bytes before now = ⊤
PutsEnough (ScriptTables config opening schema) files bytes before now = ⊤
PutsEnough (Ask select) files bytes before now = before.told ≡ true → sum before.puts + blocks_of (ask_question select bytes) ≤ sum now.puts
PutsEnough (AskTables select schema) files bytes before now = before.told ≡ true → sum before.puts + blocks_of (tables_question select files) ≤ sum now.puts
PutsEnough (Make count) files bytes before now = ⊤

-- these are the files that a run of this form reads, where they are told; the other forms read none
abbrev pub WereGiven : Form → Contents → GivenFiles → Type 0
WereGiven (Script config opening) contents files = ⊤
WereGiven (ScriptTables config opening schema) contents files = AreTold contents schema files
WereGiven (Ask select) contents files = ⊤
WereGiven (AskTables select schema) contents files = AreTold contents schema files
WereGiven (Make count) contents files = ⊤

-- the status of a run of this form whose status is this, if no store had failed on the way
abbrev pub plain_status : Form → ℕ → ℕ
plain_status (Script config opening) n = n
plain_status (ScriptTables config opening schema) n = if n == 70 then 0 else n
plain_status (Ask select) n = n
plain_status (AskTables select schema) n = n
plain_status (Make count) n = n

-- a script over tables that came to its end has the status 70 exactly where a store failed at one of its lines
abbrev pub FailsAs : Form → ℕ → Failures → Type 0
FailsAs (Script config opening) n failed = ⊤
FailsAs (ScriptTables config opening schema) n failed = n ≢ 65 → ((n ≡ 70 → any_failed failed ≡ true) × (any_failed failed ≡ true → n ≡ 70))
FailsAs (Ask select) n failed = ⊤
FailsAs (AskTables select schema) n failed = ⊤
FailsAs (Make count) n failed = ⊤

-- the files are as they are told, and whatever can follow what the source gave, the whole text of the run was written and this is its status
pub record RanWhole (form : Form) (contents : Contents) (before now : SourceView) (written0 written : Option (List ℕ)) (stores0 stores : StoresView) (status : ℕ) : Type 0 where
  pub files : GivenFiles
  pub given : WereGiven form contents files
  pub answers : Answers
  pub right : AreRight stores0 answers
  pub wrote : WroteAll before now written0 written (FewFailed stores0.faults stores.faults) (λ bytes failed. run_output form files bytes failed answers) (λ text. record { text = text; status = plain_status form status })
  pub failures : FailsAs form status wrote.failed
  pub puts : status ≡ 0 → PutsEnough form files wrote.bytes stores0 stores

-- the files are as they are told, and whatever can follow what the source gave, what was written begins the text of the run
pub record RanInPart (form : Form) (contents : Contents) (before now : SourceView) (written0 written : Option (List ℕ)) (stores0 stores : StoresView) : Type 0 where
  pub files : GivenFiles
  pub given : WereGiven form contents files
  pub answers : Answers
  pub right : AreRight stores0 answers
  pub wrote : WrotePart before now written0 written (FewFailed stores0.faults stores.faults) (λ bytes failed. run_text form files bytes failed answers)

-- where a form asks queries under grants this is said of it, if these stores tell their blocks
abbrev pub WhereTold : Form → StoresView → Type 0 → Type 0
WhereTold (Script config opening) stores X = X
WhereTold (ScriptTables config opening schema) stores X = stores.told ≡ true → X
WhereTold (Ask select) stores X = X
WhereTold (AskTables select schema) stores X = X
WhereTold (Make count) stores X = X

-- a form that reads its source has come to the end of it
abbrev pub HasEnded : Form → StoresView → Bool → Type 0
HasEnded (Script config opening) stores ended = IsTrue ended
HasEnded (ScriptTables config opening schema) stores ended = stores.told ≡ true → IsTrue ended
HasEnded (Ask select) stores ended = IsTrue ended
HasEnded (AskTables select schema) stores ended = ⊤
HasEnded (Make count) stores ended = ⊤

-- a form that does not read its source leaves it as it was
abbrev pub LeavesUnread : Form → SourceView → SourceView → Type 0
LeavesUnread (Script config opening) before now = ⊤
LeavesUnread (ScriptTables config opening schema) before now = ⊤
LeavesUnread (Ask select) before now = ⊤
LeavesUnread (AskTables select schema) before now = now ≡ before
LeavesUnread (Make count) before now = now ≡ before

-- a run answers 0, 65 or 70 where it wrote its whole text, and 66, 71 or 74 where it was cut off
abbrev pub IsWhole : ℕ → Type 0
IsWhole n = (n ≡ 0) ⊎ (n ≡ 65) ⊎ (n ≡ 70)

-- it ran to its end with 0, and with 70 where a store failed on the way
abbrev pub RunsToEnd : ℕ → Type 0
RunsToEnd n = (n ≡ 0) ⊎ (n ≡ 70)

abbrev pub IsCutOff : ℕ → Type 0
IsCutOff n = (n ≡ 66) ⊎ (n ≡ 71) ⊎ (n ≡ 74)

-- and 64 where the words have no form
abbrev pub IsStatus : ℕ → Type 0
IsStatus n = (n ≡ 64) ⊎ IsWhole n ⊎ IsCutOff n

-- the counts of the faults of the source, of the files and of the sink
pub record FaultCounts : Type 0 where
  pub source : ℕ
  pub files : ℕ
  pub sink : ℕ

-- with 66 the count of the source or that of the files rose, and with 74 that of the sink; no other count did, and with no other status did any
pub record TellsFaults (status : ℕ) (before now : FaultCounts) : Type 0 where
  pub read : status ≡ 66 → Rose before.source now.source ⊎ Rose before.files now.files
  pub write : status ≡ 74 → Rose before.sink now.sink
  pub source_stays : status ≢ 66 → now.source ≡ before.source
  pub files_stay : status ≢ 66 → now.files ≡ before.files
  pub sink_stays : status ≢ 74 → now.sink ≡ before.sink

-- each count has stayed or risen, in its place
abbrev pub NoneFell : List ℕ → List ℕ → Type 0
NoneFell before now = (place : ℕ) → slice_index before place ≤ slice_index now place

-- how a script over these tables and a manager of its own ended; what it left there is left open
pub record RunsScript (end : ScriptEnd) (asked : AskedTables) (config : Configuration) (opening : ℕ) (before now : SourceView) (written0 written : Option (List ℕ)) (faults0 faults : List ℕ) : Type 0 where
  pub state : ScriptState
  pub ends : Ends end before now written0 written faults0 faults (script_transcript asked config opening) state

-- what is true of every script over these tables and a manager of this configuration, with this opening priority
pub record KeepsScriptRules (asked : AskedTables) (config : Configuration) (opening : ℕ) : Type 0 where
  -- after each line the manager keeps its rules: it gives no more than there is, is at rest, overtakes no query more than 32 times, has come there by the legal history that its journal is, and has admitted heads alone, each past all gates
  pub managed : (failed : Failures) (lines : List InputLine) → KeepsRules config (state_after_lines (starting_state asked config opening) failed lines)
  -- after each printed line no more quanta and scan threads are held than there are, as the lines themselves tell
  pub printed : (bytes : List ℕ) (failed : Failures) → PrintsWithinLimits config (lines_of bytes) (script_transcript asked config opening bytes failed).text

-- a run of a script keeps the rules of scripts, whatever its tables
abbrev pub KeepsItsRules : Form → Type 0
KeepsItsRules (Ask select) = ⊤
KeepsItsRules (AskTables select schema) = ⊤
KeepsItsRules (Make count) = ⊤
KeepsItsRules (Script config opening) = KeepsScriptRules no_tables config opening
KeepsItsRules (ScriptTables config opening schema) = (stored : StoredView) → IsStored stored → KeepsScriptRules (asked_of (Some stored)) config opening
