-- What is true of the manager and of its journal after each line of a script.
use Rattle.std.specs.Prelude.{ℕ, ◌≡◌, ◌≤◌, List, [], ◌∷◌, ◌++◌}
use Rattle.pdq_model.specs.declared.events.Entry.{Entry}
use Rattle.pdq_model.specs.Configuration.{Configuration, IsValid}
use Rattle.pdq_model.specs.History.{IsLegal, replay}
use Rattle.pdq_model.specs.Laws.{IsWithinLimits, IsAtRest, IsOvertakenLittle, AdmitsHeads}
use Rattle.pdq_base.specs.Lines.{InputLine, without_return}
use Rattle.pdq_session.specs.Commands.{line_of}
use Rattle.pdq_session.specs.ScriptStates.{AreScannable, AskedTables, ScriptState, starting_state}
use Rattle.pdq_session.specs.ScriptTranscript.{Failures, fails_later, fails_now, script_step, script_transcript}

-- the state after these lines are run one after another, where stores fail at some of them; a line that is refused leaves it as it is
abbrev pub state_after_lines : ScriptState → Failures → List InputLine → ScriptState
state_after_lines s failed [] = s
state_after_lines s failed (line ∷ lines) = state_after_lines (script_step s (fails_now failed) (line_of (without_return line.bytes))).state (fails_later failed) lines

-- the rules that the manager keeps, from this configuration on
pub record KeepsRules (c : Configuration) (s : ScriptState) : Type 0 where
  -- no more quanta, scan threads and places among the active queries are given than there are
  pub limits : IsWithinLimits s.manager
  -- a gate refuses the head, and where nothing is active nothing waits and no change is pending
  pub at_rest : IsAtRest s.manager
  -- no waiting query is overtaken more than 32 times
  pub overtaken : IsOvertakenLittle s.manager
  -- the journal is a legal history, and leads to this state
  pub legal : IsLegal c s.history
  pub replayed : s.manager ≡ replay c s.history
  -- what each of its entries admitted, of which each has an ADMIT line, was the head when it was admitted, and no gate refused it
  pub admitted : (before later : List Entry) (e : Entry) → s.history ≡ before ++ e ∷ later → AdmitsHeads (replay c before) e.session e.event

-- whatever lines a script has, the manager keeps its rules after them; the lines up to any one are lines too, so it keeps them after each
abbrev pub ScriptsKeepRules : Type 0
ScriptsKeepRules = (asked : AskedTables) (c : Configuration) (opening : ℕ) (failed : Failures) (lines : List InputLine) → IsValid c → AreScannable asked → opening ≤ 100 → KeepsRules c (state_after_lines (starting_state asked c opening) failed lines)

-- whatever the bytes of a script, what it leaves, at the end of its input or at a line that is refused, keeps the rules
abbrev pub TranscriptsKeepRules : Type 0
TranscriptsKeepRules = (asked : AskedTables) (c : Configuration) (opening : ℕ) (bytes : List ℕ) (failed : Failures) → IsValid c → AreScannable asked → opening ≤ 100 → KeepsRules c (script_transcript asked c opening bytes failed).state
