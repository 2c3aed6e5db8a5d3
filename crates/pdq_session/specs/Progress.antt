-- How far a script has come, and what it took and wrote on the way.
use Rattle.std.specs.Prelude.{ℕ, ◌≡◌, ◌+◌, ◌-◌, ◌^◌, ◌<◌, ◌≤◌, ◌⊎◌, List, [], ◌∷◌, ◌++◌, All, Bool, true, false, ◌||◌, Option, Some, None, IsTrue, map, sum}
use Rattle.std.specs.List.{list_any}
use Rattle.pdq_edge.specs.Bytes.{Grows, GrewSome}
use Rattle.pdq_session.specs.declared.scripts.Turn.{Turn}
use Rattle.pdq_session.specs.declared.scripts.Turn.TheVariants as turn
use Rattle.pdq_session.specs.declared.scripts.ScriptEnd.{ScriptEnd}
use Rattle.pdq_session.specs.declared.scripts.ScriptEnd.TheVariants as script_end
use Rattle.pdq_reply.specs.declared.replies.LineFault.{LineFault}
use Rattle.pdq_session.specs.declared.script_lines.Unread.{Unread}
use Rattle.pdq_session.specs.declared.script_lines.Unread.TheVariants as unread
use Rattle.pdq_session.specs.Commands.{line_of}
use Rattle.pdq_base.specs.Lines.{lines_of}
use Rattle.pdq_gate.specs.ManagerView.{ManagerView}
use Rattle.pdq_reply.specs.Replies.{fault_text}
use Rattle.pdq_reply.specs.Reading.{Reader, Took, decided, remaining}
use Rattle.pdq_model.specs.declared.events.Entry.{Entry}
use Rattle.pdq_table.specs.Storing.{StoredView}
use Rattle.pdq_session.specs.ScriptLines.{Begins, MadeFirst}
use Rattle.pdq_session.specs.ScriptStates.{IsReady, KeptView, ScriptState, script_state}
use Rattle.pdq_session.specs.ScriptTranscript.{Failures, Out, failures_in, ScriptEnding, AtEnd, AtFault, after, fault_of, run_lines, script_step}

-- what is told of the stores: how often each has failed, and whether a query was answered with a failure
pub record StoresTold : Type 0 where
  pub faults : List ℕ
  pub failed : Bool

abbrev pub stores_told : {S : Type 0} → (S → ℕ) → List S → Bool → StoresTold
stores_told faults stores failed = record { faults = map faults stores; failed = failed }

-- a count that is not at the end of its 64 bits
abbrev pub IsSmall : ℕ → Type 0
IsSmall count = count < 2 ^ 64 - 1

-- whether a store failed at some line
abbrev pub any_failed : Failures → Bool
any_failed failed = list_any (λ b. b) failed

-- a store failed at these of some lines: the counts of the stores rose by as many together, where each of them is below the end of its 64 bits
pub record StoresGoOn (old new : StoresTold) (failed : Failures) : Type 0 where
  pub small : All IsSmall new.faults → All IsSmall old.faults
  pub rose : All IsSmall new.faults → failures_in failed + sum old.faults ≤ sum new.faults
  pub noted : new.failed ≡ (old.failed || any_failed failed)

-- what the script keeps, the reader of lines, the replies that are not yet written, and its stores
pub record Progress : Type 0 where
  pub state : ScriptState
  pub reader : Reader
  pub replies : List ℕ
  pub stores : StoresTold

abbrev pub progress : ScriptState → Reader → List ℕ → StoresTold → Progress
progress state reader replies stores = record { state = state; reader = reader; replies = replies; stores = stores }

-- what is written from here on, once these bytes have come too, where stores fail at these lines
abbrev pub rest_of : Progress → List ℕ → Failures → Out
rest_of p bytes failed = after p.replies (run_lines p.state p.reader.given failed (lines_of (p.reader.buffered ++ bytes)))

-- more lines can be run
pub record IsGoing (p : Progress) : Type 0 where
  pub ready : IsReady p.state
  pub early : p.reader.given ≤ 16777216

-- these bytes came, a store failed or not at each of the lines that were run, this text was written, and the script goes on from there
pub record GoesOn (old new : Progress) (text bytes : List ℕ) (failed : Failures) : Type 0 where
  pub each : (more : List ℕ) (later : Failures) → rest_of old (bytes ++ more) (failed ++ later) ≡ after text (rest_of new more later)

-- what a source has told: its bytes to come, how many it gave, and whether it has ended
pub record SourceView : Type 0 where
  pub left : Option (List ℕ)
  pub taken : ℕ
  pub ended : Bool

abbrev pub source_view : {S : Type 0} → (S → Option (List ℕ)) → (S → ℕ) → (S → Bool) → S → SourceView
source_view left taken ended source = record { left = left source; taken = taken source; ended = ended source }

-- what can still come of a source: what it tells, where it told its bytes before, and anything where it has not ended
abbrev pub CanFollow : SourceView → SourceView → List ℕ → Type 0
CanFollow before now more = (more ≡ remaining before.left now.left) ⊎ (IsTrue now.ended → more ≡ [])

-- the source gave these bytes
abbrev pub Came : SourceView → SourceView → List ℕ → Type 0
Came before now bytes = Took before.left now.left before.taken now.taken bytes

-- the script took bytes from the source, and what was ready went to the sink
pub record Played (before now : SourceView) (written0 written : Option (List ℕ)) (old new : Progress) : Type 0 where
  pub bytes : List ℕ
  pub failed : Failures
  pub text : List ℕ
  pub came : Came before now bytes
  pub grew : Grows written0 written text
  pub runs : GoesOn old new text bytes failed
  pub few : StoresGoOn old.stores new.stores failed

-- the input has ended, and all its lines were answered
pub record PlayedAll (before now : SourceView) (written0 written : Option (List ℕ)) (old new : Progress) : Type 0 where
  pub bytes : List ℕ
  pub failed : Failures
  pub text : List ℕ
  pub came : Came before now bytes
  pub grew : Grows written0 written text
  pub ended : IsTrue now.ended
  pub none_left : remaining before.left now.left ≡ []
  pub buffered : new.reader.buffered ≡ []
  pub runs : (later : Failures) → rest_of old bytes (failed ++ later) ≡ after text (rest_of new [] later)
  pub few : StoresGoOn old.stores new.stores failed

-- a line was refused, and all was written
pub record PlayedBad (before now : SourceView) (written0 written : Option (List ℕ)) (old new : Progress) : Type 0 where
  pub bytes : List ℕ
  pub failed : Failures
  pub text : List ℕ
  pub came : Came before now bytes
  pub grew : Grows written0 written text
  pub ends : (more : List ℕ) (later : Failures) → CanFollow before now more → rest_of old (bytes ++ more) (failed ++ later) ≡ record { text = text; ending = AtFault; state = new.state }
  pub few : StoresGoOn old.stores new.stores failed

-- the source failed before it gave the rest of a line
pub record PlayedUnread (before now : SourceView) (written0 written : Option (List ℕ)) (old new : Progress) : Type 0 where
  pub played : Played before now written0 written old new
  pub undecided : decided new.reader.given new.reader.buffered ≡ None

-- how a script was cut off: a fault of the outside, or want of memory
pub data Cut : Type 0 where
  ByFault : Cut
  ByMemory : Cut

-- the entries that were made begin all; for want of memory a query that was collected may have been given up behind them
abbrev pub Entered : Cut → List Entry → List Entry → Type 0
Entered ByFault whole made = Begins whole made
Entered ByMemory whole made = MadeFirst whole made

-- the script was cut off: what was written begins what would have been written, and so do the entries that were made begin those that would have been made
pub record PlayedSome (cut : Cut) (before now : SourceView) (written0 written : Option (List ℕ)) (old : Progress) (state : ScriptState) (stores : StoresTold) : Type 0 where
  pub bytes : List ℕ
  pub failed : Failures
  pub text : List ℕ
  pub came : Came before now bytes
  pub grew : Grows written0 written text
  pub begins : (more : List ℕ) (later : Failures) → CanFollow before now more → Begins (rest_of old (bytes ++ more) (failed ++ later)).text text
  pub entries : (more : List ℕ) (later : Failures) → CanFollow before now more → Entered cut (rest_of old (bytes ++ more) (failed ++ later)).state.history state.history
  pub few : StoresGoOn old.stores stores failed

-- the source gave some bytes, stores failed at few enough lines; whatever can follow, this text was written, and it is the whole with what it ends in
pub record WroteAll {R : Type 0} (before now : SourceView) (written0 written : Option (List ℕ)) (is_few : Failures → Type 0) (out : List ℕ → Failures → R) (with_text : List ℕ → R) : Type 0 where
  pub bytes : List ℕ
  pub failed : Failures
  pub text : List ℕ
  pub few : is_few failed
  pub came : Came before now bytes
  pub grew : Grows written0 written text
  pub whole : (more : List ℕ) (later : Failures) → CanFollow before now more → out (bytes ++ more) (failed ++ later) ≡ with_text text

-- the source gave some bytes, stores failed at few enough lines; whatever can follow, what was written begins the whole text
pub record WrotePart (before now : SourceView) (written0 written : Option (List ℕ)) (is_few : Failures → Type 0) (text_of : List ℕ → Failures → List ℕ) : Type 0 where
  pub bytes : List ℕ
  pub failed : Failures
  pub text : List ℕ
  pub few : is_few failed
  pub came : Came before now bytes
  pub grew : Grows written0 written text
  pub begins : (more : List ℕ) (later : Failures) → CanFollow before now more → Begins (text_of (bytes ++ more) (failed ++ later)) text

-- what a script is, from its bytes and the lines at which stores failed to what it writes
abbrev pub Script : Type 0
Script = List ℕ → Failures → Out

-- the text of a script
abbrev pub script_text : Script → List ℕ → Failures → List ℕ
script_text out bytes failed = (out bytes failed).text

-- at no more lines did a store fail than the counts of the stores rose together, where each of them is below the end of its 64 bits
abbrev pub FewFailed : List ℕ → List ℕ → Failures → Type 0
FewFailed before now failed = All IsSmall now → failures_in failed ≤ sum now - sum before

-- a script that wrote its whole text, ended so and left this, where the stores have failed so often before and now
abbrev pub WroteScript : SourceView → SourceView → Option (List ℕ) → Option (List ℕ) → List ℕ → List ℕ → Script → ScriptEnding → ScriptState → Type 0
WroteScript before now written0 written faults0 faults out ending state = WroteAll before now written0 written (FewFailed faults0 faults) out (λ text. record { text = text; ending = ending; state = state })

-- a script that was cut off: of its text a first part was written, and of its entries these, the first, were made
pub record WroteSome (cut : Cut) (before now : SourceView) (written0 written : Option (List ℕ)) (faults0 faults : List ℕ) (out : Script) (state : ScriptState) : Type 0 where
  pub wrote : WrotePart before now written0 written (FewFailed faults0 faults) (script_text out)
  pub entered : (more : List ℕ) (later : Failures) → CanFollow before now more → Entered cut (out (wrote.bytes ++ more) (wrote.failed ++ later)).state.history state.history

-- the source gave some bytes, and all that their lines are answered was written; what follows begins with a part of a line that has no end yet
pub record WroteAnswers (before now : SourceView) (written0 written : Option (List ℕ)) (faults0 faults : List ℕ) (out : Script) (state : ScriptState) : Type 0 where
  pub bytes : List ℕ
  pub failed : Failures
  pub text : List ℕ
  pub few : FewFailed faults0 faults failed
  pub came : Came before now bytes
  pub grew : Grows written0 written text
  pub given : ℕ
  pub part : List ℕ
  pub undecided : decided given part ≡ None
  pub follows : (more : List ℕ) (later : Failures) → out (bytes ++ more) (failed ++ later) ≡ after text (run_lines state given later (lines_of (part ++ more)))

-- how a part of a run ends: by its turn
abbrev pub Turns : Turn → SourceView → SourceView → Option (List ℕ) → Option (List ℕ) → Progress → Progress → Type 0
Turns turn.On before now written0 written old new = Played before now written0 written old new
Turns turn.End before now written0 written old new = PlayedAll before now written0 written old new
Turns turn.Bad before now written0 written old new = PlayedBad before now written0 written old new
Turns turn.ReadFault before now written0 written old new = PlayedUnread before now written0 written old new
Turns turn.WriteFault before now written0 written old new = PlayedSome ByFault before now written0 written old new.state new.stores
Turns turn.Memory before now written0 written old new = PlayedSome ByMemory before now written0 written old new.state new.stores

-- a line was answered, and is not refused; a store failed at it or not
pub record Answered (says : List ℕ) (old new : Progress) : Type 0 where
  pub failed : Bool
  pub good : fault_of old.state.asked (line_of says) ≡ None
  pub state : new.state ≡ (script_step old.state failed (line_of says)).state
  pub replies : new.replies ≡ old.replies ++ (script_step old.state failed (line_of says)).text
  pub reader : new.reader ≡ old.reader
  pub few : StoresGoOn old.stores new.stores (failed ∷ [])

-- how the line of a fault is written behind these replies: whole, a first part of it, or nothing
abbrev pub Refuses : Turn → LineFault → Option (List ℕ) → Option (List ℕ) → List ℕ → Type 0
Refuses turn.On reason written0 written replies = ⊥
Refuses turn.End reason written0 written replies = ⊥
Refuses turn.Bad reason written0 written replies = Grows written0 written (replies ++ fault_text reason)
Refuses turn.ReadFault reason written0 written replies = ⊥
Refuses turn.WriteFault reason written0 written replies = GrewSome written0 written (replies ++ fault_text reason)
Refuses turn.Memory reason written0 written replies = written ≡ written0

-- how a line is answered that is not run
abbrev pub RefusesUnread : Turn → Unread → Option (List ℕ) → Option (List ℕ) → List ℕ → Type 0
RefusesUnread which unread.Memory written0 written replies = (which ≡ turn.Memory) × (written ≡ written0)
RefusesUnread which (unread.Fault reason) written0 written replies = Refuses which reason written0 written replies

-- a line is refused
pub record IsRefused (which : Turn) (says : List ℕ) (written0 written : Option (List ℕ)) (old new : Progress) : Type 0 where
  pub reason : LineFault
  pub bad : fault_of old.state.asked (line_of says) ≡ Some reason
  pub refuses : Refuses which reason written0 written old.replies
  pub state : new.state ≡ old.state
  pub stores : new.stores ≡ old.stores

-- memory was wanting at a line: nothing was written, and the entries that were made begin those of the line
pub record Wants (says : List ℕ) (written0 written : Option (List ℕ)) (old new : Progress) : Type 0 where
  pub unwritten : written ≡ written0
  pub entries : MadeFirst (script_step old.state false (line_of says)).state.history new.state.history
  pub few : StoresGoOn old.stores new.stores (false ∷ [])

-- how a line is answered that says this, and that the end of the input ended or not
abbrev pub Answers : Turn → List ℕ → Bool → Option (List ℕ) → Option (List ℕ) → Progress → Progress → Type 0
Answers turn.On says last written0 written old new = Answered says old new × (last ≡ false) × (written ≡ written0)
Answers turn.End says last written0 written old new = Answered says old new × (last ≡ true) × (written ≡ written0)
Answers turn.Bad says last written0 written old new = IsRefused turn.Bad says written0 written old new
Answers turn.ReadFault says last written0 written old new = ⊥
Answers turn.WriteFault says last written0 written old new = IsRefused turn.WriteFault says written0 written old new
Answers turn.Memory says last written0 written old new = Wants says written0 written old new

-- how the last line is written behind these replies, where a query was answered with a failure or not: whole, a first part of it, or nothing
abbrev pub Concludes : ScriptEnd → Bool → Option (List ℕ) → Option (List ℕ) → List ℕ → Type 0
Concludes (script_end.End store_failed) failed written0 written text = Grows written0 written text × (store_failed ≡ failed)
Concludes script_end.BadScript failed written0 written text = ⊥
Concludes script_end.ReadFault failed written0 written text = ⊥
Concludes script_end.WriteFault failed written0 written text = GrewSome written0 written text
Concludes script_end.Memory failed written0 written text = written ≡ written0

-- the script ran to the end of its input, and says whether a store failed at one of its lines
pub record RanToEnd (before now : SourceView) (written0 written : Option (List ℕ)) (faults0 faults : List ℕ) (out : Script) (state : ScriptState) (store_failed : Bool) : Type 0 where
  pub wrote : WroteScript before now written0 written faults0 faults out AtEnd state
  pub ended : IsTrue now.ended
  pub failed_is : store_failed ≡ any_failed wrote.failed

-- how a script ends, whose bytes come from a source, whose text goes to a sink and whose queries use stores, and what it leaves
abbrev pub Ends : ScriptEnd → SourceView → SourceView → Option (List ℕ) → Option (List ℕ) → List ℕ → List ℕ → Script → ScriptState → Type 0
Ends (script_end.End store_failed) before now written0 written faults0 faults out state = RanToEnd before now written0 written faults0 faults out state store_failed
Ends script_end.BadScript before now written0 written faults0 faults out state = WroteScript before now written0 written faults0 faults out AtFault state
Ends script_end.ReadFault before now written0 written faults0 faults out state = WroteSome ByFault before now written0 written faults0 faults out state
Ends script_end.WriteFault before now written0 written faults0 faults out state = WroteSome ByFault before now written0 written faults0 faults out state
Ends script_end.Memory before now written0 written faults0 faults out state = WroteSome ByMemory before now written0 written faults0 faults out state

-- how a script over these tables ends, and what it leaves: its manager, and what it kept beside it
pub record EndsOn (end : ScriptEnd) (before now : SourceView) (written0 written : Option (List ℕ)) (faults0 faults : List ℕ) (out : Script) (m : ManagerView) (stored : Option StoredView) : Type 0 where
  pub kept : KeptView
  pub tables : kept.stored ≡ stored
  pub ends : Ends end before now written0 written faults0 faults out (script_state m kept)
  -- before the source is read, all that its lines so far are answered was written
  pub answered : end ≡ script_end.ReadFault → WroteAnswers before now written0 written faults0 faults out (script_state m kept)
