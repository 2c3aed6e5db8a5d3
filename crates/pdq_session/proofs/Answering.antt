-- How a line is answered, from how it was read and run.
use Rattle.std.proofs.Common.{◌≡◌, ℕ, Bool, false, List, [], ◌∷◌, ◌++◌, Option, Some, refl, ap, sym, ◌∙◌, subst}
use Rattle.pdq_reply.specs.declared.replies.LineFault.{LineFault}
use Rattle.pdq_session.specs.declared.scripts.Turn.{Turn}
use Rattle.pdq_session.specs.declared.scripts.Turn.TheVariants as turn
use Rattle.pdq_session.specs.declared.script_lines.ScriptLine.{ScriptLine}
use Rattle.pdq_session.specs.declared.script_lines.Unread.{Unread}
use Rattle.pdq_session.specs.declared.script_lines.Unread.TheVariants as unread
use Rattle.pdq_session.specs.Commands.{IsUnread, line_of}
use Rattle.pdq_session.specs.Progress.{Answered, Answers, Refuses, RefusesUnread, StoresGoOn, StoresTold, Wants, progress, stores_told}
use Rattle.pdq_reply.specs.Reading.{Reader}
use Rattle.pdq_session.specs.ScriptLines.{MadeFirst, RanLine, SaysLine, line_step}
use Rattle.pdq_session.specs.ScriptSteps.{Stepped}
use Rattle.std.specs.Prelude.{◌||◌}
use Rattle.pdq_gate.specs.ManagerView.{ManagerView}
use Rattle.pdq_session.specs.ScriptStates.{KeptView, ScriptState, script_state}
use Rattle.pdq_session.specs.ScriptTranscript.{fault_of, script_step}
use Rattle.pdq_session.proofs.Growing.{grown_step, made_all}
use Rattle.pdq_session.proofs.StoreCounts.{go_on_still}
use Rattle.pdq_session.proofs.Unasked.{says_good, says_step}

-- a line was run
pub answered_by : (s new : ScriptState) (says : List ℕ) (line : ScriptLine) (reader : Reader) (before now : List ℕ) (stores after : StoresTold) (failed : Bool) → SaysLine s.asked (line_of says) line → RanLine s new before now line failed → StoresGoOn stores after (failed ∷ []) →
    Answered says (progress s reader before stores) (progress new reader now after)
answered_by s new says line reader before now stores after failed is ran few =
    let same : script_step s failed (line_of says) ≡ line_step s failed line = says_step s failed (line_of says) line is in record {
      failed = failed;
      good = says_good s.asked (line_of says) line is;
      state = ran.state ∙ ap (λ (x : Stepped). x.state) (sym same);
      replies = ran.text ∙ ap (λ (x : Stepped). before ++ x.text) (sym same);
      reader = refl;
      few = few;
    }

-- memory was wanting once it was run, and before
pub wants_run : (s new : ScriptState) (says : List ℕ) (line : ScriptLine) (reader : Reader) (w : Option (List ℕ)) (before now : List ℕ) (stores after : StoresTold) → SaysLine s.asked (line_of says) line → MadeFirst (line_step s false line).state.history new.history → StoresGoOn stores after (false ∷ []) → Wants says w w (progress s reader before stores) (progress new reader now after)
wants_run s new says line reader w before now stores after is made few =
    let P : Stepped → Type 0 = λ x. MadeFirst x.state.history new.history in record { unwritten = refl; entries = subst P (sym (says_step s false (line_of says) line is)) made; few = few }

-- a line was refused
pub refused_by : (which : Turn) (reason : LineFault) (s : ScriptState) (says : List ℕ) (last : Bool) (reader : Reader) (w0 w1 : Option (List ℕ)) (before now : List ℕ) (stores : StoresTold) → fault_of s.asked (line_of says) ≡ Some reason → Refuses which reason w0 w1 before → Answers which says last w0 w1 (progress s reader before stores) (progress s reader now stores)
refused_by turn.On reason s says last reader w0 w1 before now stores bad refuses = absurd refuses
refused_by turn.End reason s says last reader w0 w1 before now stores bad refuses = absurd refuses
refused_by turn.Bad reason s says last reader w0 w1 before now stores bad refuses = record { reason = reason; bad = bad; refuses = refuses; state = refl; stores = refl }
refused_by turn.ReadFault reason s says last reader w0 w1 before now stores bad refuses = absurd refuses
refused_by turn.WriteFault reason s says last reader w0 w1 before now stores bad refuses = record { reason = reason; bad = bad; refuses = refuses; state = refl; stores = refl }
refused_by turn.Memory reason s says last reader w0 w1 before now stores bad refuses = record { unwritten = refuses; entries = made_all _ _ (grown_step s false (line_of says)); few = go_on_still stores stores refl }

-- a line was not run
pub unread_answers : (which : Turn) (u : Unread) (s : ScriptState) (says : List ℕ) (last : Bool) (reader : Reader) (w0 w1 : Option (List ℕ)) (before now : List ℕ) (stores : StoresTold) → IsUnread u (fault_of s.asked (line_of says)) → RefusesUnread which u w0 w1 before → Answers which says last w0 w1 (progress s reader before stores) (progress s reader now stores)
unread_answers which unread.Memory s says last reader w0 w1 before now stores bad refuses =
    let P : Turn → Type 0 = λ t. Answers t says last w0 w1 (progress s reader before stores) (progress s reader now stores) in
    subst P (sym refuses.0) (record { unwritten = refuses.1; entries = made_all _ _ (grown_step s false (line_of says)); few = go_on_still stores stores refl })
unread_answers which (unread.Fault reason) s says last reader w0 w1 before now stores bad refuses = refused_by which reason s says last reader w0 w1 before now stores bad refuses

-- what is noted of a failure changes no more
pub noted_line : (s : ScriptState) (m : ManagerView) (x y : KeptView) (failed : Bool) (before now : List ℕ) (line : ScriptLine) → y ≡ record x { store_failed = x.store_failed || failed } → RanLine s (script_state m x) before now line failed → RanLine s (script_state m y) before now line failed
noted_line s m x y failed before now line is ran = let P : KeptView → Type 0 = λ k. RanLine s (script_state m k) before now line failed in subst P (sym is) (record { state = ran.state; text = ran.text })

pub noted_stores : {S : Type 0} (old : StoresTold) (stores : List S) (faults : S → ℕ) (x y : KeptView) (before failed : Bool) → x.store_failed ≡ before → y ≡ record x { store_failed = x.store_failed || failed } → StoresGoOn old (stores_told faults stores (before || failed)) (failed ∷ []) → StoresGoOn old (stores_told faults stores y.store_failed) (failed ∷ [])
noted_stores old stores faults x y before failed kept is on =
    let P : Bool → Type 0 = λ b. StoresGoOn old (stores_told faults stores b) (failed ∷ []) in
    subst P (sym (ap (λ (k : KeptView). k.store_failed) is ∙ ap (λ b. b || failed) kept)) on
