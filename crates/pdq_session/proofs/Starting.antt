-- How a script starts and ends.
use Rattle.std.proofs.Common.{◌≡◌, ℕ, ◌≤◌, Bool, true, false, arith, List, [], ◌++◌, take, drop, refl, ap, sym, ◌∙◌, subst, append_assoc, Option}
use Rattle.std.proofs.lemmas.List.{append-nil, take-append-drop}
use Rattle.pdq_edge.specs.Bytes.{Grows}
use Rattle.pdq_model.specs.Configuration.{Configuration}
use Rattle.pdq_session.specs.declared.scripts.ScriptEnd.{ScriptEnd}
use Rattle.pdq_session.specs.declared.scripts.ScriptEnd.TheVariants as script_end
use Rattle.pdq_base.specs.Lines.{lines_of}
use Rattle.pdq_reply.specs.Reading.{Reader, fresh_reader}
use Rattle.pdq_reply.specs.Replies.{end_text, session_text}
use Rattle.pdq_model.specs.declared.events.Entry.{Entry}
use Rattle.std.specs.Prelude.{◌||◌}
use Rattle.pdq_gate.specs.ManagerView.{ManagerView}
use Rattle.pdq_table.specs.Storing.{StoredView}
use Rattle.pdq_session.specs.ScriptStates.{AreScannable, AskedTables, IsReady, KeptView, asked_of, opening_kept, script_state, ScriptState, no_tables, own_session, starting_state}
use Rattle.pdq_session.specs.ScriptLines.{Begins}
use Rattle.pdq_session.specs.ScriptTranscript.{Failures, Out, AtEnd, AtFault, after, ended, run_lines, script_transcript}
use Rattle.pdq_session.specs.Progress.{Cut, ByFault, ByMemory, StoresTold, any_failed, Progress, progress, rest_of, SourceView, CanFollow, PlayedAll, PlayedBad, PlayedSome, PlayedUnread, Concludes, Ends, WroteScript, WroteAnswers, WroteSome}
use Rattle.pdq_session.proofs.LegalScripts.{standing_start}
use Rattle.pdq_session.proofs.Running.{run_none}
use Rattle.pdq_session.proofs.Growing.{begins_is, begins_same, begins_then, grown_run}
use Rattle.pdq_session.proofs.StoreCounts.{few_of, none_failed}
use Rattle.pdq_session.proofs.Turning.{entered_all, begins_none, came_none, grows_same, grows_then, none_follows}

-- what is true before the first line
pub no_table_is_wide : AreScannable no_tables
no_table_is_wide q = (omega arith, omega arith)

pub started_ready : (asked : AskedTables) (c : Configuration) (opening : ℕ) (s : ScriptState) → s ≡ starting_state asked c opening → AreScannable asked → opening ≤ 100 → IsReady s
started_ready asked c opening s starts wide small = subst IsReady (sym starts) (record { standing = standing_start asked c opening wide small; texts = λ k d lt. absurd (omega (arith, lt)) })

-- a script that has opened its session and taken nothing
abbrev pub starting_progress : AskedTables → Configuration → ℕ → StoresTold → Progress
starting_progress asked c opening stores = progress (starting_state asked c opening) fresh_reader (session_text own_session true (starting_state asked c opening).manager.entries) stores

pub started : (asked : AskedTables) (c : Configuration) (opening : ℕ) (s : ScriptState) (r : Reader) (none replies : List ℕ) (stores : StoresTold) → s ≡ starting_state asked c opening → r ≡ fresh_reader → none ≡ [] → replies ≡ none ++ session_text own_session true s.manager.entries → progress s r replies stores ≡ starting_progress asked c opening stores
started asked c opening s r none replies stores opened fresh empty first =
    ap (λ (x : Reader). progress s x replies stores) fresh
    ∙ ap (λ xs. progress s fresh_reader xs stores) (first ∙ ap (λ xs. xs ++ session_text own_session true s.manager.entries) empty)
    ∙ ap (λ (x : ScriptState). progress x fresh_reader (session_text own_session true x.manager.entries) stores) opened

-- nothing was written
pub nothing_written : (cut : Cut) (faults : List ℕ) (a : SourceView) (u w : Option (List ℕ)) (asked : AskedTables) (c : Configuration) (opening : ℕ) (state : ScriptState) → w ≡ u → Begins (starting_state asked c opening).history state.history → WroteSome cut a a u w faults faults (script_transcript asked c opening) state
nothing_written cut faults a u w asked c opening state same begins = record {
  wrote = record { bytes = []; failed = []; text = []; few = none_failed faults faults; came = came_none a; grew = grows_same u w same; begins = λ more later can. begins_none (script_transcript asked c opening more later).text };
  entered = λ more later can. entered_all cut (script_transcript asked c opening more later).state.history state.history (begins_then state.history (starting_state asked c opening).history (script_transcript asked c opening more later).state.history begins (grown_run (starting_state asked c opening) 0 later (lines_of more)));
}

-- and where the script has not begun, or has only opened its session
pub before_start : (asked : AskedTables) (c : Configuration) (opening : ℕ) (state : ScriptState) → state.history ≡ [] → Begins (starting_state asked c opening).history state.history
before_start asked c opening state none = let P : List Entry → Type 0 = Begins (starting_state asked c opening).history in subst P (sym none) (record { tail = (starting_state asked c opening).history; part = refl })

pub at_start : (asked : AskedTables) (c : Configuration) (opening : ℕ) (state : ScriptState) → state ≡ starting_state asked c opening → Begins (starting_state asked c opening).history state.history
at_start asked c opening state is = let P : ScriptState → Type 0 = λ s. Begins (starting_state asked c opening).history s.history in subst P (sym is) (begins_same (starting_state asked c opening).history)

-- a line was refused, or the script was cut off
pub bad_written : (a b : SourceView) (u w : Option (List ℕ)) (asked : AskedTables) (c : Configuration) (opening : ℕ) (old new : Progress) → old ≡ starting_progress asked c opening old.stores → PlayedBad a b u w old new → WroteScript a b u w old.stores.faults new.stores.faults (script_transcript asked c opening) AtFault new.state
bad_written a b u w asked c opening old new starts played =
    let P : Progress → Type 0 = λ p. PlayedBad a b u w p new in
    let from = subst P starts played in record { bytes = from.bytes; failed = from.failed; text = from.text; few = few_of old.stores new.stores from.failed from.few; came = from.came; grew = from.grew; whole = from.ends }

pub some_written : (cut : Cut) (a b : SourceView) (u w : Option (List ℕ)) (asked : AskedTables) (c : Configuration) (opening : ℕ) (old new : Progress) → old ≡ starting_progress asked c opening old.stores → PlayedSome cut a b u w old new.state new.stores → WroteSome cut a b u w old.stores.faults new.stores.faults (script_transcript asked c opening) new.state
some_written cut a b u w asked c opening old new starts played =
    let P : Progress → Type 0 = λ p. PlayedSome cut a b u w p new.state new.stores in
    let from = subst P starts played in record {
      wrote = record { bytes = from.bytes; failed = from.failed; text = from.text; few = few_of old.stores new.stores from.failed from.few; came = from.came; grew = from.grew; begins = from.begins };
      entered = from.entries;
    }

-- the source failed: what was written begins the whole, and it is all that the lines are answered
pub unread_written : (a b : SourceView) (u w : Option (List ℕ)) (asked : AskedTables) (c : Configuration) (opening : ℕ) (old new : Progress) → old ≡ starting_progress asked c opening old.stores → PlayedUnread a b u w old new → WroteSome ByFault a b u w old.stores.faults new.stores.faults (script_transcript asked c opening) new.state
unread_written a b u w asked c opening old new starts unread =
    let P : Progress → Type 0 = λ p. PlayedUnread a b u w p new in
    let from = subst P starts unread in record {
      wrote = record {
        bytes = from.played.bytes;
        failed = from.played.failed;
        text = from.played.text;
        few = few_of old.stores new.stores from.played.failed from.played.few;
        came = from.played.came;
        grew = from.played.grew;
        begins = λ more later can. record { tail = (rest_of new more later).text; part = ap (λ (o : Out). o.text) (from.played.runs.each more later) };
      };
      entered = λ more later can. begins_is new.state.history (rest_of new more later).state.history (script_transcript asked c opening (from.played.bytes ++ more) (from.played.failed ++ later)).state.history
          (ap (λ (o : Out). o.state.history) (from.played.runs.each more later)) (grown_run new.state new.reader.given later (lines_of (new.reader.buffered ++ more)));
    }

pub answers_written : (a b : SourceView) (u w : Option (List ℕ)) (asked : AskedTables) (c : Configuration) (opening : ℕ) (old new : Progress) → old ≡ starting_progress asked c opening old.stores → PlayedUnread a b u w old new → new.replies ≡ [] → WroteAnswers a b u w old.stores.faults new.stores.faults (script_transcript asked c opening) new.state
answers_written a b u w asked c opening old new starts unread none =
    let P : Progress → Type 0 = λ p. PlayedUnread a b u w p new in
    let from = subst P starts unread in record {
      bytes = from.played.bytes;
      failed = from.played.failed;
      text = from.played.text;
      few = few_of old.stores new.stores from.played.failed from.played.few;
      came = from.played.came;
      grew = from.played.grew;
      given = new.reader.given;
      part = new.reader.buffered;
      undecided = from.undecided;
      follows = λ more later. from.played.runs.each more later ∙ ap (λ xs. after from.played.text (after xs (run_lines new.state new.reader.given later (lines_of (new.reader.buffered ++ more))))) none;
    }

-- what is left to write at the end of the input
all_left : (new : Progress) (later : Failures) → new.reader.buffered ≡ [] → rest_of new [] later ≡ after new.replies (ended new.state)
all_left new later none = ap (after new.replies) (run_none new.state new.reader.given later (new.reader.buffered ++ []) (append-nil new.reader.buffered ∙ none))

-- the whole text, where the input has ended
whole_text : (a b : SourceView) (u v : Option (List ℕ)) (asked : AskedTables) (c : Configuration) (opening : ℕ) (stores : StoresTold) (new : Progress) (all : PlayedAll a b u v (starting_progress asked c opening stores) new) (more : List ℕ) (later : Failures) → CanFollow a b more →
    script_transcript asked c opening (all.bytes ++ more) (all.failed ++ later) ≡ record { text = all.text ++ (new.replies ++ end_text new.state.manager); ending = AtEnd; state = new.state }
whole_text a b u v asked c opening stores new all more later can =
    ap (λ xs. script_transcript asked c opening (all.bytes ++ xs) (all.failed ++ later)) (none_follows a b more all.ended all.none_left can) ∙ ap (λ xs. script_transcript asked c opening xs (all.failed ++ later)) (append-nil all.bytes) ∙ all.runs later ∙ ap (after all.text) (all_left new later all.buffered)

ended_by : (end : ScriptEnd) (a b : SourceView) (u v w : Option (List ℕ)) (asked : AskedTables) (c : Configuration) (opening : ℕ) (stores : StoresTold) (new : Progress) → stores.failed ≡ false → PlayedAll a b u v (starting_progress asked c opening stores) new → Concludes end new.stores.failed v w (new.replies ++ end_text new.state.manager) → Ends end a b u w stores.faults new.stores.faults (script_transcript asked c opening) new.state
ended_by (script_end.End store_failed) a b u v w asked c opening stores new none all concludes = record {
  wrote = record {
    bytes = all.bytes;
    failed = all.failed;
    text = all.text ++ (new.replies ++ end_text new.state.manager);
    came = all.came;
    few = few_of stores new.stores all.failed all.few;
    grew = grows_then u v w all.text (new.replies ++ end_text new.state.manager) all.grew concludes.0;
    whole = whole_text a b u v asked c opening stores new all;
  };
  ended = all.ended;
  failed_is = concludes.1 ∙ all.few.noted ∙ ap (λ f. f || any_failed all.failed) none;
}
ended_by script_end.BadScript a b u v w asked c opening stores new none all concludes = absurd concludes
ended_by script_end.ReadFault a b u v w asked c opening stores new none all concludes = absurd concludes
ended_by script_end.WriteFault a b u v w asked c opening stores new none all concludes = record {
  wrote = record {
    bytes = all.bytes;
    failed = all.failed;
    text = all.text ++ take concludes.count (new.replies ++ end_text new.state.manager);
    few = few_of stores new.stores all.failed all.few;
    came = all.came;
    grew = grows_then u v w all.text (take concludes.count (new.replies ++ end_text new.state.manager)) all.grew concludes.grew;
    begins = λ more later can. record {
      tail = drop concludes.count (new.replies ++ end_text new.state.manager);
      part = ap (λ (o : Out). o.text) (whole_text a b u v asked c opening stores new all more later can) ∙ ap (λ xs. all.text ++ xs) (sym (take-append-drop concludes.count (new.replies ++ end_text new.state.manager)))
          ∙ sym (append_assoc all.text (take concludes.count (new.replies ++ end_text new.state.manager)) (drop concludes.count (new.replies ++ end_text new.state.manager)));
    };
  };
  entered = λ more later can. entered_all ByFault (script_transcript asked c opening (all.bytes ++ more) (all.failed ++ later)).state.history new.state.history (begins_is new.state.history new.state.history (script_transcript asked c opening (all.bytes ++ more) (all.failed ++ later)).state.history (ap (λ (o : Out). o.state.history) (whole_text a b u v asked c opening stores new all more later can)) (begins_same new.state.history));
}
ended_by script_end.Memory a b u v w asked c opening stores new none all concludes = record {
  wrote = record {
    bytes = all.bytes;
    failed = all.failed;
    text = all.text;
    few = few_of stores new.stores all.failed all.few;
    came = all.came;
    grew = let P : Option (List ℕ) → Type 0 = λ s. Grows u s all.text in subst P (sym concludes) all.grew;
    begins = λ more later can. record { tail = new.replies ++ end_text new.state.manager; part = ap (λ (o : Out). o.text) (whole_text a b u v asked c opening stores new all more later can) };
  };
  entered = λ more later can. entered_all ByMemory (script_transcript asked c opening (all.bytes ++ more) (all.failed ++ later)).state.history new.state.history (begins_is new.state.history new.state.history (script_transcript asked c opening (all.bytes ++ more) (all.failed ++ later)).state.history (ap (λ (o : Out). o.state.history) (whole_text a b u v asked c opening stores new all more later can)) (begins_same new.state.history));
}

-- the end of the input was reached, and the last line written
pub end_written : (end : ScriptEnd) (a b : SourceView) (u v w : Option (List ℕ)) (asked : AskedTables) (c : Configuration) (opening : ℕ) (old new : Progress) → old ≡ starting_progress asked c opening old.stores → old.stores.failed ≡ false → PlayedAll a b u v old new → Concludes end new.stores.failed v w (new.replies ++ end_text new.state.manager) → Ends end a b u w old.stores.faults new.stores.faults (script_transcript asked c opening) new.state
end_written end a b u v w asked c opening old new starts none played concludes =
    let P : Progress → Type 0 = λ p. PlayedAll a b u v p new in ended_by end a b u v w asked c opening old.stores new none (subst P starts played) concludes

-- a last line that was written is no failure of the source
pub no_read_fault : (end : ScriptEnd) (failed : Bool) (w0 w1 : Option (List ℕ)) (text : List ℕ) → Concludes end failed w0 w1 text → end ≡ script_end.ReadFault → ⊥
no_read_fault (script_end.End store_failed) failed w0 w1 text concludes is = cc
no_read_fault script_end.BadScript failed w0 w1 text concludes is = concludes
no_read_fault script_end.ReadFault failed w0 w1 text concludes is = concludes
no_read_fault script_end.WriteFault failed w0 w1 text concludes is = cc
no_read_fault script_end.Memory failed w0 w1 text concludes is = cc

-- what is kept at the start, over these tables
pub start_state : (stored : Option StoredView) (x : KeptView) (c : Configuration) (opening : ℕ) (m : ManagerView) → x ≡ opening_kept stored opening → script_state m x ≡ starting_state (asked_of x.stored) c opening → script_state m x ≡ starting_state (asked_of stored) c opening
start_state stored x c opening m is starts = starts ∙ ap (λ (k : KeptView). starting_state (asked_of k.stored) c opening) is

pub opened_with : (stored : Option StoredView) (x : KeptView) (opening : ℕ) → x ≡ opening_kept stored opening → x ≡ opening_kept x.stored opening
opened_with stored x opening is = is ∙ ap (λ (k : KeptView). opening_kept k.stored opening) (sym is)

pub wide_with : (stored : Option StoredView) (x : KeptView) (opening : ℕ) → x ≡ opening_kept stored opening → AreScannable (asked_of stored) → AreScannable (asked_of x.stored)
wide_with stored x opening is wide = let P : KeptView → Type 0 = λ k. AreScannable (asked_of k.stored) in subst P (sym is) wide
