-- How a script comes from turn to turn.
use Rattle.std.proofs.Common.{◌≡◌, ℕ, ◌≤◌, Bool, true, false, List, [], ◌∷◌, ◌++◌, take, drop, refl, ap, ◌∙◌, sym, subst, append_assoc, add-zero, Option, inl, inr, ◌⊎◌}
use Rattle.std.specs.Prelude.{Some, None, IsTrue}
use Rattle.std.proofs.lemmas.List.{append-nil, take-append-drop}
use Rattle.pdq_edge.specs.Bytes.{Gave, Grows, GrewSome}
use Rattle.pdq_reply.specs.declared.lines.LineOutcome.TheVariants as outcome
use Rattle.pdq_reply.specs.declared.replies.LineFault.{LineFault}
use Rattle.pdq_reply.specs.declared.replies.LineFault.TheVariants as fault
use Rattle.pdq_session.specs.declared.scripts.Turn.{Turn}
use Rattle.pdq_session.specs.declared.scripts.Turn.TheVariants as turn
use Rattle.pdq_session.specs.Commands.{line_of}
use Rattle.pdq_base.specs.Lines.{lines_of}
use Rattle.pdq_reply.specs.Reading.{Reader, GivesLine, Reads, decided, remaining}
use Rattle.pdq_reply.specs.Replies.{fault_text}
use Rattle.pdq_session.specs.ScriptStates.{ScriptState}
use Rattle.pdq_session.specs.ScriptTranscript.{Failures, Out, AtFault, after, fault_of, run_lines, script_step, unless_fault}
use Rattle.pdq_model.specs.declared.events.Entry.{Entry}
use Rattle.pdq_session.specs.ScriptLines.{Begins}
use Rattle.pdq_session.specs.Progress.{Progress, progress, rest_of, Cut, ByFault, ByMemory, Entered, StoresTold, SourceView, CanFollow, Came, GoesOn, Played, PlayedAll, PlayedSome, PlayedUnread, Turns, Answered, Answers, Refuses, Wants}
use Rattle.pdq_reply.proofs.Giving.{took_then}
use Rattle.pdq_session.proofs.Running.{rest_after, run_after_line, run_after_last, run_too_long, run_past_input, run_none}
use Rattle.pdq_session.proofs.Growing.{begins_is, begins_same, grown_line, grown_run, made_all, made_then}
use Rattle.pdq_session.proofs.StoreCounts.{go_on_none, go_on_same, go_on_then}

-- what is told grew by nothing, and by one piece and then another
grows_none : (sink : Option (List ℕ)) → Grows sink sink []
grows_none None = tt
grows_none (Some bytes) = sym (append-nil bytes)

pub grows_same : (before now : Option (List ℕ)) → now ≡ before → Grows before now []
grows_same before now same = let P : Option (List ℕ) → Type 0 = λ s. Grows before s [] in subst P (sym same) (grows_none before)

pub grows_then : (a b c : Option (List ℕ)) (xs ys : List ℕ) → Grows a b xs → Grows b c ys → Grows a c (xs ++ ys)
grows_then a b None xs ys first second = tt
grows_then a None (Some now) xs ys first second = absurd second
grows_then None (Some between) (Some now) xs ys first second = absurd first
grows_then (Some before) (Some between) (Some now) xs ys first second = second ∙ ap (λ zs. zs ++ ys) first ∙ append_assoc before xs ys

-- every text begins with nothing, and with its first bytes
pub begins_none : (whole : List ℕ) → Begins whole []
begins_none whole = record { tail = whole; part = refl }

pub begins_front : (whole text rest : List ℕ) (count : ℕ) → whole ≡ text ++ rest → Begins whole (take count text)
begins_front whole text rest count is = record {
  tail = drop count text ++ rest;
  part = is ∙ ap (λ xs. xs ++ rest) (sym (take-append-drop count text)) ∙ append_assoc (take count text) (drop count text) rest;
}

after_after : (x y : List ℕ) (o : Out) → after x (after y o) ≡ after (x ++ y) o
after_after x y o = ap (λ (t : List ℕ). let out : Out = record { text = t; ending = o.ending; state = o.state } in out) (sym (append_assoc x y o.text))

-- entries that begin all were entered, however the script was cut off
pub entered_all : (cut : Cut) (whole made : List Entry) → Begins whole made → Entered cut whole made
entered_all ByFault whole made begins = begins
entered_all ByMemory whole made begins = made_all whole made begins

entered_is : (cut : Cut) (made here whole : List Entry) → whole ≡ here → Entered cut here made → Entered cut whole made
entered_is cut made here whole is entered = let P : List Entry → Type 0 = λ w. Entered cut w made in subst P (sym is) entered

-- whatever can follow these bytes, these entries begin those of the script
pub record EntersFirst (a b : SourceView) (old : Progress) (bytes : List ℕ) (state : ScriptState) : Type 0 where
  pub each : (more : List ℕ) (later : Failures) → CanFollow a b more → Begins (rest_of old (bytes ++ more) later).state.history state.history

-- nothing was written, and the script is cut off
pub cut_off : (cut : Cut) (a b : SourceView) (w0 w1 : Option (List ℕ)) (old : Progress) (bytes : List ℕ) (state : ScriptState) (stores : StoresTold) → Came a b bytes → w1 ≡ w0 → EntersFirst a b old bytes state → stores ≡ old.stores → PlayedSome cut a b w0 w1 old state stores
cut_off cut a b w0 w1 old bytes state stores came same enters still = record { bytes = bytes; failed = []; text = []; came = came; grew = grows_same w0 w1 same; begins = λ more later can. begins_none (rest_of old (bytes ++ more) later).text; entries = λ more later can. entered_all cut (rest_of old (bytes ++ more) later).state.history state.history (enters.each more later can); few = go_on_same old.stores stores still }

-- these bytes lead to a line with this fault, whatever can follow them
pub record LeadsTo (a b : SourceView) (old : Progress) (bytes : List ℕ) (reason : LineFault) : Type 0 where
  pub each : (more : List ℕ) (failed : Failures) → CanFollow a b more → run_lines old.state old.reader.given failed (lines_of (old.reader.buffered ++ (bytes ++ more))) ≡ record { text = fault_text reason; ending = AtFault; state = old.state }

-- the script's entries are those so far where a line has a fault
enters_refused : (a b : SourceView) (old : Progress) (bytes : List ℕ) (reason : LineFault) (state : ScriptState) → LeadsTo a b old bytes reason → state ≡ old.state → EntersFirst a b old bytes state
enters_refused a b old bytes reason state leads same = record {
  each = λ more later can. begins_is state.history old.state.history (rest_of old (bytes ++ more) later).state.history (ap (λ (o : Out). o.state.history) (leads.each more later can)) (begins_is state.history state.history old.state.history (ap (λ (s : ScriptState). s.history) (sym same)) (begins_same state.history));
}

-- the line of a fault is written
pub refused_turn : (which : Turn) (reason : LineFault) (a b : SourceView) (w0 w1 : Option (List ℕ)) (old new : Progress) (bytes : List ℕ) → Came a b bytes → LeadsTo a b old bytes reason → Refuses which reason w0 w1 old.replies → new.state ≡ old.state → new.stores ≡ old.stores → Turns which a b w0 w1 old new
refused_turn turn.On reason a b w0 w1 old new bytes came leads refuses state still = absurd refuses
refused_turn turn.End reason a b w0 w1 old new bytes came leads refuses state still = absurd refuses
refused_turn turn.ReadFault reason a b w0 w1 old new bytes came leads refuses state still = absurd refuses
refused_turn turn.Memory reason a b w0 w1 old new bytes came leads refuses state still = cut_off ByMemory a b w0 w1 old bytes new.state new.stores came refuses (enters_refused a b old bytes reason new.state leads state) still
refused_turn turn.Bad reason a b w0 w1 old new bytes came leads refuses state still = record {
  bytes = bytes;
  failed = [];
  text = old.replies ++ fault_text reason;
  came = came;
  grew = refuses;
  ends = λ more later can. ap (after old.replies) (leads.each more later can) ∙ ap (λ (s : ScriptState). let out : Out = record { text = old.replies ++ fault_text reason; ending = AtFault; state = s } in out) (sym state);
  few = go_on_same old.stores new.stores still;
}
refused_turn turn.WriteFault reason a b w0 w1 old new bytes came leads refuses state still = record {
  bytes = bytes;
  failed = [];
  text = take refuses.count (old.replies ++ fault_text reason);
  came = came;
  grew = refuses.grew;
  begins = λ more later can. begins_front (rest_of old (bytes ++ more) later).text (old.replies ++ fault_text reason) [] refuses.count (ap (λ (o : Out). old.replies ++ o.text) (leads.each more later can) ∙ sym (append-nil (old.replies ++ fault_text reason)));
  entries = (enters_refused a b old bytes reason new.state leads state).each;
  few = go_on_same old.stores new.stores still;
}

-- a line with a fault leads to it
fault_rest_by : (s : ScriptState) (before : ℕ) (failed : Failures) (bytes more : List ℕ) (r : Reader) (reason : LineFault) (last : Bool) → r.last ≡ last → GivesLine before bytes r → (last ≡ true → more ≡ []) → fault_of s.asked (line_of r.line) ≡ Some reason →
    run_lines s before failed (lines_of (bytes ++ more)) ≡ record { text = fault_text reason; ending = AtFault; state = s }
fault_rest_by s before failed bytes more r reason false goes gives none bad = run_after_line s before failed bytes more r gives goes ∙ rw bad refl
fault_rest_by s before failed bytes more r reason true ends gives none bad = ap (λ xs. run_lines s before failed (lines_of (bytes ++ xs))) (none refl) ∙ ap (λ xs. run_lines s before failed (lines_of xs)) (append-nil bytes) ∙ run_after_last s before failed bytes r gives ends ∙ rw bad refl

is_true : (b : Bool) → b ≡ true → IsTrue b
is_true true is = is
is_true false is = is

-- nothing can follow the end of the input
pub none_follows : (a b : SourceView) (more : List ℕ) → IsTrue b.ended → remaining a.left b.left ≡ [] → CanFollow a b more → more ≡ []
none_follows a b more is_ended none (inl told) = told ∙ none
none_follows a b more is_ended none (inr untold) = untold is_ended

leads_to_line : (a b : SourceView) (old : Progress) (r : Reader) (bytes : List ℕ) (reason : LineFault) → GivesLine old.reader.given (old.reader.buffered ++ bytes) r → (IsTrue r.last → IsTrue b.ended) → (IsTrue r.last → remaining a.left b.left ≡ []) → fault_of old.state.asked (line_of r.line) ≡ Some reason → LeadsTo a b old bytes reason
leads_to_line a b old r bytes reason gives ends none bad = record {
  each = λ more failed can. ap (λ xs. run_lines old.state old.reader.given failed (lines_of xs)) (sym (append_assoc old.reader.buffered bytes more))
      ∙ fault_rest_by old.state old.reader.given failed (old.reader.buffered ++ bytes) more r reason r.last refl gives (λ last. none_follows a b more (ends (is_true r.last last)) (none (is_true r.last last)) can) bad;
}

-- a line was answered, and the script goes on
goes_on : (old new : Progress) (r : Reader) (bytes : List ℕ) → GivesLine old.reader.given (old.reader.buffered ++ bytes) r → r.last ≡ false → (answered : Answered r.line (progress old.state r old.replies old.stores) new) → GoesOn old new [] bytes (answered.failed ∷ [])
goes_on old new r bytes gives last answered =
    let s : ScriptState = old.state in
    let failed : Bool = answered.failed in
    let step = script_step s failed (line_of r.line) in record {
      each = λ more later. ap (λ xs. after old.replies (run_lines s old.reader.given (failed ∷ later) (lines_of xs))) (sym (append_assoc old.reader.buffered bytes more))
          ∙ ap (after old.replies) (run_after_line s old.reader.given (failed ∷ later) (old.reader.buffered ++ bytes) more r gives last)
          ∙ ap (λ f. after old.replies (unless_fault s f (after step.text (run_lines step.state r.given later (lines_of (r.buffered ++ more)))))) answered.good
          ∙ after_after old.replies step.text (run_lines step.state r.given later (lines_of (r.buffered ++ more)))
          ∙ sym (rw (answered.replies, answered.state, answered.reader) refl);
    }

-- the last line was answered
all_answered : (old new : Progress) (r : Reader) (bytes : List ℕ) → GivesLine old.reader.given (old.reader.buffered ++ bytes) r → r.last ≡ true → (answered : Answered r.line (progress old.state r old.replies old.stores) new) → (later : Failures) → rest_of old bytes ((answered.failed ∷ []) ++ later) ≡ after [] (rest_of new [] later)
all_answered old new r bytes gives last answered later =
    let s : ScriptState = old.state in
    let none : r.buffered ≡ [] = gives.none_left (is_true r.last last) in
    let failed : Bool = answered.failed in
    let step = script_step s failed (line_of r.line) in
    ap (after old.replies) (run_after_last s old.reader.given (failed ∷ later) (old.reader.buffered ++ bytes) r gives last)
    ∙ ap (λ f. after old.replies (unless_fault s f (after step.text (run_lines step.state r.given later [])))) answered.good
    ∙ after_after old.replies step.text (run_lines step.state r.given later [])
    ∙ sym (rw (answered.replies, answered.state, answered.reader, none) refl)

-- the entries of a line that was run begin those of the script
rest_by_line : (s : ScriptState) (before : ℕ) (failed : Failures) (bytes more : List ℕ) (r : Reader) (last : Bool) → r.last ≡ last → GivesLine before bytes r → (last ≡ true → more ≡ []) →
    Begins (run_lines s before (false ∷ failed) (lines_of (bytes ++ more))).state.history (script_step s false (line_of r.line)).state.history
rest_by_line s before failed bytes more r false goes gives none =
    let step = script_step s false (line_of r.line) in
    begins_is step.state.history (rest_after s r.line r.given (false ∷ failed) (lines_of (r.buffered ++ more))).state.history (run_lines s before (false ∷ failed) (lines_of (bytes ++ more))).state.history
    (ap (λ (o : Out). o.state.history) (run_after_line s before (false ∷ failed) bytes more r gives goes))
    (grown_line s false (line_of r.line) step.text (run_lines step.state r.given failed (lines_of (r.buffered ++ more))) (grown_run step.state r.given failed (lines_of (r.buffered ++ more))))
rest_by_line s before failed bytes more r true ends gives none =
    let step = script_step s false (line_of r.line) in
    begins_is step.state.history (rest_after s r.line r.given (false ∷ failed) []).state.history (run_lines s before (false ∷ failed) (lines_of (bytes ++ more))).state.history
    (ap (λ (o : Out). o.state.history) (ap (λ xs. run_lines s before (false ∷ failed) (lines_of (bytes ++ xs))) (none refl) ∙ ap (λ xs. run_lines s before (false ∷ failed) (lines_of xs)) (append-nil bytes) ∙ run_after_last s before (false ∷ failed) bytes r gives ends))
    (grown_line s false (line_of r.line) step.text (run_lines step.state r.given failed []) (grown_run step.state r.given failed []))

-- memory was wanting at a line
wanting_turn : (a b : SourceView) (w0 w1 : Option (List ℕ)) (old new : Progress) (r : Reader) (bytes : List ℕ) → Came a b bytes → GivesLine old.reader.given (old.reader.buffered ++ bytes) r → (IsTrue r.last → IsTrue b.ended) → (IsTrue r.last → remaining a.left b.left ≡ []) →
    Wants r.line w0 w1 (progress old.state r old.replies old.stores) new → PlayedSome ByMemory a b w0 w1 old new.state new.stores
wanting_turn a b w0 w1 old new r bytes came gives ends none wants = record {
  bytes = bytes;
  failed = false ∷ [];
  text = [];
  came = came;
  grew = grows_same w0 w1 wants.unwritten;
  begins = λ more later can. begins_none (rest_of old (bytes ++ more) (false ∷ later)).text;
  entries = λ more later can.
      let now : ScriptState = (script_step old.state false (line_of r.line)).state in
      made_then new.state.history now.history (rest_of old (bytes ++ more) (false ∷ later)).state.history wants.entries
      (begins_is now.history (run_lines old.state old.reader.given (false ∷ later) (lines_of ((old.reader.buffered ++ bytes) ++ more))).state.history (rest_of old (bytes ++ more) (false ∷ later)).state.history
      (ap (λ xs. (run_lines old.state old.reader.given (false ∷ later) (lines_of xs)).state.history) (sym (append_assoc old.reader.buffered bytes more)))
      (rest_by_line old.state old.reader.given later (old.reader.buffered ++ bytes) more r r.last refl gives (λ last. none_follows a b more (ends (is_true r.last last)) (none (is_true r.last last)) can)));
  few = wants.few;
}

buffered_none : (new : Progress) (r : Reader) → new.reader ≡ r → r.buffered ≡ [] → new.reader.buffered ≡ []
buffered_none new r same none = ap (λ (x : Reader). x.buffered) same ∙ none

-- a line was given and answered
pub line_turn : (which : Turn) (a b : SourceView) (w0 w1 : Option (List ℕ)) (old new : Progress) (r : Reader) → Reads outcome.Line a.left b.left a.taken b.taken old.reader r → (IsTrue r.last → IsTrue b.ended) → (IsTrue r.last → remaining a.left b.left ≡ []) →
    Answers which r.line r.last w0 w1 (progress old.state r old.replies old.stores) new → Turns which a b w0 w1 old new
line_turn turn.On a b w0 w1 old new r reads ends none answers = record {
  bytes = reads.bytes;
  failed = answers.0.failed ∷ [];
  text = [];
  came = reads.took;
  grew = grows_same w0 w1 answers.2;
  runs = goes_on old new r reads.bytes reads.does answers.1 answers.0;
  few = answers.0.few;
}
line_turn turn.End a b w0 w1 old new r reads ends none answers = record {
  bytes = reads.bytes;
  failed = answers.0.failed ∷ [];
  text = [];
  came = reads.took;
  grew = grows_same w0 w1 answers.2;
  ended = ends (is_true r.last answers.1);
  none_left = none (is_true r.last answers.1);
  buffered = buffered_none new r answers.0.reader (reads.does.none_left (is_true r.last answers.1));
  runs = all_answered old new r reads.bytes reads.does answers.1 answers.0;
  few = answers.0.few;
}
line_turn turn.Bad a b w0 w1 old new r reads ends none answers = refused_turn turn.Bad answers.reason a b w0 w1 old new reads.bytes reads.took (leads_to_line a b old r reads.bytes answers.reason reads.does ends none answers.bad) answers.refuses answers.state answers.stores
line_turn turn.ReadFault a b w0 w1 old new r reads ends none answers = absurd answers
line_turn turn.WriteFault a b w0 w1 old new r reads ends none answers = refused_turn turn.WriteFault answers.reason a b w0 w1 old new reads.bytes reads.took (leads_to_line a b old r reads.bytes answers.reason reads.does ends none answers.bad) answers.refuses answers.state answers.stores
line_turn turn.Memory a b w0 w1 old new r reads ends none answers = wanting_turn a b w0 w1 old new r reads.bytes reads.took reads.does ends none answers

-- a line, or the input, is too long
pub too_long_turn : (which : Turn) (a b : SourceView) (w0 w1 : Option (List ℕ)) (old new : Progress) → Reads outcome.LineTooLong a.left b.left a.taken b.taken old.reader new.reader → Refuses which fault.LineTooLong w0 w1 old.replies → new.state ≡ old.state → new.stores ≡ old.stores → Turns which a b w0 w1 old new
too_long_turn which a b w0 w1 old new reads refuses state still = refused_turn which fault.LineTooLong a b w0 w1 old new reads.bytes reads.took
    (record {
      each = λ more failed can. ap (λ xs. run_lines old.state old.reader.given failed (lines_of xs)) (sym (append_assoc old.reader.buffered reads.bytes more))
          ∙ run_too_long old.state old.reader.given failed (old.reader.buffered ++ reads.bytes) more reads.does.limit;
    }) refuses state still

pub past_input_turn : (which : Turn) (a b : SourceView) (w0 w1 : Option (List ℕ)) (old new : Progress) → Reads outcome.InputTooLong a.left b.left a.taken b.taken old.reader new.reader → old.reader.given ≤ 16777216 → Refuses which fault.InputTooLong w0 w1 old.replies → new.state ≡ old.state → new.stores ≡ old.stores → Turns which a b w0 w1 old new
past_input_turn which a b w0 w1 old new reads early refuses state still = refused_turn which fault.InputTooLong a b w0 w1 old new reads.bytes reads.took
    (record {
      each = λ more failed can. ap (λ xs. run_lines old.state old.reader.given failed (lines_of xs)) (sym (append_assoc old.reader.buffered reads.bytes more))
          ∙ run_past_input old.state old.reader.given failed (old.reader.buffered ++ reads.bytes) more early reads.does.limit;
    }) refuses state still

-- the source failed
pub failed_turn : (a b : SourceView) (w0 w1 : Option (List ℕ)) (old : Progress) (r : Reader) → Reads outcome.Failed a.left b.left a.taken b.taken old.reader r → decided r.given r.buffered ≡ None → w1 ≡ w0 → PlayedUnread a b w0 w1 old (progress old.state r old.replies old.stores)
failed_turn a b w0 w1 old r reads undecided same = record {
  played = record {
    bytes = reads.bytes;
    failed = [];
    text = [];
    came = reads.took;
    grew = grows_same w0 w1 same;
    runs = record {
      each = λ more later. ap (λ xs. after old.replies (run_lines old.state old.reader.given later (lines_of xs))) (sym (append_assoc old.reader.buffered reads.bytes more))
          ∙ sym (rw (reads.does.buffered, reads.does.given) refl);
    };
    few = go_on_none old.stores;
  };
  undecided = undecided;
}

-- no line is left
pub end_turn : (a b : SourceView) (w0 w1 : Option (List ℕ)) (old : Progress) (r : Reader) → Reads outcome.End a.left b.left a.taken b.taken old.reader r → IsTrue b.ended → remaining a.left b.left ≡ [] → w1 ≡ w0 → PlayedAll a b w0 w1 old (progress old.state r old.replies old.stores)
end_turn a b w0 w1 old r reads ends none same = record {
  bytes = reads.bytes;
  failed = [];
  text = [];
  came = reads.took;
  grew = grows_same w0 w1 same;
  ended = ends;
  none_left = none;
  buffered = reads.does.buffered;
  runs = λ later. ap (after old.replies) (run_none old.state old.reader.given later (old.reader.buffered ++ reads.bytes) reads.does.none
      ∙ sym (run_none old.state r.given later (r.buffered ++ []) (append-nil r.buffered ∙ reads.does.buffered)));
  few = go_on_none old.stores;
}

gave_none : (source : Option (List ℕ)) → Gave source source []
gave_none None = tt
gave_none (Some left) = refl

pub came_none : (a : SourceView) → Came a a []
came_none a = record { gave = gave_none a.left; counted = λ below. sym (add-zero a.taken) }

-- nothing came and nothing was written
pub played_none : (a : SourceView) (w : Option (List ℕ)) (old : Progress) → Played a a w w old old
played_none a w old = record { bytes = []; failed = []; text = []; came = came_none a; grew = grows_none w; runs = record { each = λ more later. refl }; few = go_on_none old.stores }

-- the replies that were ready were written
pub played_ready : (a : SourceView) (w0 w1 : Option (List ℕ)) (old : Progress) → Grows w0 w1 old.replies → Played a a w0 w1 old (progress old.state old.reader [] old.stores)
played_ready a w0 w1 old grew = record { bytes = []; failed = []; text = old.replies; came = came_none a; grew = grew; runs = record { each = λ more later. refl }; few = go_on_none old.stores }

pub played_ready_with : (a : SourceView) (w0 w1 : Option (List ℕ)) (old : Progress) (replies : List ℕ) → Grows w0 w1 old.replies → replies ≡ [] → Played a a w0 w1 old (progress old.state old.reader replies old.stores)
played_ready_with a w0 w1 old replies grew none = let P : List ℕ → Type 0 = λ xs. Played a a w0 w1 old (progress old.state old.reader xs old.stores) in subst P (sym none) (played_ready a w0 w1 old grew)

-- a first part of them was written
pub ready_in_part : (a : SourceView) (w0 w1 : Option (List ℕ)) (old : Progress) → GrewSome w0 w1 old.replies → PlayedSome ByFault a a w0 w1 old old.state old.stores
ready_in_part a w0 w1 old some = record {
  bytes = [];
  failed = [];
  text = take some.count old.replies;
  came = came_none a;
  grew = some.grew;
  begins = λ more later can. begins_front (rest_of old more later).text old.replies (run_lines old.state old.reader.given later (lines_of (old.reader.buffered ++ more))).text some.count refl;
  entries = λ more later can. grown_run old.state old.reader.given later (lines_of (old.reader.buffered ++ more));
  few = go_on_none old.stores;
}

remaining_later : (a b c : Option (List ℕ)) (xs more : List ℕ) → Gave a b xs → more ≡ remaining a c → (more ≡ remaining b c) ⊎ (more ≡ [])
remaining_later None b c xs more gave told = inr told
remaining_later (Some all) None c xs more gave told = absurd gave
remaining_later (Some all) (Some left) None xs more gave told = inl told
remaining_later (Some all) (Some left) (Some rest) xs more gave told = inl told

follow_told : (b c : SourceView) (more : List ℕ) → (more ≡ remaining b.left c.left) ⊎ (more ≡ []) → CanFollow b c more
follow_told b c more (inl told) = inl told
follow_told b c more (inr none) = inr (λ _. none)

-- what can follow later can follow now
follow_later : (a b c : SourceView) (xs more : List ℕ) → Gave a.left b.left xs → CanFollow a c more → CanFollow b c more
follow_later a b c xs more gave (inl told) = follow_told b c more (remaining_later a.left b.left c.left xs more gave told)
follow_later a b c xs more gave (inr untold) = inr untold

remaining_all : (a b c : Option (List ℕ)) (xs : List ℕ) → Gave a b xs → remaining b c ≡ [] → remaining a c ≡ []
remaining_all None b c xs gave none = refl
remaining_all (Some all) None c xs gave none = absurd gave
remaining_all (Some all) (Some left) None xs gave none = refl
remaining_all (Some all) (Some left) (Some rest) xs gave none = none

came_then : (a b c : SourceView) (xs ys : List ℕ) → Came a b xs → Came b c ys → Came a c (xs ++ ys)
came_then a b c xs ys first second = took_then a.left b.left c.left a.taken b.taken c.taken xs ys first second

-- what is left after two pieces came
rest_then : (old mid : Progress) (text xs ys more : List ℕ) (failed later : Failures) → GoesOn old mid text xs failed → rest_of old ((xs ++ ys) ++ more) (failed ++ later) ≡ after text (rest_of mid (ys ++ more) later)
rest_then old mid text xs ys more failed later goes = ap (λ zs. rest_of old zs (failed ++ later)) (append_assoc xs ys more) ∙ goes.each (ys ++ more) later

rest_then_both : (old mid : Progress) (text xs ys more : List ℕ) (first second later : Failures) → GoesOn old mid text xs first → rest_of old ((xs ++ ys) ++ more) ((first ++ second) ++ later) ≡ after text (rest_of mid (ys ++ more) (second ++ later))
rest_then_both old mid text xs ys more first second later goes = ap (rest_of old ((xs ++ ys) ++ more)) (append_assoc first second later) ∙ rest_then old mid text xs ys more first (second ++ later) goes

-- a text that begins the rest begins the whole behind what was written before
text_begins_then : (whole : Out) (rest : Out) (first second : List ℕ) → whole ≡ after first rest → Begins rest.text second → Begins whole.text (first ++ second)
text_begins_then whole rest first second is begins = record {
  tail = begins.tail;
  part = ap (λ (o : Out). o.text) is ∙ ap (λ xs. first ++ xs) begins.part ∙ sym (append_assoc first second begins.tail);
}

some_then : (cut : Cut) (a b c : SourceView) (u v w : Option (List ℕ)) (old mid : Progress) (state : ScriptState) (stores : StoresTold) → Played a b u v old mid → PlayedSome cut b c v w mid state stores → PlayedSome cut a c u w old state stores
some_then cut a b c u v w old mid state stores first second = record {
  bytes = first.bytes ++ second.bytes;
  failed = first.failed ++ second.failed;
  text = first.text ++ second.text;
  came = came_then a b c first.bytes second.bytes first.came second.came;
  grew = grows_then u v w first.text second.text first.grew second.grew;
  begins = λ more later can. text_begins_then (rest_of old ((first.bytes ++ second.bytes) ++ more) ((first.failed ++ second.failed) ++ later)) (rest_of mid (second.bytes ++ more) (second.failed ++ later)) first.text second.text
      (rest_then_both old mid first.text first.bytes second.bytes more first.failed second.failed later first.runs) (second.begins more later (follow_later a b c first.bytes more first.came.gave can));
  entries = λ more later can. entered_is cut state.history (rest_of mid (second.bytes ++ more) (second.failed ++ later)).state.history (rest_of old ((first.bytes ++ second.bytes) ++ more) ((first.failed ++ second.failed) ++ later)).state.history
      (ap (λ (o : Out). o.state.history) (rest_then_both old mid first.text first.bytes second.bytes more first.failed second.failed later first.runs)) (second.entries more later (follow_later a b c first.bytes more first.came.gave can));
  few = go_on_then old.stores mid.stores stores first.failed second.failed first.few second.few;
}

pub played_then : (a b c : SourceView) (u v w : Option (List ℕ)) (old mid new : Progress) → Played a b u v old mid → Played b c v w mid new → Played a c u w old new
played_then a b c u v w old mid new first second = record {
  bytes = first.bytes ++ second.bytes;
  failed = first.failed ++ second.failed;
  text = first.text ++ second.text;
  came = came_then a b c first.bytes second.bytes first.came second.came;
  grew = grows_then u v w first.text second.text first.grew second.grew;
  runs = record { each = λ more later. rest_then_both old mid first.text first.bytes second.bytes more first.failed second.failed later first.runs ∙ ap (after first.text) (second.runs.each more later) ∙ after_after first.text second.text (rest_of new more later) };
  few = go_on_then old.stores mid.stores new.stores first.failed second.failed first.few second.few;
}

-- one turn after others
pub turn_then : (which : Turn) (a b c : SourceView) (u v w : Option (List ℕ)) (old mid new : Progress) → Played a b u v old mid → Turns which b c v w mid new → Turns which a c u w old new
turn_then turn.On a b c u v w old mid new first second = played_then a b c u v w old mid new first second
turn_then turn.End a b c u v w old mid new first second = record {
  bytes = first.bytes ++ second.bytes;
  failed = first.failed ++ second.failed;
  text = first.text ++ second.text;
  came = came_then a b c first.bytes second.bytes first.came second.came;
  grew = grows_then u v w first.text second.text first.grew second.grew;
  ended = second.ended;
  none_left = remaining_all a.left b.left c.left first.bytes first.came.gave second.none_left;
  buffered = second.buffered;
  runs = λ later. ap (rest_of old (first.bytes ++ second.bytes)) (append_assoc first.failed second.failed later) ∙ first.runs.each second.bytes (second.failed ++ later) ∙ ap (after first.text) (second.runs later) ∙ after_after first.text second.text (rest_of new [] later);
  few = go_on_then old.stores mid.stores new.stores first.failed second.failed first.few second.few;
}
turn_then turn.Bad a b c u v w old mid new first second = record {
  bytes = first.bytes ++ second.bytes;
  failed = first.failed ++ second.failed;
  text = first.text ++ second.text;
  came = came_then a b c first.bytes second.bytes first.came second.came;
  grew = grows_then u v w first.text second.text first.grew second.grew;
  ends = λ more later can. rest_then_both old mid first.text first.bytes second.bytes more first.failed second.failed later first.runs ∙ ap (after first.text) (second.ends more later (follow_later a b c first.bytes more first.came.gave can));
  few = go_on_then old.stores mid.stores new.stores first.failed second.failed first.few second.few;
}
turn_then turn.ReadFault a b c u v w old mid new first second = record { played = played_then a b c u v w old mid new first second.played; undecided = second.undecided }
turn_then turn.WriteFault a b c u v w old mid new first second = some_then ByFault a b c u v w old mid new.state new.stores first second
turn_then turn.Memory a b c u v w old mid new first second = some_then ByMemory a b c u v w old mid new.state new.stores first second
