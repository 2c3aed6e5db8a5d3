-- How the lines of a script run on from what is at hand.
use Rattle.std.proofs.Common.{◌≡◌, ℕ, ◌+◌, ◌<◌, ◌≤◌, Bool, true, false, List, [], ◌∷◌, ◌++◌, length, refl, ap, arith, ◌==◌, ◌∙◌, sym, subst, append_assoc, Option}
use Rattle.std.specs.Prelude.{Some, None, nat_lt, not, min, IsTrue, if◌then◌else◌}
use Rattle.std.proofs.lemmas.Bool.Decides.{nat_tests}
use Rattle.std.proofs.lemmas.List.{append-nil}
use Rattle.pdq_reply.specs.declared.lines.LineOutcome.TheVariants as outcome
use Rattle.pdq_reply.specs.declared.replies.LineFault.{LineFault}
use Rattle.pdq_reply.specs.declared.replies.LineFault.TheVariants as fault
use Rattle.pdq_base.specs.Lines.{InputLine, before_end, first_line, lines_of, onto, size_of, without_return}
use Rattle.pdq_reply.specs.Limits.{is_past_input, is_too_long}
use Rattle.pdq_session.specs.Commands.{line_of}
use Rattle.pdq_reply.specs.Replies.{fault_text}
use Rattle.pdq_reply.specs.declared.lines.LineOutcome.{LineOutcome}
use Rattle.pdq_reply.specs.Reading.{Reader, bytes_of, decided, GivesLine}
use Rattle.pdq_session.specs.ScriptStates.{ScriptState}
use Rattle.pdq_session.specs.ScriptTranscript.{Failures, Out, AtFault, after, ended, fails_later, fails_now, fault_at, fault_of, run_lines, script_step, unless_fault}
use Rattle.pdq_reply.proofs.Splitting.{IsOpenLine, not_same, open_before_end, before_end-end, before_end-other, lt_suc, lt_zero}

-- a line and its end
pub lines_of-line : (line more : List ℕ) → IsOpenLine line → lines_of (line ++ 10 ∷ more) ≡ record { bytes = line; ended = true } ∷ lines_of more
lines_of-line [] more is_open = refl
lines_of-line (b ∷ line) more is_open = rw (not_same b 10 is_open.0, lines_of-line line more is_open.1) refl

-- a line without an end
pub lines_of-last : (b : ℕ) (line : List ℕ) → IsOpenLine (b ∷ line) → lines_of (b ∷ line) ≡ record { bytes = b ∷ line; ended = false } ∷ []
lines_of-last b [] is_open = rw (not_same b 10 is_open.0) refl
lines_of-last b (c ∷ line) is_open = rw (not_same b 10 is_open.0, lines_of-last c line is_open.1) refl

-- within the limits, a line's fault is that of its command
fault_within : (s : ScriptState) (before : ℕ) (line : InputLine) → is_past_input before line ≡ false → is_too_long line ≡ false → fault_at s before line ≡ fault_of s.asked (line_of (without_return line.bytes))
fault_within s before line within short = rw (within, short) refl

-- what the first line, with its end, makes the script write
abbrev pub rest_after : ScriptState → List ℕ → ℕ → Failures → List InputLine → Out
rest_after s says before failed lines = unless_fault s (fault_of s.asked (line_of says)) (after (script_step s (fails_now failed) (line_of says)).text (run_lines (script_step s (fails_now failed) (line_of says)).state before (fails_later failed) lines))

run_line : (s : ScriptState) (before : ℕ) (failed : Failures) (line : InputLine) (lines : List InputLine) → is_past_input before line ≡ false → is_too_long line ≡ false →
    run_lines s before failed (line ∷ lines) ≡ rest_after s (without_return line.bytes) (before + size_of line) failed lines
unfolding run_lines
run_line s before failed line lines within short = rw (fault_within s before line within short) refl

run_given : (s : ScriptState) (before : ℕ) (failed : Failures) (line more : List ℕ) → IsOpenLine line → is_past_input before (record { bytes = line; ended = true }) ≡ false → is_too_long (record { bytes = line; ended = true }) ≡ false →
    run_lines s before failed (lines_of (line ++ 10 ∷ more)) ≡ rest_after s (without_return line) (before + (length line + 1)) failed (lines_of more)
run_given s before failed line more is_open within short = ap (run_lines s before failed) (lines_of-line line more is_open) ∙ run_line s before failed (record { bytes = line; ended = true }) (lines_of more) within short

lines_of_last : (line : List ℕ) → 0 < length line → IsOpenLine line → lines_of line ≡ record { bytes = line; ended = false } ∷ []
lines_of_last [] some is_open = absurd (omega arith)
lines_of_last (b ∷ line) some is_open = lines_of-last b line is_open

run_given_last : (s : ScriptState) (before : ℕ) (failed : Failures) (line : List ℕ) → 0 < length line → IsOpenLine line → is_past_input before (record { bytes = line; ended = false }) ≡ false → is_too_long (record { bytes = line; ended = false }) ≡ false →
    run_lines s before failed (lines_of line) ≡ rest_after s (without_return line) (before + (length line + 0)) failed []
run_given_last s before failed line some is_open within short = ap (run_lines s before failed) (lines_of_last line some is_open) ∙ run_line s before failed (record { bytes = line; ended = false }) [] within short

-- the parts of a given line, by whether it has its end
pub record IsGiven (before : ℕ) (bytes : List ℕ) (new : Reader) (line : List ℕ) (ended : Bool) : Type 0 where
  pub is_open : IsOpenLine line
  pub whole : bytes ≡ bytes_of (record { bytes = line; ended = ended }) ++ new.buffered
  pub within : is_past_input before (record { bytes = line; ended = ended }) ≡ false
  pub short : is_too_long (record { bytes = line; ended = ended }) ≡ false
  pub some : 0 < size_of (record { bytes = line; ended = ended })
  pub given : new.given ≡ before + size_of (record { bytes = line; ended = ended })
  pub says : new.line ≡ without_return line

not_false : (e : Bool) → false ≡ not e → e ≡ true
not_false true is = refl
not_false false is = cc

not_true : (e : Bool) → true ≡ not e → e ≡ false
not_true true is = cc
not_true false is = refl

given_with : (before : ℕ) (bytes : List ℕ) (new : Reader) (e : Bool) (g : GivesLine before bytes new) → g.line.ended ≡ e → IsGiven before bytes new g.line.bytes e
given_with before bytes new e g is =
    let line : InputLine = record { bytes = g.line.bytes; ended = e } in
    let same : g.line ≡ line = ap (λ (t : Bool). let l : InputLine = record { bytes = g.line.bytes; ended = t } in l) is in
    let W : InputLine → Type 0 = λ l. bytes ≡ bytes_of l ++ new.buffered in
    let P : InputLine → Type 0 = λ l. is_past_input before l ≡ false in
    let L : InputLine → Type 0 = λ l. is_too_long l ≡ false in
    let S : InputLine → Type 0 = λ l. 0 < size_of l in
    let G : InputLine → Type 0 = λ l. new.given ≡ before + size_of l in
    let O : List ℕ → Type 0 = IsOpenLine in record {
      is_open = subst O (sym (ap (λ (l : InputLine). l.bytes) g.first)) (open_before_end bytes);
      whole = subst W same g.whole;
      within = subst P same g.within;
      short = subst L same g.short;
      some = subst S same g.some;
      given = subst G same g.given;
      says = g.says;
    }

-- a line with its end is run, and then what follows it
pub run_after_line : (s : ScriptState) (before : ℕ) (failed : Failures) (bytes more : List ℕ) (new : Reader) → GivesLine before bytes new → new.last ≡ false →
    run_lines s before failed (lines_of (bytes ++ more)) ≡ rest_after s new.line new.given failed (lines_of (new.buffered ++ more))
run_after_line s before failed bytes more new g goes =
    let i = given_with before bytes new true g (not_false g.line.ended (sym goes ∙ g.last)) in
    let bytes_are : bytes ++ more ≡ g.line.bytes ++ 10 ∷ (new.buffered ++ more) = ap (λ xs. xs ++ more) i.whole ∙ append_assoc (g.line.bytes ++ 10 ∷ []) new.buffered more ∙ append_assoc g.line.bytes (10 ∷ []) (new.buffered ++ more) in
    ap (λ xs. run_lines s before failed (lines_of xs)) bytes_are ∙ run_given s before failed g.line.bytes (new.buffered ++ more) i.is_open i.within i.short
    ∙ ap (λ xs. rest_after s xs (before + (length g.line.bytes + 1)) failed (lines_of (new.buffered ++ more))) (sym i.says)
    ∙ ap (λ n. rest_after s new.line n failed (lines_of (new.buffered ++ more))) (sym i.given)

is_true : (b : Bool) → b ≡ true → IsTrue b
is_true true is = is
is_true false is = is

-- the last line is run, and nothing follows it
pub run_after_last : (s : ScriptState) (before : ℕ) (failed : Failures) (bytes : List ℕ) (new : Reader) → GivesLine before bytes new → new.last ≡ true → run_lines s before failed (lines_of bytes) ≡ rest_after s new.line new.given failed []
run_after_last s before failed bytes new g ends =
    let i = given_with before bytes new false g (not_true g.line.ended (sym ends ∙ g.last)) in
    let none : new.buffered ≡ [] = g.none_left (is_true new.last ends) in
    let bytes_are : bytes ≡ g.line.bytes = i.whole ∙ ap (λ xs. (g.line.bytes ++ []) ++ xs) none ∙ append-nil (g.line.bytes ++ []) ∙ append-nil g.line.bytes in
    let some : 0 < length g.line.bytes = let size : 0 < length g.line.bytes + 0 = i.some in omega arith in
    ap (λ xs. run_lines s before failed (lines_of xs)) bytes_are ∙ run_given_last s before failed g.line.bytes some i.is_open i.within i.short
    ∙ ap (λ xs. rest_after s xs (before + (length g.line.bytes + 0)) failed []) (sym i.says)
    ∙ ap (λ n. rest_after s new.line n failed []) (sym i.given)

-- the first of these lines
abbrev pub first_of : List InputLine → InputLine
first_of [] = record { bytes = []; ended = false }
first_of (line ∷ lines) = line

-- a line goes on as another
pub record Extends (a b : InputLine) : Type 0 where
  pub longer : length a.bytes ≤ length b.bytes
  pub larger : size_of a ≤ size_of b

first_of-onto : (b : ℕ) (lines : List InputLine) → first_of (onto b lines) ≡ record { bytes = b ∷ (first_of lines).bytes; ended = (first_of lines).ended }
first_of-onto b [] = refl
first_of-onto b (line ∷ lines) = refl

first_line-other : (b : ℕ) (bytes : List ℕ) → (b == 10) ≡ false → first_line (b ∷ bytes) ≡ record { bytes = b ∷ (first_line bytes).bytes; ended = (first_line bytes).ended }
first_line-other b bytes other = rw (before_end-other b bytes other) (ap (λ (e : Bool). let l : InputLine = record { bytes = b ∷ before_end bytes; ended = e } in l) (lt_suc (length (before_end bytes)) (length bytes)))

first_line-end : (b : ℕ) (bytes : List ℕ) → (b == 10) ≡ true → first_line (b ∷ bytes) ≡ record { bytes = []; ended = true }
first_line-end b bytes is_end = rw (before_end-end b bytes is_end) (ap (λ (e : Bool). let l : InputLine = record { bytes = []; ended = e } in l) (lt_zero (length bytes)))

lines_of-end : (b : ℕ) (bytes : List ℕ) → (b == 10) ≡ true → lines_of (b ∷ bytes) ≡ record { bytes = []; ended = true } ∷ lines_of bytes
lines_of-end b bytes is_end = rw is_end refl

lines_of-other : (b : ℕ) (bytes : List ℕ) → (b == 10) ≡ false → lines_of (b ∷ bytes) ≡ onto b (lines_of bytes)
lines_of-other b bytes other = rw other refl

extends_by : (b : ℕ) (bytes more : List ℕ) (is_end : Bool) → (b == 10) ≡ is_end → Extends (first_line bytes) (first_of (lines_of (bytes ++ more))) → Extends (first_line (b ∷ bytes)) (first_of (lines_of (b ∷ (bytes ++ more))))
extends_by b bytes more true is_end rest =
    let one : InputLine = record { bytes = []; ended = true } in
    let P : InputLine → Type 0 = λ l. Extends l (first_of (lines_of (b ∷ (bytes ++ more)))) in
    let Q : List InputLine → Type 0 = λ ls. Extends one (first_of ls) in
    subst P (sym (first_line-end b bytes is_end)) (subst Q (sym (lines_of-end b (bytes ++ more) is_end)) (record { longer = omega arith; larger = omega arith }))
extends_by b bytes more false other rest =
    let was = first_line bytes in
    let goes = first_of (lines_of (bytes ++ more)) in
    let longer_line : InputLine = record { bytes = b ∷ was.bytes; ended = was.ended } in
    let P : InputLine → Type 0 = λ l. Extends l (first_of (lines_of (b ∷ (bytes ++ more)))) in
    let Q : List InputLine → Type 0 = λ ls. Extends longer_line (first_of ls) in
    let R : InputLine → Type 0 = λ l. Extends longer_line l in
    let longer : length was.bytes ≤ length goes.bytes = rest.longer in
    let larger : length was.bytes + (if was.ended then 1 else 0) ≤ length goes.bytes + (if goes.ended then 1 else 0) = rest.larger in
    subst P (sym (first_line-other b bytes other)) (subst Q (sym (lines_of-other b (bytes ++ more) other)) (subst R (sym (first_of-onto b (lines_of (bytes ++ more)))) (record { longer = omega arith; larger = omega arith })))

-- what comes later makes the first line no shorter
pub extends : (bytes more : List ℕ) → Extends (first_line bytes) (first_of (lines_of (bytes ++ more)))
extends [] more = record { longer = omega arith; larger = omega arith }
extends (b ∷ bytes) more = extends_by b bytes more (b == 10) refl (extends bytes more)

-- a first line with a fault ends the script
pub run_fault : (s : ScriptState) (before : ℕ) (failed : Failures) (lines : List InputLine) (reason : LineFault) → 0 < size_of (first_of lines) → fault_at s before (first_of lines) ≡ Some reason → run_lines s before failed lines ≡ record { text = fault_text reason; ending = AtFault; state = s }
unfolding run_lines
run_fault s before failed [] reason some is = absurd (omega arith)
run_fault s before failed (line ∷ lines) reason some is = rw is refl

abbrev choice : Bool → Bool → Bool → Option LineOutcome
choice past long ended = if past then Some outcome.InputTooLong else if long then Some outcome.LineTooLong else if ended then Some outcome.Line else None

chosen_long : (past long ended : Bool) → choice past long ended ≡ Some outcome.LineTooLong → (past ≡ false) × (long ≡ true)
chosen_long true long ended is = cc
chosen_long false true ended is = (refl, refl)
chosen_long false false true is = cc
chosen_long false false false is = cc

chosen_past : (past long ended : Bool) → choice past long ended ≡ Some outcome.InputTooLong → past ≡ true
chosen_past true long ended is = refl
chosen_past false true ended is = cc
chosen_past false false true is = cc
chosen_past false false false is = cc

past_long : (before m n : ℕ) → 8193 ≤ m → 8193 ≤ n → nat_lt 16777216 (before + min m 8193) ≡ false → nat_lt 16777216 (before + min n 8193) ≡ false
past_long before m n long longer within = grind (arith, nat_tests)

past_more : (before m n : ℕ) → m ≤ n → nat_lt 16777216 (before + min m 8193) ≡ true → nat_lt 16777216 (before + min n 8193) ≡ true
past_more before m n larger past = grind (arith, nat_tests)

past_some : (before m n : ℕ) → before ≤ 16777216 → m ≤ n → nat_lt 16777216 (before + min m 8193) ≡ true → 0 < n
past_some before m n early larger past = grind (arith, nat_tests)

long_more : (m n : ℕ) → m ≤ n → nat_lt 8192 m ≡ true → nat_lt 8192 n ≡ true
long_more m n longer long = grind (arith, nat_tests)

long_is : (m : ℕ) → nat_lt 8192 m ≡ true → 8193 ≤ m
long_is m long = grind (arith, nat_tests)

-- a line that is too long ends the script, whatever comes
pub run_too_long : (s : ScriptState) (before : ℕ) (failed : Failures) (bytes more : List ℕ) → decided before bytes ≡ Some outcome.LineTooLong → run_lines s before failed (lines_of (bytes ++ more)) ≡ record { text = fault_text fault.LineTooLong; ending = AtFault; state = s }
run_too_long s before failed bytes more is =
    let was = first_line bytes in
    let goes = first_of (lines_of (bytes ++ more)) in
    let found = chosen_long (is_past_input before was) (is_too_long was) was.ended is in
    let e = extends bytes more in
    let long : 8193 ≤ length was.bytes = long_is (length was.bytes) found.1 in
    let longer : length was.bytes ≤ length goes.bytes = e.longer in
    let size_was : 8193 ≤ size_of was = omega arith in
    let size_goes : 8193 ≤ size_of goes = omega arith in
    let within : is_past_input before goes ≡ false = past_long before (size_of was) (size_of goes) size_was size_goes found.0 in
    let too_long : is_too_long goes ≡ true = long_more (length was.bytes) (length goes.bytes) longer found.1 in
    let faults : fault_at s before goes ≡ Some fault.LineTooLong = rw (within, too_long) refl in
    run_fault s before failed (lines_of (bytes ++ more)) fault.LineTooLong (omega arith) faults

-- an input that is too long ends the script, whatever comes
pub run_past_input : (s : ScriptState) (before : ℕ) (failed : Failures) (bytes more : List ℕ) → before ≤ 16777216 → decided before bytes ≡ Some outcome.InputTooLong → run_lines s before failed (lines_of (bytes ++ more)) ≡ record { text = fault_text fault.InputTooLong; ending = AtFault; state = s }
run_past_input s before failed bytes more early is =
    let was = first_line bytes in
    let goes = first_of (lines_of (bytes ++ more)) in
    let found = chosen_past (is_past_input before was) (is_too_long was) was.ended is in
    let e = extends bytes more in
    let past : is_past_input before goes ≡ true = past_more before (size_of was) (size_of goes) e.larger found in
    let some : 0 < size_of goes = past_some before (size_of was) (size_of goes) early e.larger found in
    let faults : fault_at s before goes ≡ Some fault.InputTooLong = rw past refl in
    run_fault s before failed (lines_of (bytes ++ more)) fault.InputTooLong some faults

-- no line is left
pub run_none : (s : ScriptState) (before : ℕ) (failed : Failures) (bytes : List ℕ) → bytes ≡ [] → run_lines s before failed (lines_of bytes) ≡ ended s
unfolding run_lines
run_none s before failed bytes none = rw none refl
