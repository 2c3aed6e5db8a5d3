-- One turn of the loop over the lines.
use Rattle.std.proofs.Common.{ℕ, ◌≡◌, ◌≢◌, ◌∙◌, ◌+◌, ◌≤◌, ◌<◌, List, [], ◌∷◌, ◌++◌, length, Bool, true, false, Option, None, Some, refl, sym, ap, subst, arith, length-append}
use Rattle.std.specs.Prelude.{Result, Ok, Err, if◌then◌else◌}
use Rattle.std.specs.Result.{IsErr}
use Rattle.std.proofs.lemmas.Bool.{false≢true}
use Rattle.std.proofs.lemmas.Bool.Decides.{nat_tests}
use Rattle.std.proofs.lemmas.Option.{none-some, same_Some}
use Rattle.atomic_table.specs.Seated.{TableId}
use Rattle.pdq_base.specs.Lines.{InputLine, lines_of, size_of}
use Rattle.pdq_office.specs.PassValue.{PassValue}
use Rattle.pdq_table.specs.Storing.{StoredView}
use Rattle.pdq_reply.specs.declared.lines.LineOutcome.{LineOutcome}
use Rattle.pdq_reply.specs.declared.lines.LineOutcome.TheVariants as outcome
use Rattle.pdq_reply.specs.Limits.{is_past_input, is_too_long}
use Rattle.pdq_reply.specs.Reading.{Reader, GivesLine, Reads, Took, bytes_of, decided, fresh_reader}
use Rattle.pdq_reply.proofs.Giving.{took_then}
use Rattle.pdq_serve.proofs.Saying.{took_none}
use Rattle.pdq_talk.specs.declared.replied.Standing.{Standing}
use Rattle.pdq_talk.specs.declared.replied.Replied.{Replied}
use Rattle.pdq_talk.specs.declared.replied.Replied.TheVariants as told
use Rattle.pdq_serve.specs.declared.standings.LinesEnd.{LinesEnd}
use Rattle.pdq_serve.specs.declared.standings.LinesEnd.TheVariants as lines_end
use Rattle.pdq_talk.specs.declared.telling.Break.{Break}
use Rattle.pdq_serve.specs.Commands.{asked_of, said_by}
use Rattle.pdq_serve.specs.Course.{Answered, EndsInput, HasOrigin, HasTaken, IsUnderWay, Rested, TookInput, Turned, asks, end_after, ends_with, is_by_line, is_over}
use Rattle.pdq_talk.specs.Lines.{Asked}
use Rattle.pdq_serve.specs.LinesRead.{PassesAt}
use Rattle.pdq_serve.specs.Questions.{all_tell}
use Rattle.pdq_serve.proofs.LinesRead.{first_lines, read_last, read_line, read_more, read_none}
use Rattle.pdq_serve.proofs.Underway.{ends_at_first, on_answered, on_rested}

size_is : (line : InputLine) → length (bytes_of line) ≡ size_of line
size_is line = go line.ended
  where
    go : (e : Bool) → length (line.bytes ++ (if e then 10 ∷ [] else [])) ≡ length line.bytes + (if e then 1 else 0)
    go true = length-append line.bytes (10 ∷ [])
    go false = length-append line.bytes []

within_input : (before given : ℕ) (line : InputLine) → is_past_input before line ≡ false → is_too_long line ≡ false → given ≡ before + size_of line → given ≤ 16777216
within_input before given line within short is = go line.ended refl
  where
    go : (e : Bool) → line.ended ≡ e → given ≤ 16777216
    go e ended = grind (arith, nat_tests)

-- a line after which lines go on was written, and was not the last
goes : (e : Option LinesEnd) (broke : Result (Unit {0}) Break) (last : Bool) → ends_with e broke last ≡ None → (broke ≡ Ok tt) × (last ≡ false)
goes (Some x) broke last is = absurd (none-some x (sym is))
goes None (Err b) last is = absurd (none-some lines_end.Broken (sym is))
goes None (Ok x) true is = absurd (none-some lines_end.EndOfInput (sym is))
goes None (Ok x) false is = (refl, refl)

by_line_input : (x : LinesEnd) (bytes : List ℕ) (rest : List InputLine) → is_by_line x ≡ true → EndsInput x bytes rest
by_line_input lines_end.Quit bytes rest is = tt
by_line_input lines_end.Shutdown bytes rest is = tt
by_line_input lines_end.EndOfInput bytes rest is = absurd (false≢true is)
by_line_input lines_end.LineTooLong bytes rest is = absurd (false≢true is)
by_line_input lines_end.ByteLimit bytes rest is = absurd (false≢true is)
by_line_input lines_end.ReadFault bytes rest is = tt
by_line_input lines_end.Broken bytes rest is = tt

end_by_line : (r : Replied) (x : LinesEnd) → end_after r ≡ Some x → is_by_line x ≡ true
end_by_line (told.Closed number step true) x is = ap is_by_line (sym (same_Some lines_end.Shutdown x is))
end_by_line (told.Closed number step false) x is = ap is_by_line (sym (same_Some lines_end.Quit x is))
end_by_line told.Left x is = ap is_by_line (sym (same_Some lines_end.Quit x is))
end_by_line other x is = absurd (none-some x is)

end_or_quit : (r : Replied) (x : LinesEnd) → end_after r ≡ Some x → x ≢ lines_end.Broken
end_or_quit (told.Closed number step true) x is e = apart (same_Some lines_end.Shutdown x is ∙ e)
  where
    apart : lines_end.Shutdown ≡ lines_end.Broken → ⊥
    apart y = cc
end_or_quit (told.Closed number step false) x is e = apart (same_Some lines_end.Quit x is ∙ e)
  where
    apart : lines_end.Quit ≡ lines_end.Broken → ⊥
    apart y = cc
end_or_quit told.Left x is e = apart (same_Some lines_end.Quit x is ∙ e)
  where
    apart : lines_end.Quit ≡ lines_end.Broken → ⊥
    apart y = cc
end_or_quit other x is e = absurd (none-some x is)

-- what the input was where the lines ended with a line that was answered
line_input : (e : Option LinesEnd) (broke : Result (Unit {0}) Break) (last : Bool) (by : LinesEnd) (bytes : List ℕ) (rest : List InputLine) → ((x : LinesEnd) → e ≡ Some x → is_by_line x ≡ true) → (last ≡ true → rest ≡ []) → ends_with e broke last ≡ Some by → EndsInput by bytes rest
line_input (Some x) broke last by bytes rest ends none is = by_line_input by bytes rest (ap is_by_line (sym (same_Some x by is)) ∙ ends x refl)
line_input None (Err b) last by bytes rest ends none is = subst (λ (y : LinesEnd). EndsInput y bytes rest) (same_Some lines_end.Broken by is) tt
line_input None (Ok x) true by bytes rest ends none is = subst (λ (y : LinesEnd). EndsInput y bytes rest) (same_Some lines_end.EndOfInput by is) (none refl)
line_input None (Ok x) false by bytes rest ends none is = absurd (none-some by is)

-- the input ended where the lines ended for that
pub ended_last : (r : Replied) (broke : Result (Unit {0}) Break) (last : Bool) → ends_with (end_after r) broke last ≡ Some lines_end.EndOfInput → last ≡ true
ended_last r broke last is = go (end_after r) (λ x e. end_by_line r x e) broke last is
  where
    go : (e : Option LinesEnd) → ((x : LinesEnd) → e ≡ Some x → is_by_line x ≡ true) → (t : Result (Unit {0}) Break) (l : Bool) → ends_with e t l ≡ Some lines_end.EndOfInput → l ≡ true
    go (Some x) ends t l is = absurd (false≢true (ap is_by_line (sym (same_Some x lines_end.EndOfInput is)) ∙ ends x refl))
    go None ends t true is = refl
    go None ends (Ok x) false is = cc
    go None ends (Err b) false is = cc

-- and writing broke where they ended for that
pub broken_told : (r : Replied) (broke : Result (Unit {0}) Break) (last : Bool) → ends_with (end_after r) broke last ≡ Some lines_end.Broken → IsErr broke
broken_told r broke last is = go (end_after r) (λ x e. end_or_quit r x e) broke last is
  where
    go : (e : Option LinesEnd) → ((x : LinesEnd) → e ≡ Some x → x ≢ lines_end.Broken) → (t : Result (Unit {0}) Break) (l : Bool) → ends_with e t l ≡ Some lines_end.Broken → IsErr t
    go (Some x) ends t l is = absurd (ends x refl (same_Some x lines_end.Broken is))
    go None ends (Err b) l is = refl
    go None ends (Ok x) true is = cc
    go None ends (Ok x) false is = cc

-- and reading failed only where it did
pub never_read : (r : Replied) (broke : Result (Unit {0}) Break) (last : Bool) → ends_with (end_after r) broke last ≢ Some lines_end.ReadFault
never_read r broke last is = go (end_after r) (λ x e. end_by_line r x e) broke last is
  where
    go : (e : Option LinesEnd) → ((x : LinesEnd) → e ≡ Some x → is_by_line x ≡ true) → (t : Result (Unit {0}) Break) (l : Bool) → ends_with e t l ≡ Some lines_end.ReadFault → ⊥
    go (Some x) ends t l is = false≢true (ap is_by_line (sym (same_Some x lines_end.ReadFault is)) ∙ ends x refl)
    go None ends (Ok x) true is = cc
    go None ends (Ok x) false is = cc
    go None ends (Err b) l is = cc

-- nothing was taken yet
pub taken_none : (left : Option (List ℕ)) (taken : ℕ) (r : Reader) → r ≡ fresh_reader → HasTaken left left taken taken r [] []
taken_none left taken r is = subst (λ (x : Reader). HasTaken left left taken taken x [] []) (sym is)
    (record { took = took_none left taken; read = read_none; count = omega arith; early = omega arith })

module _ {S : Type 0} (blocks : S → Option (List (List ℕ))) (at_first now : List S) (db : StoredView) (opening : ℕ) (tell : all_tell blocks at_first ≡ true → all_tell blocks now ≡ true)
    (at : TableId) (start p q : PassValue) (has : HasOrigin start) (first s t : Standing) (left_before left left_after : Option (List ℕ)) (taken_before taken taken_after : ℕ) (old new : Reader)
    (b m a : Option (List ℕ)) (f g h : ℕ) (bytes : List ℕ) (lines : List (List ℕ)) (h_taken : HasTaken left_before left taken_before taken old bytes lines)
    (way : IsUnderWay {T = Unit {0}} at start p first s (asks blocks at_first db opening lines) b m f g (Ok tt) false) where
  ask : List ℕ → Asked
  ask line = asked_of blocks at_first db (said_by db opening line)

  asks_then : (xs : List (List ℕ)) (line : List ℕ) → asks blocks at_first db opening xs ++ ask line ∷ [] ≡ asks blocks at_first db opening (xs ++ line ∷ [])
  unfolding ask
  asks_then [] line = refl
  asks_then (x ∷ xs) line = ap (λ (l : List Asked). asked_of blocks at_first db (said_by db opening x) ∷ l) (asks_then xs line)

  -- the line is one of those that were answered
  answered_way : (broke : Result (Unit {0}) Break) (e : Option LinesEnd) (w : Answered at p q s t (asked_of blocks now db (said_by db opening new.line)) new.last m a g h broke e)
      → IsUnderWay {T = Unit {0}} at start q first t (asks blocks at_first db opening (lines ++ new.line ∷ [])) b a f h broke (is_over e)
  unfolding ask
  answered_way broke e w =
      subst (λ (l : List Asked). IsUnderWay {T = Unit {0}} at start q first t l b a f h broke (is_over e)) (asks_then lines new.line)
      (on_answered at start p q first s t (asks blocks at_first db opening lines) (asked_of blocks at_first db (said_by db opening new.line)) new.last b m a f g h broke e has way
      (record { reply = w.reply; ends = ends_at_first blocks at_first now db tell at p q s (said_by db opening new.line) w.reply broke w.ends; wrote = w.wrote; standing = w.standing; is = w.is }))

  counted : (more : List ℕ) (g : GivesLine old.given (old.buffered ++ more) new) → length (bytes ++ more) ≡ new.given + length new.buffered
  counted more g =
      let c : length bytes ≡ old.given + length old.buffered = h_taken.count in
      let w : length (old.buffered ++ more) ≡ length (bytes_of g.line ++ new.buffered) = ap length g.whole in
      let z : length (bytes_of g.line) ≡ size_of g.line = size_is g.line in
      omega (arith, c, w, z, g.given, length-append bytes more, length-append old.buffered more, length-append (bytes_of g.line) new.buffered)

  early : (more : List ℕ) (g : GivesLine old.given (old.buffered ++ more) new) → new.given ≤ 16777216
  early more g = within_input old.given new.given g.line g.within g.short g.given

  -- the lines go on
  pub goes_on : (which : LineOutcome) (broke : Result (Unit {0}) Break) (e : Option LinesEnd) → Reads which left left_after taken taken_after old new
      → Turned at p q s t (asked_of blocks now db (said_by db opening new.line)) new.last m a g h broke e which → e ≡ None
      → (xs : List ℕ) × (ys : List (List ℕ)) × HasTaken left_before left_after taken_before taken_after new xs ys × IsUnderWay {T = Unit {0}} at start q first t (asks blocks at_first db opening ys) b a f h (Ok tt) false × (old.given < new.given)
  goes_on outcome.Line broke e r w none =
      let on = goes (end_after w.reply) broke new.last (sym w.is ∙ none) in (
        bytes ++ r.bytes,
        lines ++ new.line ∷ [],
        record { took = took_then left_before left left_after taken_before taken taken_after bytes r.bytes h_taken.took r.took; read = read_line bytes r.bytes lines old.buffered h_taken.read old.given new r.does on.1; count = counted r.bytes r.does; early = early r.bytes r.does },
        subst (λ (o : Bool). IsUnderWay {T = Unit {0}} at start q first t (asks blocks at_first db opening (lines ++ new.line ∷ [])) b a f h (Ok tt) o) (ap is_over none)
            (subst (λ (x : Result (Unit {0}) Break). IsUnderWay {T = Unit {0}} at start q first t (asks blocks at_first db opening (lines ++ new.line ∷ [])) b a f h x (is_over e)) on.0 (answered_way broke e w)),
        omega (arith, r.does.given, r.does.some),
      )
  goes_on outcome.End broke e r w none = absurd (none-some lines_end.EndOfInput (sym none ∙ w.0.is))
  goes_on outcome.LineTooLong broke e r w none = absurd (none-some lines_end.LineTooLong (sym none ∙ w.0.is))
  goes_on outcome.InputTooLong broke e r w none = absurd (none-some lines_end.ByteLimit (sym none ∙ w.0.is))
  goes_on outcome.Failed broke e r w none = absurd (none-some lines_end.ReadFault (sym none ∙ w.0.is))

  -- what was taken in all, where no line came
  took_all : (by : LinesEnd) (more : List ℕ) → Took left left_after taken taken_after more → EndsInput by (bytes ++ more) (lines_of new.buffered) → new.buffered ≡ old.buffered ++ more → TookInput left_before left_after taken_before taken_after lines by
  took_all by more took ends kept = record {
    bytes = bytes ++ more;
    rest = lines_of new.buffered;
    took = took_then left_before left left_after taken_before taken taken_after bytes more h_taken.took took;
    first = first_lines (bytes ++ more) lines new.buffered (read_more bytes more lines old.buffered h_taken.read old.given new kept);
    ends = ends;
  }

  rested_way : (broke : Result (Unit {0}) Break) (e : Option LinesEnd) (by end : LinesEnd) → e ≡ Some by → Rested p q s t m a g h e end → is_by_line end ≡ false → IsUnderWay {T = Unit {0}} at start p first s (asks blocks at_first db opening lines) b m f g broke false
      → IsUnderWay {T = Unit {0}} at start q first t (asks blocks at_first db opening lines) b a f h broke (is_by_line by)
  rested_way broke e by end some r not_by u =
      subst (λ (o : Bool). IsUnderWay {T = Unit {0}} at start q first t (asks blocks at_first db opening lines) b a f h broke o) (sym not_by ∙ ap is_by_line (same_Some end by (sym r.is ∙ some)))
      (on_rested at start p q first s t (asks blocks at_first db opening lines) b m a f g h broke e end r u)

  passed : (which : LineOutcome) (more : List ℕ) → decided old.given (old.buffered ++ more) ≡ Some which → PassesAt which (bytes ++ more)
  passed which more is = record {
    given = old.given;
    left = old.buffered ++ more;
    count = (let c : length bytes ≡ old.given + length old.buffered = h_taken.count in omega (arith, c, length-append bytes more, length-append old.buffered more));
    early = h_taken.early;
    limit = is;
  }

  okay : (broke : Result (Unit {0}) Break) → broke ≡ Ok tt → IsUnderWay {T = Unit {0}} at start p first s (asks blocks at_first db opening lines) b m f g broke false
  okay broke is = subst (λ (x : Result (Unit {0}) Break). IsUnderWay {T = Unit {0}} at start p first s (asks blocks at_first db opening lines) b m f g x false) (sym is) way

  -- the lines end
  pub ends_so : (which : LineOutcome) (broke : Result (Unit {0}) Break) (e : Option LinesEnd) (by : LinesEnd) → Reads which left left_after taken taken_after old new
      → Turned at p q s t (asked_of blocks now db (said_by db opening new.line)) new.last m a g h broke e which → e ≡ Some by
      → (ys : List (List ℕ)) × TookInput left_before left_after taken_before taken_after ys by × IsUnderWay {T = Unit {0}} at start q first t (asks blocks at_first db opening ys) b a f h broke (is_by_line by)
  ends_so outcome.Line broke e by r w some = (
    lines ++ new.line ∷ [],
    by_last new.last refl,
    subst (λ (o : Bool). IsUnderWay {T = Unit {0}} at start q first t (asks blocks at_first db opening (lines ++ new.line ∷ [])) b a f h broke o) (ap is_over some) (answered_way broke e w),
  )
    where
      took : Took left_before left_after taken_before taken_after (bytes ++ r.bytes)
      took = took_then left_before left left_after taken_before taken taken_after bytes r.bytes h_taken.took r.took

      by_last : (last : Bool) → new.last ≡ last → TookInput left_before left_after taken_before taken_after (lines ++ new.line ∷ []) by
      by_last true is = record {
        bytes = bytes ++ r.bytes;
        rest = [];
        took = took;
        first = read_last bytes r.bytes lines old.buffered h_taken.read old.given new r.does is;
        ends = line_input (end_after w.reply) broke new.last by (bytes ++ r.bytes) [] (end_by_line w.reply) (λ l. refl) (sym w.is ∙ some);
      }
      by_last false is = record {
        bytes = bytes ++ r.bytes;
        rest = lines_of new.buffered;
        took = took;
        first = first_lines (bytes ++ r.bytes) (lines ++ new.line ∷ []) new.buffered (read_line bytes r.bytes lines old.buffered h_taken.read old.given new r.does is);
        ends = line_input (end_after w.reply) broke new.last by (bytes ++ r.bytes) (lines_of new.buffered) (end_by_line w.reply) (λ l. absurd (false≢true (sym is ∙ l))) (sym w.is ∙ some);
      }
  ends_so outcome.End broke e by r w some =
      let same : lines_end.EndOfInput ≡ by = same_Some lines_end.EndOfInput by (sym w.0.is ∙ some) in (
        lines,
        subst (TookInput left_before left_after taken_before taken_after lines) same
            (took_all lines_end.EndOfInput r.bytes r.took (ap lines_of r.does.buffered) (r.does.buffered ∙ sym r.does.none)),
        rested_way broke e by lines_end.EndOfInput some w.0 refl (okay broke w.1),
      )
  ends_so outcome.LineTooLong broke e by r w some =
      let same : lines_end.LineTooLong ≡ by = same_Some lines_end.LineTooLong by (sym w.0.is ∙ some) in (
        lines,
        subst (TookInput left_before left_after taken_before taken_after lines) same
            (took_all lines_end.LineTooLong r.bytes r.took (passed outcome.LineTooLong r.bytes r.does.limit) r.does.kept.buffered),
        rested_way broke e by lines_end.LineTooLong some w.0 refl (okay broke w.1),
      )
  ends_so outcome.InputTooLong broke e by r w some =
      let same : lines_end.ByteLimit ≡ by = same_Some lines_end.ByteLimit by (sym w.0.is ∙ some) in (
        lines,
        subst (TookInput left_before left_after taken_before taken_after lines) same
            (took_all lines_end.ByteLimit r.bytes r.took (passed outcome.InputTooLong r.bytes r.does.limit) r.does.kept.buffered),
        rested_way broke e by lines_end.ByteLimit some w.0 refl (okay broke w.1),
      )
  ends_so outcome.Failed broke e by r w some =
      let same : lines_end.ReadFault ≡ by = same_Some lines_end.ReadFault by (sym w.0.is ∙ some) in (
        lines,
        subst (TookInput left_before left_after taken_before taken_after lines) same
            (took_all lines_end.ReadFault r.bytes r.took tt r.does.buffered),
        rested_way broke e by lines_end.ReadFault some w.0 refl (okay broke w.1),
      )
