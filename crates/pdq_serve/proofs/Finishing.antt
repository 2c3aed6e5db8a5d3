-- How a session ended, and what it told.
use Rattle.std.proofs.Common.{ℕ, ◌≡◌, ◌∙◌, List, [], Option, None, refl, sym, ap, subst, arith, inl}
use Rattle.std.specs.Prelude.{Result, Ok, Err}
use Rattle.std.specs.Result.{IsErr}
use Rattle.std.proofs.lemmas.Bool.{false≢true}
use Rattle.std.proofs.lemmas.List.{append-nil}
use Rattle.pdq_base.specs.Lines.{InputLine}
use Rattle.pdq_edge.proofs.Growing.{grows_none}
use Rattle.pdq_model.specs.Configuration.{Configuration}
use Rattle.pdq_office.specs.PassValue.{PassValue}
use Rattle.pdq_office.specs.Passes.{known}
use Rattle.pdq_serve.proofs.Saying.{took_none}
use Rattle.pdq_serve.specs.declared.ends.SessionEnd.{SessionEnd}
use Rattle.pdq_serve.specs.declared.ends.SessionEnd.TheVariants as session_end
use Rattle.pdq_serve.specs.declared.standings.LinesEnd.{LinesEnd}
use Rattle.pdq_serve.specs.declared.standings.LinesEnd.TheVariants as lines_end
use Rattle.pdq_talk.specs.declared.telling.Break.{Break}
use Rattle.pdq_talk.specs.declared.telling.Break.TheVariants as broke
use Rattle.pdq_serve.specs.Course.{EndedInput, EndsInput, HasCutShort, HasEnded, HasTold, IsCloseTold, TookInput, TookSession, broken_by, last_of}
use Rattle.pdq_serve.specs.Ends.{EndsAs, IsShut, end_of_break}
use Rattle.pdq_talk.specs.Lines.{Asked}

module _ (c : Configuration) (p q : PassValue) (opening steps : ℕ) (asked : List Asked) (b a : Option (List ℕ)) where
  cut : (z : Break) (e : SessionEnd) → e ≡ end_of_break z → HasCutShort c p q opening steps asked b a → HasEnded c p q opening steps asked b a e
  cut broke.Read e is h = subst (HasEnded c p q opening steps asked b a) (sym is) h
  cut broke.Write e is h = subst (HasEnded c p q opening steps asked b a) (sym is) h
  cut broke.Memory e is h = subst (HasEnded c p q opening steps asked b a) (sym is) h

  -- a session has told what belongs to its end
  pub ended_from : (by : LinesEnd) (o : Option ℕ) (told : Result (Unit {0}) Break) (e : SessionEnd) → EndsAs by told e → (by ≡ lines_end.ReadFault → IsErr told) → (by ≡ lines_end.Broken → IsErr told)
      → HasTold c p q opening steps asked b a (last_of by o) told → HasEnded c p q opening steps asked b a e
  ended_from lines_end.ReadFault o (Ok x) e is read broken h = absurd (false≢true (read refl))
  ended_from lines_end.ReadFault o (Err z) e is read broken h = subst (HasEnded c p q opening steps asked b a) (sym is) h
  ended_from lines_end.Broken o (Ok x) e is read broken h = absurd (false≢true (broken refl))
  ended_from lines_end.Broken o (Err z) e is read broken h = cut z e is h
  ended_from lines_end.Quit o (Ok x) e is read broken h = subst (HasEnded c p q opening steps asked b a) (sym is) h
  ended_from lines_end.Quit o (Err z) e is read broken h = cut z e is h
  ended_from lines_end.Shutdown o (Ok x) (session_end.Shutdown seen) is read broken h = h
  ended_from lines_end.Shutdown o (Ok x) other is read broken h = absurd is
  ended_from lines_end.Shutdown o (Err z) e is read broken h = cut z e is h
  ended_from lines_end.EndOfInput o (Ok x) e is read broken h = subst (HasEnded c p q opening steps asked b a) (sym is) (o, h)
  ended_from lines_end.EndOfInput o (Err z) e is read broken h = cut z e is h
  ended_from lines_end.LineTooLong o (Ok x) e is read broken h = subst (HasEnded c p q opening steps asked b a) (sym is) (o, h)
  ended_from lines_end.LineTooLong o (Err z) e is read broken h = cut z e is h
  ended_from lines_end.ByteLimit o (Ok x) e is read broken h = subst (HasEnded c p q opening steps asked b a) (sym is) (o, h)
  ended_from lines_end.ByteLimit o (Err z) e is read broken h = cut z e is h

-- and its input is as its end says
cut_input : (z : Break) (e : SessionEnd) (bytes : List ℕ) (rest : List InputLine) → e ≡ end_of_break z → EndedInput e bytes rest
cut_input broke.Read e bytes rest is = subst (λ (x : SessionEnd). EndedInput x bytes rest) (sym is) tt
cut_input broke.Write e bytes rest is = subst (λ (x : SessionEnd). EndedInput x bytes rest) (sym is) tt
cut_input broke.Memory e bytes rest is = subst (λ (x : SessionEnd). EndedInput x bytes rest) (sym is) tt

input_from : (by : LinesEnd) (told : Result (Unit {0}) Break) (e : SessionEnd) (bytes : List ℕ) (rest : List InputLine) → EndsAs by told e → EndsInput by bytes rest → EndedInput e bytes rest
input_from lines_end.ReadFault told e bytes rest is h = subst (λ (x : SessionEnd). EndedInput x bytes rest) (sym is) tt
input_from lines_end.Broken (Ok x) e bytes rest is h = subst (λ (x : SessionEnd). EndedInput x bytes rest) (sym is) tt
input_from lines_end.Broken (Err z) e bytes rest is h = cut_input z e bytes rest is
input_from lines_end.Quit (Ok x) e bytes rest is h = subst (λ (x : SessionEnd). EndedInput x bytes rest) (sym is) tt
input_from lines_end.Quit (Err z) e bytes rest is h = cut_input z e bytes rest is
input_from lines_end.Shutdown (Ok x) (session_end.Shutdown seen) bytes rest is h = tt
input_from lines_end.Shutdown (Ok x) other bytes rest is h = absurd is
input_from lines_end.Shutdown (Err z) e bytes rest is h = cut_input z e bytes rest is
input_from lines_end.EndOfInput (Ok x) e bytes rest is h = subst (λ (x : SessionEnd). EndedInput x bytes rest) (sym is) h
input_from lines_end.EndOfInput (Err z) e bytes rest is h = cut_input z e bytes rest is
input_from lines_end.LineTooLong (Ok x) e bytes rest is h = subst (λ (x : SessionEnd). EndedInput x bytes rest) (sym is) h
input_from lines_end.LineTooLong (Err z) e bytes rest is h = cut_input z e bytes rest is
input_from lines_end.ByteLimit (Ok x) e bytes rest is h = subst (λ (x : SessionEnd). EndedInput x bytes rest) (sym is) h
input_from lines_end.ByteLimit (Err z) e bytes rest is h = cut_input z e bytes rest is

pub took_session : (l0 l1 : Option (List ℕ)) (t0 t1 : ℕ) (lines : List (List ℕ)) (by : LinesEnd) (told : Result (Unit {0}) Break) (e : SessionEnd) → EndsAs by told e → TookInput l0 l1 t0 t1 lines by → TookSession l0 l1 t0 t1 lines e
took_session l0 l1 t0 t1 lines by told e is t = record { bytes = t.bytes; rest = t.rest; took = t.took; first = t.first; ends = input_from by told e t.bytes t.rest is t.ends }

-- nothing was written at the close where the source failed
pub read_breaks : (by : LinesEnd) (told then : Result (Unit {0}) Break) (b a : Option (List ℕ)) (f g : ℕ) (line : List ℕ) → IsCloseTold (broken_by by told) then b a f g line → by ≡ lines_end.ReadFault → IsErr then
read_breaks by told then b a f g line w is = go told (subst (λ (x : LinesEnd). IsCloseTold (broken_by x told) then b a f g line) is w)
  where
    go : (t : Result (Unit {0}) Break) → IsCloseTold (broken_by lines_end.ReadFault t) then b a f g line → IsErr then
    go (Ok x) y = ap Rattle.std.specs.Prelude.is_err y.0
    go (Err z) y = ap Rattle.std.specs.Prelude.is_err y.0

-- nor where it broke before
pub broken_breaks : (by : LinesEnd) (told then : Result (Unit {0}) Break) (b a : Option (List ℕ)) (f g : ℕ) (line : List ℕ) → IsCloseTold (broken_by by told) then b a f g line → IsErr told → by ≡ lines_end.Broken → IsErr then
broken_breaks by told then b a f g line w err is = go told err (subst (λ (x : LinesEnd). IsCloseTold (broken_by x told) then b a f g line) is w)
  where
    go : (t : Result (Unit {0}) Break) → IsErr t → IsCloseTold (broken_by lines_end.Broken t) then b a f g line → IsErr then
    go (Ok x) fails y = absurd (false≢true fails)
    go (Err z) fails y = ap Rattle.std.specs.Prelude.is_err y.0

never_shut : (e x : SessionEnd) → IsShut e → e ≡ x → IsShut x
never_shut e x shut is = subst IsShut is shut

-- by the end it is known what failed
not_read : (z : Break) (e : SessionEnd) → e ≡ end_of_break z → e ≡ session_end.ReadFault → ⊥
not_read broke.Read e is f = cc
not_read broke.Write e is f = cc
not_read broke.Memory e is f = cc

not_ended : (z : Break) (e : SessionEnd) → e ≡ end_of_break z → e ≡ session_end.EndOfInput → ⊥
not_ended broke.Read e is f = cc
not_ended broke.Write e is f = cc
not_ended broke.Memory e is f = cc

written : (z : Break) (e : SessionEnd) → e ≡ end_of_break z → e ≡ session_end.WriteFault → z ≡ broke.Write
written broke.Read e is f = cc
written broke.Write e is f = refl
written broke.Memory e is f = cc

pub read_by : (by : LinesEnd) (told : Result (Unit {0}) Break) (e : SessionEnd) → EndsAs by told e → e ≡ session_end.ReadFault → by ≡ lines_end.ReadFault
read_by lines_end.ReadFault told e is f = refl
read_by lines_end.Broken (Ok x) e is f = cc
read_by lines_end.Broken (Err z) e is f = absurd (not_read z e is f)
read_by lines_end.Quit (Ok x) e is f = cc
read_by lines_end.Quit (Err z) e is f = absurd (not_read z e is f)
read_by lines_end.EndOfInput (Ok x) e is f = cc
read_by lines_end.EndOfInput (Err z) e is f = absurd (not_read z e is f)
read_by lines_end.LineTooLong (Ok x) e is f = cc
read_by lines_end.LineTooLong (Err z) e is f = absurd (not_read z e is f)
read_by lines_end.ByteLimit (Ok x) e is f = cc
read_by lines_end.ByteLimit (Err z) e is f = absurd (not_read z e is f)
read_by lines_end.Shutdown (Ok x) e is f = absurd (never_shut e session_end.ReadFault is f)
read_by lines_end.Shutdown (Err z) e is f = absurd (not_read z e is f)

pub ended_by : (by : LinesEnd) (told : Result (Unit {0}) Break) (e : SessionEnd) → EndsAs by told e → e ≡ session_end.EndOfInput → by ≡ lines_end.EndOfInput
ended_by lines_end.ReadFault told e is f = cc
ended_by lines_end.EndOfInput told e is f = refl
ended_by lines_end.Broken (Ok x) e is f = cc
ended_by lines_end.Broken (Err z) e is f = absurd (not_ended z e is f)
ended_by lines_end.Quit (Ok x) e is f = cc
ended_by lines_end.Quit (Err z) e is f = absurd (not_ended z e is f)
ended_by lines_end.LineTooLong (Ok x) e is f = cc
ended_by lines_end.LineTooLong (Err z) e is f = absurd (not_ended z e is f)
ended_by lines_end.ByteLimit (Ok x) e is f = cc
ended_by lines_end.ByteLimit (Err z) e is f = absurd (not_ended z e is f)
ended_by lines_end.Shutdown (Ok x) e is f = absurd (never_shut e session_end.EndOfInput is f)
ended_by lines_end.Shutdown (Err z) e is f = absurd (not_ended z e is f)

pub write_by : (by : LinesEnd) (told : Result (Unit {0}) Break) (e : SessionEnd) → EndsAs by told e → e ≡ session_end.WriteFault → told ≡ Err broke.Write
write_by lines_end.ReadFault told e is f = cc
write_by lines_end.Broken (Ok x) e is f = cc
write_by lines_end.Broken (Err z) e is f = ap (λ (y : Break). Err y) (written z e is f)
write_by lines_end.Quit (Ok x) e is f = cc
write_by lines_end.Quit (Err z) e is f = ap (λ (y : Break). Err y) (written z e is f)
write_by lines_end.EndOfInput (Ok x) e is f = cc
write_by lines_end.EndOfInput (Err z) e is f = ap (λ (y : Break). Err y) (written z e is f)
write_by lines_end.LineTooLong (Ok x) e is f = cc
write_by lines_end.LineTooLong (Err z) e is f = ap (λ (y : Break). Err y) (written z e is f)
write_by lines_end.ByteLimit (Ok x) e is f = cc
write_by lines_end.ByteLimit (Err z) e is f = ap (λ (y : Break). Err y) (written z e is f)
write_by lines_end.Shutdown (Ok x) e is f = absurd (never_shut e session_end.WriteFault is f)
write_by lines_end.Shutdown (Err z) e is f = ap (λ (y : Break). Err y) (written z e is f)

-- a session that did nothing for want of memory
pub none_told : (c : Configuration) (p q : PassValue) (opening steps : ℕ) (b : Option (List ℕ)) → (known q).mine ≡ (known p).mine → HasEnded c p q opening steps [] b b session_end.Memory
none_told c p q opening steps b mine = record {
  written = [];
  made = [];
  grows = grows_none b;
  mine = mine ∙ sym (append-nil (known p).mine);
  is = record {
    exchanges = [];
    begun = None;
    front = [];
    cancel = [];
    back = [];
    closed = [];
    count = 0;
    lines = refl;
    replies = tt;
    within = omega arith;
    text = refl;
    spoken = refl;
    cancelled = tt;
    ends = inl (refl, refl);
    entries = refl;
  };
}

pub none_taken : (l : Option (List ℕ)) (t : ℕ) → TookSession l l t t [] session_end.Memory
none_taken l t = record { bytes = []; rest = []; took = took_none l t; first = record { front = []; told = refl; split = refl }; ends = tt }
