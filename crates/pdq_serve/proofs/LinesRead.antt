-- Lines are taken of the input one after another.
use Rattle.std.proofs.Common.{ℕ, ◌≡◌, ◌∙◌, ◌≤◌, List, [], ◌∷◌, ◌++◌, length, map, Bool, true, false, refl, sym, ap, subst, arith, append_assoc}
use Rattle.std.specs.Prelude.{not, IsTrue}
use Rattle.std.proofs.lemmas.List.{append-nil}
use Rattle.pdq_base.specs.Lines.{InputLine, lines_of, size_of}
use Rattle.pdq_reply.specs.Reading.{Reader, bytes_of, GivesLine}
use Rattle.pdq_reply.proofs.Splitting.{IsOpenLine, open_before_end}
use Rattle.pdq_serve.proofs.Saying.{lines_of-line, lines_of-last}
use Rattle.pdq_serve.specs.LinesRead.{AreFirst, HasRead, says}

-- what was read of nothing
pub read_none : HasRead [] [] []
read_none = record { front = []; told = refl; each = λ more. refl }

told_then : (front : List InputLine) (line : InputLine) (lines : List (List ℕ)) (said : List ℕ) → map says front ≡ lines → says line ≡ said → map says (front ++ line ∷ []) ≡ lines ++ said ∷ []
told_then [] line lines said told is = ap (λ (x : List ℕ). x ∷ []) is ∙ ap (λ (l : List (List ℕ)). l ++ said ∷ []) told
told_then (x ∷ front) line lines said told is = ap (λ (l : List (List ℕ)). says x ∷ l) (told_then front line (map says front) said refl is) ∙ ap (λ (l : List (List ℕ)). l ++ said ∷ []) told

not_false : (e : Bool) → false ≡ not e → e ≡ true
not_false true is = refl
not_false false is = cc

not_true : (e : Bool) → true ≡ not e → e ≡ false
not_true true is = cc
not_true false is = refl

pub is_true : (b : Bool) → b ≡ true → IsTrue b
is_true true is = is
is_true false is = is

open_line : (before : ℕ) (bytes : List ℕ) (new : Reader) (g : GivesLine before bytes new) → IsOpenLine g.line.bytes
open_line before bytes new g = let P : List ℕ → Type 0 = IsOpenLine in subst P (sym (ap (λ (l : InputLine). l.bytes) g.first)) (open_before_end bytes)

-- the parts of the bytes, by whether the line has its end
parts : (before : ℕ) (bytes : List ℕ) (new : Reader) (g : GivesLine before bytes new) (e : Bool) → g.line.ended ≡ e → bytes ≡ bytes_of (record { bytes = g.line.bytes; ended = e }) ++ new.buffered
parts before bytes new g e is = g.whole ∙ ap (λ (t : Bool). bytes_of (record { bytes = g.line.bytes; ended = t }) ++ new.buffered) is

-- a line with its end, and what follows it
line_then : (before : ℕ) (bytes more : List ℕ) (new : Reader) (g : GivesLine before bytes new) → new.last ≡ false → lines_of (bytes ++ more) ≡ record { bytes = g.line.bytes; ended = true } ∷ lines_of (new.buffered ++ more)
line_then before bytes more new g goes =
    let i : bytes ≡ (g.line.bytes ++ 10 ∷ []) ++ new.buffered = parts before bytes new g true (not_false g.line.ended (sym goes ∙ g.last)) in
    ap (λ xs. lines_of (xs ++ more)) i ∙ ap lines_of (append_assoc (g.line.bytes ++ 10 ∷ []) new.buffered more ∙ append_assoc g.line.bytes (10 ∷ []) (new.buffered ++ more))
    ∙ lines_of-line g.line.bytes (new.buffered ++ more) (open_line before bytes new g)

last_line : (line : List ℕ) → 1 ≤ length line → IsOpenLine line → lines_of line ≡ record { bytes = line; ended = false } ∷ []
last_line [] some is_open = absurd (omega arith)
last_line (b ∷ line) some is_open = lines_of-last b line is_open

-- the last line, without an end
line_last : (before : ℕ) (bytes : List ℕ) (new : Reader) (g : GivesLine before bytes new) → new.last ≡ true → lines_of bytes ≡ record { bytes = g.line.bytes; ended = false } ∷ []
line_last before bytes new g ends =
    let i : bytes ≡ (g.line.bytes ++ []) ++ new.buffered = parts before bytes new g false (not_true g.line.ended (sym ends ∙ g.last)) in
    let none : new.buffered ≡ [] = g.none_left (is_true new.last ends) in
    let bytes_are : bytes ≡ g.line.bytes = i ∙ ap (λ xs. (g.line.bytes ++ []) ++ xs) none ∙ append-nil (g.line.bytes ++ []) ∙ append-nil g.line.bytes in
    let some : 1 ≤ length g.line.bytes = (let s : 1 ≤ size_of (record { bytes = g.line.bytes; ended = false }) = subst (λ (t : Bool). 1 ≤ size_of (record { bytes = g.line.bytes; ended = t })) (not_true g.line.ended (sym ends ∙ g.last)) g.some in omega arith) in
    ap lines_of bytes_are ∙ last_line g.line.bytes some (open_line before bytes new g)

module _ (bytes taken : List ℕ) (lines : List (List ℕ)) (left : List ℕ) (h : HasRead bytes lines left) (before : ℕ) (new : Reader) where
  -- more bytes came, of which no line was taken
  pub read_more : new.buffered ≡ left ++ taken → HasRead (bytes ++ taken) lines new.buffered
  read_more is = record {
    front = h.front;
    told = h.told;
    each = λ more. ap lines_of (append_assoc bytes taken more) ∙ h.each (taken ++ more) ∙ ap (λ (xs : List ℕ). h.front ++ lines_of xs) (sym (append_assoc left taken more) ∙ ap (λ (xs : List ℕ). xs ++ more) (sym is));
  }

  -- a line was
  pub read_line : GivesLine before (left ++ taken) new → new.last ≡ false → HasRead (bytes ++ taken) (lines ++ new.line ∷ []) new.buffered
  read_line g goes = record {
    front = h.front ++ record { bytes = g.line.bytes; ended = true } ∷ [];
    told = told_then h.front (record { bytes = g.line.bytes; ended = true }) lines new.line h.told (sym g.says);
    each = λ more. ap lines_of (append_assoc bytes taken more) ∙ h.each (taken ++ more)
        ∙ ap (λ (l : List InputLine). h.front ++ l) (ap lines_of (sym (append_assoc left taken more)) ∙ line_then before (left ++ taken) more new g goes)
        ∙ sym (append_assoc h.front (record { bytes = g.line.bytes; ended = true } ∷ []) (lines_of (new.buffered ++ more)));
  }

  -- the last one was
  pub read_last : GivesLine before (left ++ taken) new → new.last ≡ true → AreFirst (bytes ++ taken) (lines ++ new.line ∷ []) []
  read_last g ends = record {
    front = h.front ++ record { bytes = g.line.bytes; ended = false } ∷ [];
    told = told_then h.front (record { bytes = g.line.bytes; ended = false }) lines new.line h.told (sym g.says);
    split = h.each taken ∙ ap (λ (l : List InputLine). h.front ++ l) (line_last before (left ++ taken) new g ends) ∙ sym (append-nil (h.front ++ record { bytes = g.line.bytes; ended = false } ∷ []));
  }

-- the lines so far are the first ones
pub first_lines : (bytes : List ℕ) (lines : List (List ℕ)) (left : List ℕ) → HasRead bytes lines left → AreFirst bytes lines (lines_of left)
first_lines bytes lines left h = record {
  front = h.front;
  told = h.told;
  split = ap lines_of (sym (append-nil bytes)) ∙ h.each [] ∙ ap (λ (xs : List ℕ). h.front ++ lines_of xs) (append-nil left);
}
