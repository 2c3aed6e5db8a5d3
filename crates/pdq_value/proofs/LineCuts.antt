-- How bytes split at their first line end.
use Rattle.std.proofs.Common.{ℕ, zero, suc, ◌≡◌, ◌+◌, ◌-◌, ◌<◌, ◌∙◌, Bool, true, false, cond, List, [], ◌∷◌, length, take, drop, get_or, map, refl, ap, sym, arith, Some, None}
use Rattle.std.specs.Prelude.{◌==◌, position}
use Rattle.std.proofs.Math.Seq.{drop-length}
use Rattle.std.proofs.lemmas.List.Quantifiers.{position-Some}
use Rattle.pdq_base.specs.Lines.{InputLine, lines_of, onto, without_return}
use Rattle.pdq_value.specs.PlainTable.{line_text}
use Rattle.pdq_value.proofs.Cuts.{fails_nowhere, rest_is}

lines_at : (bytes : List ℕ) (end : ℕ) → end < length bytes → (get_or bytes end 0 == 10) ≡ true → ((k : ℕ) → k < end → (get_or bytes k 0 == 10) ≡ false) → lines_of bytes ≡ record { bytes = take end bytes; ended = true } ∷ lines_of (drop (suc end) bytes)
lines_at [] end within here before = absurd (omega (arith, within))
lines_at (b ∷ bytes) zero within here before = rw here refl
lines_at (b ∷ bytes) (suc end) within here before = rw (before 0 (omega arith)) (ap (onto b) (lines_at bytes end (omega (arith, within)) here (λ k less. before (suc k) (omega (arith, less)))))

no_lines_end : (b : ℕ) (bytes : List ℕ) → ((k : ℕ) → k < length (b ∷ bytes) → (get_or (b ∷ bytes) k 0 == 10) ≡ false) → lines_of (b ∷ bytes) ≡ record { bytes = b ∷ bytes; ended = false } ∷ []
no_lines_end b [] open_line = rw (open_line 0 (omega arith)) refl
no_lines_end b (c ∷ bytes) open_line = rw (open_line 0 (omega arith)) (ap (onto b) (no_lines_end c bytes (λ k less. open_line (suc k) (omega (arith, less)))))

-- a line end stands at this place first
pub line_cut : (bytes : List ℕ) (end : ℕ) → position (λ b. b == 10) bytes ≡ Some end → map line_text (lines_of bytes) ≡ without_return (take end bytes) ∷ map line_text (lines_of (take (length bytes - (end + 1)) (drop (end + 1) bytes)))
line_cut bytes end at =
    let t = position-Some (λ b. b == 10) bytes end 0 at in
    let e : suc end ≡ end + 1 = omega arith in
    ap (map line_text) (lines_at bytes end t.0 t.1 t.2)
    ∙ ap (λ n. without_return (take end bytes) ∷ map line_text (lines_of (drop n bytes))) e
    ∙ ap (λ rest. without_return (take end bytes) ∷ map line_text (lines_of rest)) (sym (rest_is bytes (end + 1)))

last_line_of : (bytes : List ℕ) → 0 < length bytes → ((k : ℕ) → k < length bytes → (get_or bytes k 0 == 10) ≡ false) → lines_of bytes ≡ record { bytes = bytes; ended = false } ∷ []
last_line_of [] some open_line = absurd (omega (arith, some))
last_line_of (b ∷ bytes) some open_line = no_lines_end b bytes open_line

-- no line end is there
pub last_line : (bytes : List ℕ) → 0 < length bytes → position (λ b. b == 10) bytes ≡ None → map line_text (lines_of bytes) ≡ without_return bytes ∷ map line_text (lines_of (take (length bytes - length bytes) (drop (length bytes) bytes)))
last_line bytes some nowhere =
    ap (map line_text) (last_line_of bytes some (λ k within. fails_nowhere (λ b. b == 10) bytes nowhere k 0 within))
    ∙ ap (λ rest. without_return bytes ∷ map line_text (lines_of rest)) (sym (rest_is bytes (length bytes) ∙ drop-length bytes))

some_from_onto : (b : ℕ) (lines : List InputLine) → (line : List ℕ) × (more : List (List ℕ)) × (map line_text (onto b lines) ≡ line ∷ more)
some_from_onto b [] = (_, _, refl)
some_from_onto b (line ∷ lines) = (_, _, refl)

by_end : (is_end : Bool) (b : ℕ) (lines : List InputLine) → (line : List ℕ) × (more : List (List ℕ)) × (map line_text (cond is_end (record { bytes = []; ended = true } ∷ lines) (onto b lines)) ≡ line ∷ more)
by_end true b lines = (_, _, refl)
by_end false b lines = some_from_onto b lines

-- where there are bytes, there is a line
pub some_line : (bytes : List ℕ) → 0 < length bytes → (line : List ℕ) × (more : List (List ℕ)) × (map line_text (lines_of bytes) ≡ line ∷ more)
some_line [] some = absurd (omega (arith, some))
some_line (b ∷ bytes) some = by_end (b == 10) b (lines_of bytes)
