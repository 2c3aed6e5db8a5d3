-- The rows that some owners keep, by the numbers of the owners.
use Rattle.std.proofs.Common.{◌≡◌, ℕ, zero, suc, ◌+◌, ◌<◌, List, [], ◌∷◌, ◌++◌, refl, sym, ap, ap₂, ◌∙◌, arith, length, map, flat_map, take, append_assoc, Some, ℤ}
use Rattle.std.specs.List.{range_with_len, slice_get}
use Rattle.std.specs.Global.{Vec}
use Rattle.std.proofs.lemmas.List.{map-append}
use Rattle.pdq_value.specs.declared.cells.Cell.{Cell}
use Rattle.pdq_mean.specs.Loops.{lists_of}
use Rattle.pdq_owner.specs.Keepers.{KeptView}
use Rattle.pdq_eval.specs.Owners.{gathered}
use Rattle.pdq_result.specs.Answers.{owner_rows, rows_kept}

from : (kept : List KeptView) (a : ℕ) (out : ℕ → List (List ℤ)) → ((j : ℕ) → j < length kept → out (a + j) ≡ owner_rows kept j) → flat_map out (range_with_len a (length kept)) ≡ rows_kept kept
from [] a out h = refl
from (k ∷ kept) a out h =
    let here : a + 0 ≡ a = omega arith in
    ap₂ (λ x y. x ++ y) (ap out (sym here) ∙ h 0 (omega arith)) (from kept (a + 1) out (λ j p. let next : a + 1 + j ≡ a + suc j = omega arith in ap out next ∙ h (suc j) (omega arith)))

-- what each of them keeps, owner after owner
pub gathered-owner_rows : (kept : List KeptView) → gathered (length kept) (owner_rows kept) ≡ rows_kept kept
gathered-owner_rows kept = from kept 0 (owner_rows kept) (λ j p. let same : 0 + j ≡ j = omega arith in ap (owner_rows kept) same)

pub gathered-rows_kept : (kept : List KeptView) (out : ℕ → List (List ℤ)) → ((j : ℕ) → j < length kept → out j ≡ owner_rows kept j) → gathered (length kept) out ≡ rows_kept kept
gathered-rows_kept kept out h = from kept 0 out (λ j p. let same : 0 + j ≡ j = omega arith in ap out same ∙ h j p)

-- one row more
next_row : (rows : List (List ℤ)) (i : ℕ) (row : List ℤ) → slice_get rows i ≡ Some row → take (i + 1) rows ≡ take i rows ++ row ∷ []
next_row [] i row e = cc
next_row (r ∷ rows) zero row e = let same : r ≡ row = cc in ap (λ x. x ∷ []) same
next_row (r ∷ rows) (suc i) row e = (let n : suc i + 1 ≡ suc (i + 1) = omega arith in ap (λ k. take k (r ∷ rows)) n) ∙ ap (λ l. r ∷ l) (next_row rows i row e)

pub lists_of-more : (read : List ℤ → List Cell) (rows : List (List ℤ)) (i : ℕ) (row : List ℤ) (before : List (List Cell)) (old new : List (Vec Cell)) (cells : Vec Cell) → slice_get rows i ≡ Some row → new ≡ old ++ cells ∷ [] → cells.items ≡ read row →
    lists_of old ≡ before ++ map read (take i rows) → lists_of new ≡ before ++ map read (take (i + 1) rows)
lists_of-more read rows i row before old new cells at pushed are so_far =
    ap lists_of pushed
    ∙ map-append (λ (v : Vec Cell). v.items) old (cells ∷ [])
    ∙ ap₂ (λ l r. l ++ r ∷ []) so_far are
    ∙ append_assoc before (map read (take i rows)) (read row ∷ [])
    ∙ ap (λ l. before ++ l) (sym (map-append read (take i rows) (row ∷ [])) ∙ ap (map read) (sym (next_row rows i row at)))
