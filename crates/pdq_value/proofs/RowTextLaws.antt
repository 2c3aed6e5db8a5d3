-- What is printed of a row, cell by cell and byte by byte.
use Rattle.std.proofs.Common.{◌≡◌, ℕ, suc, ◌+◌, ◌-◌, ◌<◌, ◌≤◌, List, [], ◌∷◌, ◌++◌, length, take, drop, get_or, sym, ap, ◌∙◌, arith, subst, flat_map, add-one}
use Rattle.std.proofs.Math.Seq.{drop-cons}
use Rattle.std.proofs.lemmas.List.{append-nil, take_all, take-append-drop}
use Rattle.std.proofs.lemmas.List.Concat.{flat_map-append}
use Rattle.pdq_value.specs.declared.cells.Cell.{Cell}
use Rattle.pdq_value.specs.Appending.{AppendsPart}
use Rattle.pdq_value.specs.RowLines.{bar}
use Rattle.pdq_value.specs.RowText.{cell_text, row_text}
use Rattle.pdq_value.proofs.AppendingLaws.{AppendsPart-before, AppendsPart-after}

-- the first cell, and each further one behind a bar
abbrev pub behind_bar : Cell → List ℕ
behind_bar c = bar ∷ cell_text c

pub row_text-cons : (c : Cell) (cs : List Cell) → row_text (c ∷ cs) ≡ cell_text c ++ flat_map behind_bar cs
row_text-cons c [] = sym (append-nil (cell_text c))
row_text-cons c (d ∷ cs) = ap (λ t. cell_text c ++ bar ∷ t) (row_text-cons d cs)

pub row_text-first : (cells : List Cell) (first : Cell) → 1 ≤ length cells → first ≡ get_or cells 0 first → cell_text first ++ flat_map behind_bar (take (length cells - 1) (drop 1 cells)) ≡ row_text cells
row_text-first [] first p e = absurd (omega (arith, p))
row_text-first (c ∷ cs) first p e =
    let t : take (suc (length cs) - 1) cs ≡ cs = take_all (suc (length cs) - 1) cs (omega arith) in
    rw (t, e) (sym (row_text-cons c cs))

module _ {X : Type 0} (f : X → List ℕ) where
  split_at : (xs : List X) (i : ℕ) (x d : X) → i < length xs → x ≡ get_or xs i d → flat_map f xs ≡ flat_map f (take i xs) ++ (f x ++ flat_map f (drop (i + 1) xs))
  split_at xs i x d p e =
      let r : drop i xs ≡ x ∷ drop (i + 1) xs = rw add-one (drop-cons xs i d p ∙ ap (λ z. z ∷ drop (suc i) xs) (sym e)) in
      ap (flat_map f) (sym (take-append-drop i xs)) ∙ flat_map-append f (take i xs) (drop i xs) ∙ ap (λ t. flat_map f (take i xs) ++ flat_map f t) r

  -- a beginning of what one of several appends, after those before it
  pub AppendsPart-within : (xs : List X) (i : ℕ) (x d : X) (old mid new : List ℕ) → i < length xs → x ≡ get_or xs i d → mid ≡ old ++ flat_map f (take i xs) → AppendsPart mid new (f x) → AppendsPart old new (flat_map f xs)
  AppendsPart-within xs i x d old mid new p e m h = subst (AppendsPart old new) (sym (split_at xs i x d p e)) (AppendsPart-after old (flat_map f (take i xs)) mid new (f x ++ flat_map f (drop (i + 1) xs)) m (AppendsPart-before mid new (f x) (flat_map f (drop (i + 1) xs)) h))
