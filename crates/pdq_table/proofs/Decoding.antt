-- Words decoded one after another.
use Rattle.std.proofs.Common.{ℕ, ◌≡◌, ◌<◌, ◌+◌, ◌∙◌, List, [], ◌∷◌, ◌++◌, length, drop, get_or, ap, ap₂, sym, add-one, append_assoc, ℤ}
use Rattle.std.proofs.Math.Seq.{drop-cons}
use Rattle.pdq_value.specs.declared.shapes.Column.{Column}
use Rattle.pdq_value.specs.declared.shapes.Value.{Value}
use Rattle.pdq_dict.specs.Coding.{decoded_row, value_of_word}

-- an element of a list and those after it
pub drop_at : {X : Type 0} (xs : List X) (i : ℕ) (x : X) → i < length xs → x ≡ get_or xs i x → drop i xs ≡ x ∷ drop (i + 1) xs
drop_at xs i x less is = drop-cons xs i x less ∙ ap₂ (λ (y : _) (n : ℕ). y ∷ drop n xs) (sym is) (sym (add-one i))

-- one value more
pub decoded_row-more : (texts : List (List ℕ)) (columns : List Column) (words : List ℤ) (i : ℕ) (c : Column) (w : ℤ) (before new : List Value) (v : Value) (all : List Value) →
    i < length columns → i < length words → c ≡ get_or columns i c → w ≡ get_or words i w → v ≡ value_of_word texts c.kind w → new ≡ before ++ v ∷ [] →
    all ≡ before ++ decoded_row texts (drop i columns) (drop i words) → all ≡ new ++ decoded_row texts (drop (i + 1) columns) (drop (i + 1) words)
decoded_row-more texts columns words i c w before new v all less within here there is pushed so_far =
    let rest : List Value = decoded_row texts (drop (i + 1) columns) (drop (i + 1) words) in
    let next : decoded_row texts (drop i columns) (drop i words) ≡ v ∷ rest =
    ap₂ (decoded_row texts) (drop_at columns i c less here) (drop_at words i w within there) ∙ ap (λ (u : Value). u ∷ rest) (sym is) in
    so_far ∙ ap (λ (l : List Value). before ++ l) next ∙ sym (append_assoc before (v ∷ []) rest) ∙ ap (λ (l : List Value). l ++ rest) (sym pushed)
