-- Rows that are made one after another.
use Rattle.std.proofs.Common.{◌≡◌, ℕ, ◌+◌, List, [], ◌∷◌, ◌++◌, ◌∙◌, ap₂, sym, subst, All, refl, arith}
use Rattle.std.proofs.lemmas.List.Elements.{All-append, All-cons, All-nil}
use Rattle.std.proofs.lemmas.List.FromFn.{map-range_with_len_more}
use Rattle.pdq_value.specs.declared.shapes.Column.{Column}
use Rattle.pdq_value.specs.declared.shapes.Value.{Value}
use Rattle.pdq_value.specs.Tables.{IsRowOf}
use Rattle.pdq_make.specs.MadeTables.{first_rows}

-- the rows of the first numbers, each of its table's kinds
pub record AreMade (row : ℕ → List Value) (columns : List Column) (rows : List (List Value)) (count : ℕ) : Type 0 where
  pub value : rows ≡ first_rows row count
  pub kinds : All (IsRowOf columns) rows

first_rows-none : (row : ℕ → List Value) → first_rows row 0 ≡ []
unfolding first_rows
first_rows-none row = refl

first_rows-more : (row : ℕ → List Value) (count : ℕ) → first_rows row (count + 1) ≡ first_rows row count ++ row count ∷ []
unfolding first_rows
first_rows-more row count = map-range_with_len_more row 0 count count (omega arith)

pub made_none : (row : ℕ → List Value) (columns : List Column) (rows : List (List Value)) → rows ≡ [] → AreMade row columns rows 0
made_none row columns rows none = record { value = none ∙ sym (first_rows-none row); kinds = subst (All (IsRowOf columns)) (sym none) (All-nil (IsRowOf columns)) }

pub made_more : (row : ℕ → List Value) (columns : List Column) (rows new : List (List Value)) (count : ℕ) (next : List Value) → AreMade row columns rows count → IsRowOf columns next → next ≡ row count → new ≡ rows ++ next ∷ [] → AreMade row columns new (count + 1)
made_more row columns rows new count next made kinds is push = record {
  value = push ∙ ap₂ (λ (xs : List (List Value)) (x : List Value). xs ++ x ∷ []) made.value is ∙ sym (first_rows-more row count);
  kinds = subst (All (IsRowOf columns)) (sym push) (All-append (IsRowOf columns) rows (next ∷ []) made.kinds (All-cons (IsRowOf columns) next [] kinds (All-nil (IsRowOf columns))));
}
