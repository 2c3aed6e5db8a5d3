-- The orders of cells and rows are total, and tie only what is the same.
use Rattle.std.proofs.Common.{◌≡◌, ℕ, suc, List, [], ◌∷◌, ◌+◌, ◌<◌, min, length, drop, get_or, refl, sym, ap, ap₂, ◌∙◌, ℤ, true≢false, nat_cmp, int_cmp, is_lt, is_gt, arith, add-one}
use Rattle.std.specs.Cmp.{IsTotalOrder}
use Rattle.std.specs.Cmp.Lexicographic.{slice_cmp}
use Rattle.std.specs.Ordering.{ordering_then}
use Rattle.std.specs.declared.cmp.Ordering.{Ordering}
use Rattle.std.specs.declared.cmp.Ordering.TheVariants.{Less, Equal, Greater}
use Rattle.std.proofs.Math.Seq.{drop-cons}
use Rattle.std.proofs.lemmas.Cmp.{then_total, nat_cmp_total, int_cmp_total, on_total, nat_list_cmp_total, lists_total, ranked, int_ranked}
use Rattle.std.proofs.lemmas.Bool.Decides.{nat_tests}
use Rattle.std.proofs.lemmas.List.{length-drop}
use Rattle.pdq_base.specs.Sorting.{IsLinearOrder}
use Rattle.pdq_value.specs.declared.cells.Cell.{Cell}
use Rattle.pdq_value.specs.declared.cells.Cell.TheVariants.{Nothing, Number, Words}
use Rattle.pdq_value.specs.Cells.{rank_of, number_of, scale_of, text_of, cell_cmp, row_cmp}

-- both orders tie
pub both_tie : (a b : Ordering) → ordering_then a b ≡ Equal → (a ≡ Equal) × (b ≡ Equal)
both_tie Less b e = absurd (true≢false (ap is_lt e))
both_tie Equal b e = (refl, e)
both_tie Greater b e = absurd (true≢false (ap is_gt e))

nat_same : (x y : ℕ) → nat_cmp x y ≡ Equal → x ≡ y
nat_same x y e = ranked x y Equal (sym e)

int_same : (x y : ℤ) → int_cmp x y ≡ Equal → x ≡ y
int_same x y e = int_ranked x y Equal (sym e)

lists_same : {X : Type 0} {cmp : X → X → Ordering} → ((x y : X) → cmp x y ≡ Equal → x ≡ y) → (xs ys : List X) → slice_cmp cmp xs ys ≡ Equal → xs ≡ ys
lists_same h [] [] e = refl
lists_same h [] (y ∷ ys) e = absurd (true≢false (ap is_lt e))
lists_same h (x ∷ xs) [] e = absurd (true≢false (ap is_gt e))
lists_same h (x ∷ xs) (y ∷ ys) e = let t = both_tie _ _ e in ap₂ (λ a us. a ∷ us) (h x y t.0) (lists_same h xs ys t.1)

cell_total : IsTotalOrder cell_cmp
unfolding cell_cmp
cell_total = then_total (on_total rank_of nat_cmp_total) (then_total (on_total number_of int_cmp_total) (then_total (on_total scale_of nat_cmp_total) (on_total text_of nat_list_cmp_total)))

by_parts : (a b : Cell) → rank_of a ≡ rank_of b → number_of a ≡ number_of b → scale_of a ≡ scale_of b → text_of a ≡ text_of b → a ≡ b
by_parts Nothing Nothing r n s t = refl
by_parts Nothing (Number z k) r n s t = absurd (omega (arith, r))
by_parts Nothing (Words v) r n s t = absurd (omega (arith, r))
by_parts (Number z k) Nothing r n s t = absurd (omega (arith, r))
by_parts (Number z k) (Number y l) r n s t = ap₂ Number n s
by_parts (Number z k) (Words v) r n s t = absurd (omega (arith, r))
by_parts (Words v) Nothing r n s t = absurd (omega (arith, r))
by_parts (Words v) (Number z k) r n s t = absurd (omega (arith, r))
by_parts (Words v) (Words u) r n s t = ap Words t

cell_same : (a b : Cell) → cell_cmp a b ≡ Equal → a ≡ b
unfolding cell_cmp
cell_same a b e =
    let r = both_tie (nat_cmp (rank_of a) (rank_of b)) _ e in
    let n = both_tie (int_cmp (number_of a) (number_of b)) _ r.1 in
    let s = both_tie (nat_cmp (scale_of a) (scale_of b)) _ n.1 in
    by_parts a b (nat_same _ _ r.0) (int_same _ _ n.0) (nat_same _ _ s.0) (lists_same nat_same _ _ s.1)

pub cell_cmp-IsLinearOrder : IsLinearOrder cell_cmp
cell_cmp-IsLinearOrder = record { total = cell_total; same = cell_same }

pub row_cmp-IsLinearOrder : IsLinearOrder row_cmp
row_cmp-IsLinearOrder = record { total = lists_total cell_total; same = lists_same cell_same }

-- the rest of two rows from a place that both have
pub row_cmp-more : (a b : List Cell) (i : ℕ) (x y : Cell) → i < length a → i < length b → x ≡ get_or a i x → y ≡ get_or b i y → row_cmp (drop i a) (drop i b) ≡ ordering_then (cell_cmp x y) (row_cmp (drop (i + 1) a) (drop (i + 1) b))
row_cmp-more a b i x y p q e f =
    let u : drop i a ≡ x ∷ drop (i + 1) a = rw add-one (drop-cons a i x p ∙ ap (λ z. z ∷ drop (suc i) a) (sym e)) in
    let v : drop i b ≡ y ∷ drop (i + 1) b = rw add-one (drop-cons b i y q ∙ ap (λ z. z ∷ drop (suc i) b) (sym f)) in
    rw (u, v) refl

ends : (xs ys : List Cell) (n : ℕ) → min (length xs) (length ys) ≡ 0 → row_cmp xs ys ≡ nat_cmp (n + length xs) (n + length ys)
ends [] [] n e = grind (arith, nat_tests)
ends [] (y ∷ ys) n e = grind (arith, nat_tests)
ends (x ∷ xs) [] n e = grind (arith, nat_tests)
ends (x ∷ xs) (y ∷ ys) n e = absurd (omega (arith, e))

-- from the end of the shorter on the lengths decide
pub row_cmp-end : (a b : List Cell) (i : ℕ) → i ≡ min (length a) (length b) → row_cmp (drop i a) (drop i b) ≡ nat_cmp (length a) (length b)
row_cmp-end a b i e = ends (drop i a) (drop i b) i (omega (arith, length-drop i a, length-drop i b)) ∙ (let l : i + length (drop i a) ≡ length a = omega (arith, length-drop i a) in let m : i + length (drop i b) ≡ length b = omega (arith, length-drop i b) in ap₂ nat_cmp l m)
