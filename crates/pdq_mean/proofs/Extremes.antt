-- The least and the greatest of some cells.
use Rattle.std.proofs.Common.{◌≡◌, ◌<◌, ◌-◌, ◌++◌, ℕ, zero, suc, List, [], ◌∷◌, Bool, true, false, cond, refl, sym, ap, ap₂, ◌∙◌, arith, length, is_lt, IsPermutation, length-append, true≢false}
use Rattle.std.specs.Cmp.{IsStrictWeakOrder}
use Rattle.std.proofs.lemmas.List.Sorted.{IsPermutation-append_comm, length_permutation}
use Rattle.pdq_base.specs.Sorting.{in_order, in_order_by, put_in_place}
use Rattle.pdq_base.proofs.SortedLists.{Rises, after, tail}
use Rattle.pdq_base.proofs.InOrder.{in_order-IsPermutation, in_order-IsSorted, in_order-alike, order}
use Rattle.pdq_value.specs.declared.cells.Cell.{Cell}
use Rattle.pdq_value.specs.declared.cells.Cell.TheVariants.{Nothing}
use Rattle.pdq_value.specs.Cells.{cell_at, cell_cmp}
use Rattle.pdq_value.proofs.Orders.{cell_cmp-IsLinearOrder}
use Rattle.pdq_query.specs.Folds.{greatest_of, least_of}
use Rattle.std.proofs.lemmas.List.Sorted.{sorted_far}

abbrev pub comes_before : Cell → Cell → Bool
comes_before a b = is_lt (cell_cmp a b)

first_put : (c : Cell) (ys : List Cell) → 0 < length ys → cell_at 0 (put_in_place comes_before c ys) ≡ cond (comes_before c (cell_at 0 ys)) c (cell_at 0 ys)
first_put c [] h = absurd (omega arith)
first_put c (y ∷ ys) h = first_of (comes_before c y)
  where
    first_of : (b : Bool) → cell_at 0 (cond b (c ∷ y ∷ ys) (y ∷ put_in_place comes_before c ys)) ≡ cond b c y
    first_of true = refl
    first_of false = refl

moved : (cs : List Cell) (c : Cell) → IsPermutation (cs ++ c ∷ []) (c ∷ cs)
moved cs c = IsPermutation-append_comm cs (c ∷ [])

-- one cell more
pub least_step : (cs : List Cell) (c : Cell) → 0 < length cs → least_of (cs ++ c ∷ []) ≡ cond (comes_before c (least_of cs)) c (least_of cs)
unfolding in_order
least_step cs c h =
    let same : length (in_order_by comes_before cs) ≡ length cs = length_permutation cs _ (in_order-IsPermutation cell_cmp-IsLinearOrder cs) in
    ap (cell_at 0) (in_order-alike cell_cmp-IsLinearOrder (cs ++ c ∷ []) (c ∷ cs) (moved cs c)) ∙ first_put c (in_order_by comes_before cs) (omega arith)

weak : IsStrictWeakOrder comes_before
weak = order cell_cmp-IsLinearOrder

reaches : (c y l : Cell) (b : Bool) → comes_before c y ≡ true → comes_before l y ≡ false → comes_before c l ≡ b → b ≡ true
reaches c y l true e f g = refl
reaches c y l false e f g = absurd (true≢false (sym e ∙ weak.chain c l y g f))

last_put : (c : Cell) (ys : List Cell) (m : ℕ) → length ys ≡ suc m → Rises comes_before ys → cell_at (suc m) (put_in_place comes_before c ys) ≡ cond (comes_before c (cell_at m ys)) (cell_at m ys) c
last_put c [] m e h = absurd (omega (arith, e))
last_put c (y ∷ []) zero e h = last_of (comes_before c y)
  where
    last_of : (b : Bool) → cell_at 1 (cond b (c ∷ y ∷ []) (y ∷ c ∷ [])) ≡ cond b y c
    last_of true = refl
    last_of false = refl
last_put c (y ∷ []) (suc m) e h = absurd (omega (arith, e))
last_put c (y ∷ z ∷ zs) zero e h = absurd (omega (arith, e))
last_put c (y ∷ z ∷ zs) (suc m) e h =
    let l = cell_at m (z ∷ zs) in
    let deeper = last_put c (z ∷ zs) m (omega (arith, e)) (tail comes_before y (z ∷ zs) h) in
    let above : comes_before l y ≡ false = after comes_before y (z ∷ zs) h m Nothing (omega (arith, e)) in
    by_first c y z zs m (comes_before c y) refl above deeper
  where
    by_first : (c y z : Cell) (zs : List Cell) (m : ℕ) (b : Bool) → comes_before c y ≡ b → comes_before (cell_at m (z ∷ zs)) y ≡ false → cell_at (suc m) (put_in_place comes_before c (z ∷ zs)) ≡ cond (comes_before c (cell_at m (z ∷ zs))) (cell_at m (z ∷ zs)) c →
        cell_at (suc (suc m)) (cond b (c ∷ y ∷ z ∷ zs) (y ∷ put_in_place comes_before c (z ∷ zs))) ≡ cond (comes_before c (cell_at m (z ∷ zs))) (cell_at m (z ∷ zs)) c
    by_first c y z zs m true e f g = ap (λ b. cond b (cell_at m (z ∷ zs)) c) (sym (reaches c y (cell_at m (z ∷ zs)) (comes_before c (cell_at m (z ∷ zs))) e f refl))
    by_first c y z zs m false e f g = g

rising : (cs : List Cell) → Rises comes_before (in_order_by comes_before cs)
unfolding in_order
rising cs i j d p q = sorted_far comes_before weak (in_order_by comes_before cs) (in_order-IsSorted cell_cmp-IsLinearOrder cs) i j d (omega arith) q

pub greatest_step : (cs : List Cell) (c : Cell) → 0 < length cs → greatest_of (cs ++ c ∷ []) ≡ cond (comes_before c (greatest_of cs)) (greatest_of cs) c
unfolding in_order
greatest_step cs c h =
    let same : length (in_order_by comes_before cs) ≡ length cs = length_permutation cs _ (in_order-IsPermutation cell_cmp-IsLinearOrder cs) in
    let last : length (cs ++ c ∷ []) - 1 ≡ suc (length cs - 1) = omega (arith, length-append cs (c ∷ [])) in
    ap₂ cell_at last (in_order-alike cell_cmp-IsLinearOrder (cs ++ c ∷ []) (c ∷ cs) (moved cs c)) ∙ last_put c (in_order_by comes_before cs) (length cs - 1) (omega arith) (rising cs)

-- one cell
pub least-one : (c : Cell) → c ≡ least_of (c ∷ [])
unfolding in_order
least-one c = refl

pub greatest-one : (c : Cell) → c ≡ greatest_of (c ∷ [])
unfolding in_order
greatest-one c = refl
