-- The values of a column that are there, one choice more, and their folds.
use Rattle.std.proofs.Common.{◌≡◌, ◌<◌, ◌+◌, ◌++◌, ℕ, List, [], ◌∷◌, Bool, true, false, cond, refl, sym, ap, ap₂, ◌∙◌, arith, length, filter, map, max, ℤ, pos, ◌+ℤ◌, append-nil, length-append, All}
use Rattle.std.specs.Prelude.{not, ◌&&◌, ◌||◌}
use Rattle.std.proofs.lemmas.Int.{ints}
use Rattle.std.proofs.lemmas.List.{map-append}
use Rattle.std.proofs.lemmas.List.Elements.{All-cons, All-nil, filter-append}
use Rattle.std.proofs.lemmas.List.Sorted.{All-permutation, length_permutation}
use Rattle.pdq_base.specs.Sorting.{in_order}
use Rattle.pdq_base.proofs.InOrder.{in_order-IsPermutation}
use Rattle.pdq_value.specs.declared.cells.Cell.{Cell}
use Rattle.pdq_value.specs.declared.cells.Cell.TheVariants.{Nothing, Number, Words}
use Rattle.pdq_value.specs.Cells.{cell_cmp, number_of, scale_of}
use Rattle.pdq_value.proofs.Orders.{cell_cmp-IsLinearOrder}
use Rattle.pdq_query.specs.declared.query.At.{At}
use Rattle.pdq_query.specs.Conditions.{Choice, cell_in, is_something}
use Rattle.pdq_query.specs.Folds.{greatest_of, least_of, scale_in, total_of, values_in}
use Rattle.pdq_mean.specs.Tallies.{lesser_cell}
use Rattle.pdq_mean.proofs.Columns.{scale_in-append, total_of-append}
use Rattle.pdq_mean.proofs.Extremes.{comes_before, greatest-one, greatest_step, least-one, least_step}

-- the cell, where it is there
abbrev pub if_there : Cell → List Cell
if_there c = cond (is_something c) (c ∷ []) []

pub values_in-more : (at : At) (cs : List Choice) (c : Choice) → values_in at (cs ++ c ∷ []) ≡ values_in at cs ++ if_there (cell_in c at)
values_in-more at cs c = ap (filter is_something) (map-append (λ d. cell_in d at) cs (c ∷ [])) ∙ filter-append is_something (map (λ d. cell_in d at) cs) (cell_in c at ∷ [])

abbrev IsThere : Cell → Type 0
IsThere c = is_something c ≡ true

kept_there : (cs : List Cell) → All IsThere (filter is_something cs)
kept_there [] = All-nil IsThere
kept_there (c ∷ cs) = by_first (is_something c) refl (kept_there cs)
  where
    by_first : (b : Bool) → is_something c ≡ b → All IsThere (filter is_something cs) → All IsThere (cond b (c ∷ filter is_something cs) (filter is_something cs))
    by_first true e h = All-cons IsThere c (filter is_something cs) e h
    by_first false e h = h

values_there : (at : At) (cs : List Choice) → All IsThere (values_in at cs)
values_there at cs = kept_there (map (λ c. cell_in c at) cs)

plus_zero : (z : ℤ) → z ≡ z +ℤ pos 0
plus_zero z = omega (arith, ints)

pub total_of-more : (cs : List Cell) (c : Cell) → total_of (cs ++ if_there c) ≡ total_of cs +ℤ number_of c
total_of-more cs Nothing = ap total_of (append-nil cs) ∙ plus_zero (total_of cs)
total_of-more cs (Number z s) = total_of-append cs (Number z s)
total_of-more cs (Words t) = total_of-append cs (Words t)

no_more : (n : ℕ) → n ≡ max n 0
no_more n = omega arith

pub scale_in-more : (cs : List Cell) (c : Cell) → scale_in (cs ++ if_there c) ≡ max (scale_in cs) (scale_of c)
scale_in-more cs Nothing = ap scale_in (append-nil cs) ∙ no_more (scale_in cs)
scale_in-more cs (Number z s) = scale_in-append cs (Number z s)
scale_in-more cs (Words t) = scale_in-append cs (Words t)

pub length-more : (cs : List Cell) (c : Cell) → length (cs ++ if_there c) ≡ length cs + cond (is_something c) 1 0
length-more cs Nothing = omega (arith, length-append cs [])
length-more cs (Number z s) = length-append cs (Number z s ∷ [])
length-more cs (Words t) = length-append cs (Words t ∷ [])

-- ---- the least and the greatest

-- the least of cells that are there is there
least_there : (cs : List Cell) → All IsThere cs → 0 < length cs → IsThere (least_of cs)
least_there cs h some =
    let sorted = in_order cell_cmp cs in
    let moved = in_order-IsPermutation cell_cmp-IsLinearOrder cs in
    let many : 0 < length sorted = omega (arith, length_permutation cs sorted moved, some) in
    All-permutation IsThere cs sorted moved h 0 Nothing many

-- nothing comes before what is there, and before nothing there is nothing
before_nothing : (c : Cell) → comes_before c Nothing ≡ false
unfolding cell_cmp
before_nothing Nothing = refl
before_nothing (Number z s) = refl
before_nothing (Words t) = refl

nothing_before : (c : Cell) → IsThere c → comes_before Nothing c ≡ true
unfolding cell_cmp
nothing_before Nothing e = absurd (let f : ⊥ = cc in f)
nothing_before (Number z s) e = refl
nothing_before (Words t) e = refl

lesser_there : (c m : Cell) → IsThere c → IsThere m → cond (comes_before c m) c m ≡ lesser_cell c m
lesser_there c m e f = sym (ap₂ (λ a b. cond (not a || (b && comes_before c m)) c m) f e)

lesser_first : (c : Cell) → c ≡ lesser_cell c Nothing
lesser_first c = refl

lesser_kept : (m : Cell) → m ≡ lesser_cell Nothing m
lesser_kept Nothing = refl
lesser_kept (Number z s) = refl
lesser_kept (Words t) = refl

least_with : (cs : List Cell) → All IsThere cs → (c : Cell) → IsThere c → least_of (cs ++ c ∷ []) ≡ lesser_cell c (least_of cs)
unfolding in_order
least_with [] h c e = sym (least-one c) ∙ lesser_first c
least_with (d ∷ cs) h c e = let some : 0 < length (d ∷ cs) = omega arith in least_step (d ∷ cs) c some ∙ lesser_there c (least_of (d ∷ cs)) e (least_there (d ∷ cs) h some)

pub least_of-more : (at : At) (cs : List Choice) (c : Cell) → least_of (values_in at cs ++ if_there c) ≡ lesser_cell c (least_of (values_in at cs))
least_of-more at cs Nothing = ap least_of (append-nil (values_in at cs)) ∙ lesser_kept (least_of (values_in at cs))
least_of-more at cs (Number z s) = least_with (values_in at cs) (values_there at cs) (Number z s) refl
least_of-more at cs (Words t) = least_with (values_in at cs) (values_there at cs) (Words t) refl

greater_kept : (m : Cell) → m ≡ cond (comes_before Nothing m) m Nothing
unfolding cell_cmp
greater_kept Nothing = refl
greater_kept (Number z s) = refl
greater_kept (Words t) = refl

greatest_with : (cs : List Cell) (c : Cell) → greatest_of (cs ++ c ∷ []) ≡ cond (comes_before c (greatest_of cs)) (greatest_of cs) c
unfolding in_order
greatest_with [] c = sym (greatest-one c) ∙ sym (ap (λ b. cond b Nothing c) (before_nothing c))
greatest_with (d ∷ cs) c = greatest_step (d ∷ cs) c (omega arith)

pub greatest_of-more : (cs : List Cell) (c : Cell) → greatest_of (cs ++ if_there c) ≡ cond (comes_before c (greatest_of cs)) (greatest_of cs) c
greatest_of-more cs Nothing = ap greatest_of (append-nil cs) ∙ greater_kept (greatest_of cs)
greatest_of-more cs (Number z s) = greatest_with cs (Number z s)
greatest_of-more cs (Words t) = greatest_with cs (Words t)

pub least-alone : (c : Cell) → c ≡ least_of (if_there c)
unfolding in_order
least-alone Nothing = refl
least-alone (Number z s) = least-one (Number z s)
least-alone (Words t) = least-one (Words t)

pub greatest-alone : (c : Cell) → c ≡ greatest_of (if_there c)
unfolding in_order
greatest-alone Nothing = refl
greatest-alone (Number z s) = greatest-one (Number z s)
greatest-alone (Words t) = greatest-one (Words t)
