-- The order of values, and what a comparison of a cell with a literal says of it.
use Rattle.std.proofs.Common.{◌≡◌, ℕ, List, Bool, true, false, refl, sym, ap, ◌∙◌, true≢false, is_lt, is_gt, ℤ, nat_cmp, int_cmp}
use Rattle.std.specs.Cmp.{IsStrictWeakOrder}
use Rattle.std.specs.Cmp.Lexicographic.{slice_cmp}
use Rattle.std.specs.Ordering.{is_eq, ordering_reverse, ordering_then}
use Rattle.std.specs.declared.cmp.Ordering.{Ordering}
use Rattle.std.specs.declared.cmp.Ordering.TheVariants.{Less, Equal, Greater}
use Rattle.std.proofs.lemmas.Cmp.{nat_cmp_total, tied_itself}
use Rattle.std.proofs.lemmas.List.MinMax.{ranks_by}
use Rattle.pdq_value.specs.declared.cells.Cell.{Cell}
use Rattle.pdq_value.specs.declared.cells.Cell.TheVariants as cell
use Rattle.pdq_value.specs.declared.shapes.Kind.{Kind}
use Rattle.pdq_value.specs.declared.shapes.Kind.TheVariants as kind
use Rattle.pdq_value.specs.declared.shapes.Value.{Value}
use Rattle.pdq_value.specs.declared.shapes.Value.TheVariants as value
use Rattle.pdq_value.specs.Cells.{cell_cmp, cell_of}
use Rattle.pdq_value.specs.Tables.{IsValueOf}
use Rattle.pdq_value.proofs.Orders.{cell_cmp-IsLinearOrder}
use Rattle.pdq_schema.specs.Fragments.{is_there, value_cmp}
use Rattle.pdq_query.specs.declared.query.Compare.{Compare}
use Rattle.pdq_query.specs.Conditions.{compares, holds}

-- a value as a cell without decimal places
abbrev as_cell : Value → Cell
as_cell value.Null = cell.Nothing
as_cell (value.Number z) = cell.Number z 0
as_cell (value.Words t) = cell.Words t

then_equal : (o : Ordering) → ordering_then o Equal ≡ o
then_equal Less = refl
then_equal Equal = refl
then_equal Greater = refl

numbers_alike : (y z : ℤ) (s : ℕ) → cell_cmp (cell.Number y s) (cell.Number z s) ≡ int_cmp y z
unfolding cell_cmp
numbers_alike y z s = ap (λ (o : Ordering). ordering_then (int_cmp y z) (ordering_then o Equal)) (tied_itself nat_cmp_total s) ∙ then_equal (int_cmp y z)

texts_alike : (t u : List ℕ) → cell_cmp (cell.Words t) (cell.Words u) ≡ slice_cmp nat_cmp t u
unfolding cell_cmp
texts_alike t u = refl

value_cmp-as_cell : (a b : Value) → value_cmp a b ≡ cell_cmp (as_cell a) (as_cell b)
unfolding cell_cmp
value_cmp-as_cell value.Null value.Null = refl
value_cmp-as_cell value.Null (value.Number z) = refl
value_cmp-as_cell value.Null (value.Words t) = refl
value_cmp-as_cell (value.Number y) value.Null = refl
value_cmp-as_cell (value.Words t) value.Null = refl
value_cmp-as_cell (value.Number y) (value.Number z) = sym (numbers_alike y z 0)
value_cmp-as_cell (value.Number y) (value.Words t) = refl
value_cmp-as_cell (value.Words t) (value.Number z) = refl
value_cmp-as_cell (value.Words t) (value.Words u) = refl

-- the first value is less
abbrev pub is_less : Value → Value → Bool
is_less a b = is_lt (value_cmp a b)

cells_rise : IsStrictWeakOrder (λ (a : Value) (b : Value). is_lt (cell_cmp (as_cell a) (as_cell b)))
cells_rise = ranks_by cell_cmp-IsLinearOrder.total as_cell

less-cells : (a b : Value) → is_less a b ≡ is_lt (cell_cmp (as_cell a) (as_cell b))
less-cells a b = ap is_lt (value_cmp-as_cell a b)

pub one_way : (a b : Value) → is_less a b ≡ true → is_less b a ≡ false
one_way a b e = less-cells b a ∙ cells_rise.one_way a b (sym (less-cells a b) ∙ e)

pub not_less : (a b c : Value) → is_less a b ≡ false → is_less b c ≡ false → is_less a c ≡ false
not_less a b c e f = less-cells a c ∙ cells_rise.chain a b c (sym (less-cells a b) ∙ e) (sym (less-cells b c) ∙ f)

greater-reverse : (o : Ordering) → is_gt (ordering_reverse o) ≡ is_lt o
greater-reverse Less = refl
greater-reverse Equal = refl
greater-reverse Greater = refl

pub greater-less : (a b : Value) → is_gt (value_cmp a b) ≡ is_less b a
greater-less a b =
    ap is_gt (value_cmp-as_cell a b ∙ (cell_cmp-IsLinearOrder.total.antisymm (as_cell a) (as_cell b) ∙ ap ordering_reverse (sym (value_cmp-as_cell b a))))
    ∙ greater-reverse (value_cmp b a)

as_cell-same : (a b : Value) → as_cell a ≡ as_cell b → a ≡ b
as_cell-same value.Null value.Null e = refl
as_cell-same value.Null (value.Number z) e = cc
as_cell-same value.Null (value.Words t) e = cc
as_cell-same (value.Number y) value.Null e = cc
as_cell-same (value.Words t) value.Null e = cc
as_cell-same (value.Number y) (value.Number z) e = cc
as_cell-same (value.Number y) (value.Words t) e = cc
as_cell-same (value.Words t) (value.Number z) e = cc
as_cell-same (value.Words t) (value.Words u) e = cc

equal_is : (o : Ordering) → is_eq o ≡ true → o ≡ Equal
equal_is Less e = absurd (true≢false (sym e))
equal_is Equal e = refl
equal_is Greater e = absurd (true≢false (sym e))

pub value_cmp-same : (a b : Value) → is_eq (value_cmp a b) ≡ true → a ≡ b
value_cmp-same a b e = as_cell-same a b (cell_cmp-IsLinearOrder.same (as_cell a) (as_cell b) (sym (value_cmp-as_cell a b) ∙ equal_is (value_cmp a b) e))

-- the comparison holds of a value that is there and a literal
pub record Compares (test : Compare) (w v : Value) : Type 0 where
  pub there : is_there w ≡ true
  pub holds : holds test (value_cmp w v) ≡ true

-- what a comparison of a cell with a literal says of their values
pub compares-values : (test : Compare) (k : Kind) (w v : Value) → IsValueOf k w → IsValueOf k v → compares test (cell_of k w) v ≡ true → Compares test w v
compares-values test (kind.Number s) value.Null v is are e = absurd (true≢false (sym e))
compares-values test (kind.Number s) (value.Number y) value.Null is are e = absurd (true≢false (sym e))
compares-values test (kind.Number s) (value.Number y) (value.Number z) is are e = record { there = refl; holds = ap (holds test) (sym (numbers_alike y z s)) ∙ e }
compares-values test (kind.Number s) (value.Number y) (value.Words u) is are e = absurd are
compares-values test (kind.Number s) (value.Words t) v is are e = absurd is
compares-values test kind.Words value.Null v is are e = absurd (true≢false (sym e))
compares-values test kind.Words (value.Words t) value.Null is are e = absurd (true≢false (sym e))
compares-values test kind.Words (value.Words t) (value.Words u) is are e = record { there = refl; holds = ap (holds test) (sym (texts_alike t u)) ∙ e }
compares-values test kind.Words (value.Words t) (value.Number z) is are e = absurd are
compares-values test kind.Words (value.Number y) v is are e = absurd is
