-- Cells, rows of cells, and their order.
use Rattle.std.specs.Prelude.{ℕ, List, [], ℤ, pos, slice_index_or}
use Rattle.std.specs.Ordering.{nat_cmp, int_cmp, then_cmp, on}
use Rattle.std.specs.Cmp.Lexicographic.{slice_cmp}
use Rattle.std.specs.declared.cmp.Ordering.{Ordering}
use Rattle.pdq_value.specs.declared.cells.Cell.{Cell}
use Rattle.pdq_value.specs.declared.cells.Cell.TheVariants.{Nothing, Number, Words}
use Rattle.pdq_value.specs.declared.shapes.Kind.{Kind}
use Rattle.pdq_value.specs.declared.shapes.Kind.TheVariants as kind
use Rattle.pdq_value.specs.declared.shapes.Value.{Value}
use Rattle.pdq_value.specs.declared.shapes.Value.TheVariants as value

abbrev pub rank_of : Cell → ℕ
rank_of Nothing = 0
rank_of (Number z s) = 1
rank_of (Words t) = 2

abbrev pub number_of : Cell → ℤ
number_of (Number z s) = z
number_of Nothing = pos 0
number_of (Words t) = pos 0

abbrev pub scale_of : Cell → ℕ
scale_of (Number z s) = s
scale_of Nothing = 0
scale_of (Words t) = 0

abbrev pub text_of : Cell → List ℕ
text_of (Words t) = t
text_of Nothing = []
text_of (Number z s) = []

-- nothing first, then numbers by value (and by scale, where the scales differ), then texts by bytes
unfoldable pub cell_cmp : Cell → Cell → Ordering
cell_cmp = then_cmp (on rank_of nat_cmp) (then_cmp (on number_of int_cmp) (then_cmp (on scale_of nat_cmp) (on text_of (slice_cmp nat_cmp))))

-- by the first cell that differs
abbrev pub row_cmp : List Cell → List Cell → Ordering
row_cmp = slice_cmp cell_cmp

abbrev pub cell_at : ℕ → List Cell → Cell
cell_at i row = slice_index_or row i Nothing

-- the cell of a value in a column of this kind: nothing where there is no value
abbrev pub cell_of : Kind → Value → Cell
cell_of (kind.Number s) value.Null = Nothing
cell_of (kind.Number s) (value.Number z) = Number z s
cell_of (kind.Number s) (value.Words t) = Words t
cell_of kind.Words value.Null = Nothing
cell_of kind.Words (value.Number z) = Number z 0
cell_of kind.Words (value.Words t) = Words t
