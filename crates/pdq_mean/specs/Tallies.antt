-- What the tallies of a query's items hold of the choices that they took in.
use Rattle.std.specs.Prelude.{⊤, ◌≡◌, ◌+◌, ◌*◌, ◌^◌, ◌<◌, ◌≤◌, ◌++◌, ℕ, List, [], ◌∷◌, All, pos, map, length, nat_abs, ◌==◌, ◌||◌, ◌&&◌, not, if◌then◌else◌}
use Rattle.std.specs.Ordering.{is_lt}
use Rattle.pdq_value.specs.declared.cells.Cell.{Cell}
use Rattle.pdq_value.specs.declared.cells.Cell.TheVariants as cell
use Rattle.pdq_value.specs.Averages.{average_of}
use Rattle.pdq_value.specs.Cells.{cell_cmp}
use Rattle.pdq_query.specs.declared.query.Item.{Item}
use Rattle.pdq_query.specs.declared.query.Item.TheVariants as item
use Rattle.pdq_query.specs.Conditions.{Choice, is_something}
use Rattle.pdq_query.specs.Folds.{greatest_of, least_of, scale_in, total_of, values_in}
use Rattle.pdq_mean.specs.declared.tallies.Tally.{Tally}
use Rattle.pdq_mean.specs.declared.tallies.Tally.TheVariants.{First, Sum, Average, Least, Greatest, Count}
use Rattle.pdq_mean.specs.declared.tallies.Total.{Total}
use Rattle.pdq_mean.specs.CellRefs.{cell_of_ref}
use Rattle.pdq_mean.specs.Groups.{first_cell}

abbrev pub item_of_tally : Tally → Item
item_of_tally (First at r) = item.Plain at
item_of_tally (Sum at t) = item.Sum at
item_of_tally (Average at t) = item.Avg at
item_of_tally (Least at r) = item.Min at
item_of_tally (Greatest at r) = item.Max at
item_of_tally Count = item.Count

-- the total of these cells
pub record IsTotalOf (cells : List Cell) (t : Total) : Type 0 where
  pub value : t.unscaled ≡ total_of cells
  pub scale : t.scale ≡ scale_in cells
  pub rows : t.rows ≡ length cells

-- it is the tally of these choices
abbrev pub IsTallyOf : List Choice → Tally → Type 0
IsTallyOf cs (First at r) = cell_of_ref r ≡ first_cell at cs
IsTallyOf cs (Sum at t) = IsTotalOf (values_in at cs) t
IsTallyOf cs (Average at t) = IsTotalOf (values_in at cs) t
IsTallyOf cs (Least at r) = cell_of_ref r ≡ least_of (values_in at cs)
IsTallyOf cs (Greatest at r) = cell_of_ref r ≡ greatest_of (values_in at cs)
IsTallyOf cs Count = ⊤

-- one tally of these choices for each item
pub record AreTalliesOf (items : List Item) (cs : List Choice) (tallies : List Tally) : Type 0 where
  pub one_each : map item_of_tally tallies ≡ items
  pub of_these : All (IsTallyOf cs) tallies

-- the tally of some choices becomes that of these and one more
pub record TakesIn (c : Choice) (old new : Tally) : Type 0 where
  pub item : item_of_tally new ≡ item_of_tally old
  pub more : (cs : List Choice) → 0 < length cs → IsTallyOf cs old → IsTallyOf (cs ++ c ∷ []) new

-- so does each
pub record AllTakeIn (c : Choice) (old new : List Tally) : Type 0 where
  pub items : map item_of_tally new ≡ map item_of_tally old
  pub more : (cs : List Choice) → 0 < length cs → All (IsTallyOf cs) old → All (IsTallyOf (cs ++ c ∷ [])) new

-- a total of no more values than these rows have
pub record IsTotalWithin (rows : ℕ) (t : Total) : Type 0 where
  pub size : nat_abs t.unscaled ≤ t.rows * 10 ^ 18
  pub few : t.rows ≤ rows
  pub places : t.scale ≤ 6

abbrev pub IsWithin : ℕ → Tally → Type 0
IsWithin rows (Sum at t) = IsTotalWithin rows t
IsWithin rows (Average at t) = IsTotalWithin rows t
IsWithin rows (First at r) = ⊤
IsWithin rows (Least at r) = ⊤
IsWithin rows (Greatest at r) = ⊤
IsWithin rows Count = ⊤

-- nothing over no value
abbrev pub sum_cell : Total → Cell
sum_cell t = if t.rows == 0 then cell.Nothing else cell.Number t.unscaled t.scale

abbrev pub average_of_total : Total → Cell
average_of_total t = if t.rows == 0 then cell.Nothing else cell.Number (average_of t.unscaled t.rows) (t.scale + 2)

-- the lesser of two cells that are there; where one is missing, the other
abbrev pub lesser_cell : Cell → Cell → Cell
lesser_cell a b = if not (is_something b) || (is_something a && is_lt (cell_cmp a b)) then a else b

-- what a tally of so many rows says
abbrev pub cell_of_tally : ℕ → Tally → Cell
cell_of_tally rows (First at r) = cell_of_ref r
cell_of_tally rows (Sum at t) = sum_cell t
cell_of_tally rows (Average at t) = average_of_total t
cell_of_tally rows (Least at r) = cell_of_ref r
cell_of_tally rows (Greatest at r) = cell_of_ref r
cell_of_tally rows Count = cell.Number (pos rows) 0
