-- Fragments: where the rows of a table stand.
use Rattle.std.specs.Prelude.{ℕ, ◌+◌, ◌<◌, ◌≤◌, ◌≡◌, ◌%◌, List, Bool, true, false, not, ◌&&◌, ◌==◌, Option, Some, None, Contains, filter, length, map, pos, position, slice_index_or, unwrap_or}
use Rattle.std.specs.List.{enumerate_from}
use Rattle.std.specs.Ordering.{int_cmp, is_lt, nat_cmp}
use Rattle.std.specs.Cmp.Lexicographic.{slice_cmp}
use Rattle.std.specs.declared.cmp.Ordering.{Ordering}
use Rattle.std.specs.declared.cmp.Ordering.TheVariants.{Less, Equal, Greater}
use Rattle.pdq_value.specs.declared.shapes.Column.{Column}
use Rattle.pdq_value.specs.declared.shapes.Value.{Value}
use Rattle.pdq_value.specs.declared.shapes.Value.TheVariants.{Null, Number, Words}
use Rattle.pdq_schema.specs.declared.cuts.Range.{Range}
use Rattle.pdq_schema.specs.Schemas.{CutView, rounds, ranges, IsCutOf}

-- Null first, then numbers by value, then texts by bytes
abbrev pub value_cmp : Value → Value → Ordering
value_cmp Null Null = Equal
value_cmp Null (Number z) = Less
value_cmp Null (Words t) = Less
value_cmp (Number y) Null = Greater
value_cmp (Words t) Null = Greater
value_cmp (Number y) (Number z) = int_cmp y z
value_cmp (Number y) (Words t) = Less
value_cmp (Words t) (Number z) = Greater
value_cmp (Words t) (Words u) = slice_cmp nat_cmp t u

-- from <= v, a missing side holding always
abbrev pub is_from : Option Value → Value → Bool
is_from None v = true
is_from (Some a) v = not (is_lt (value_cmp v a))

-- v < below, a missing side holding always
abbrev pub is_below : Option Value → Value → Bool
is_below None v = true
is_below (Some b) v = is_lt (value_cmp v b)

abbrev pub is_there : Value → Bool
is_there Null = false
is_there (Number z) = true
is_there (Words t) = true

-- a range holds no Null
abbrev pub holds_value : Range → Value → Bool
holds_value r v = is_there v && (is_from r.from v && is_below r.below v)

-- the number of the first range that holds the value, from 0; behind the last where none does
abbrev pub range_number : List Range → Value → ℕ
range_number rs v = unwrap_or (position (λ (r : Range). holds_value r v) rs) (length rs)

abbrev pub value_at : ℕ → List Value → Value
value_at column row = slice_index_or row column (Number (pos 0))

-- the fragment of the row at this place, from 0: in turn, or by the first range that holds its value, the remainder being the last
abbrev pub fragment_number : CutView → ℕ → List Value → ℕ
fragment_number (rounds count) place row = place % count
fragment_number (ranges column rs) place row = range_number rs (value_at column row)

abbrev pub fragment_count : CutView → ℕ
fragment_count (rounds count) = count
fragment_count (ranges column rs) = length rs + 1

abbrev pub stands_in : CutView → ℕ → ℕ × List Value → Bool
stands_in cut fragment placed = fragment_number cut placed.0 placed.1 == fragment

-- what a row must have: the column of the ranges
abbrev pub CutsRow : CutView → List Value → Type 0
CutsRow (rounds count) row = (1 ≤ count) × (count ≤ 16)
CutsRow (ranges column rs) row = (column < length row) × (length rs ≤ 15)

-- the rows of a fragment with their places, in the order of the file
abbrev pub placed_rows : CutView → ℕ → List (List Value) → List (ℕ × List Value)
placed_rows cut fragment rows = filter (stands_in cut fragment) (enumerate_from 0 rows)

-- the rows of a fragment, in the order of the file
abbrev pub fragment_rows : CutView → ℕ → List (List Value) → List (List Value)
fragment_rows cut fragment rows = map (λ (placed : ℕ × List Value). placed.1) (placed_rows cut fragment rows)

-- the row at a place stands in a fragment
abbrev pub StandsIn : CutView → List (List Value) → ℕ → List Value → ℕ → Type 0
StandsIn cut rows place row fragment = Contains (placed_rows cut fragment rows) (place, row)

-- the one fragment in which the row at a place stands
pub record HasOneFragment (cut : CutView) (rows : List (List Value)) (place : ℕ) (row : List Value) : Type 0 where
  pub fragment : ℕ
  pub within : fragment < fragment_count cut
  pub stands : StandsIn cut rows place row fragment
  pub only : (other : ℕ) → StandsIn cut rows place row other → other ≡ fragment

-- a row without a value in the column of the ranges stands in the remainder, the last fragment
abbrev pub NullsStandInTheRemainder : Type 0
NullsStandInTheRemainder = (column : ℕ) (rs : List Range) (place : ℕ) (row : List Value) → value_at column row ≡ Null → fragment_number (ranges column rs) place row ≡ length rs

-- each row stands in exactly one fragment
abbrev pub RowsStandInOneFragment : Type 0
RowsStandInOneFragment = (columns : List Column) (cut : CutView) → IsCutOf columns cut → (rows : List (List Value)) (place : ℕ) (row : List Value) → Contains (enumerate_from 0 rows) (place, row) → HasOneFragment cut rows place row
