-- Fragment elimination: which fragments of a table can hold a row that meets the filters on it.
use Rattle.std.specs.Prelude.{◌≡◌, ℕ, ◌<◌, List, [], ◌∷◌, All, Bool, false, not, ◌&&◌, ◌==◌, Option, Some, None, filter, length, map, max, option_and_then, slice_get, slice_index_or}
use Rattle.std.specs.List.{list_any, range_with_len}
use Rattle.std.specs.List.Sorted.{IsStrictlyIncreasing}
use Rattle.pdq_value.specs.declared.shapes.Value.{Value}
use Rattle.pdq_schema.specs.declared.cuts.Range.{Range}
use Rattle.pdq_schema.specs.Fragments.{fragment_count, range_number, value_cmp}
use Rattle.pdq_schema.specs.Schemas.{CutView, SchemaView, ranges, rounds}
use Rattle.pdq_query.specs.declared.query.Compare.{Compare}
use Rattle.pdq_query.specs.declared.query.Compare.TheVariants.{Eq, Ne, Lt, Le, Gt, Ge}
use Rattle.pdq_query.specs.declared.query.Filter.{Filter}
use Rattle.pdq_query.specs.declared.query.Filter.TheVariants.{Literal, Columns}
use Rattle.pdq_query.specs.Answer.{places}
use Rattle.pdq_query.specs.Conditions.{holds}
use Rattle.pdq_query.specs.Queries.{QueryView}

-- the sides of a fragment's range; the remainder, behind the last range, has none
abbrev pub from_of : List Range → ℕ → Option Value
from_of rs fragment = option_and_then (λ (r : Range). r.from) (slice_get rs fragment)

abbrev pub below_of : List Range → ℕ → Option Value
below_of rs fragment = option_and_then (λ (r : Range). r.below) (slice_get rs fragment)

-- there is a side, and it compares so with the value
abbrev pub side_compares : Option Value → Compare → Value → Bool
side_compares None test v = false
side_compares (Some side) test v = holds test (value_cmp side v)

-- no value for which the comparison with v holds stands in this fragment: v itself stands in one fragment alone, lesser values in no range from v or
-- above on, greater values in no range below v or less
abbrev pub excludes : List Range → Compare → Value → ℕ → Bool
excludes rs Eq v fragment = not (range_number rs v == fragment)
excludes rs Ne v fragment = false
excludes rs Lt v fragment = side_compares (from_of rs fragment) Ge v
excludes rs Le v fragment = side_compares (from_of rs fragment) Gt v
excludes rs Gt v fragment = side_compares (below_of rs fragment) Le v
excludes rs Ge v fragment = side_compares (below_of rs fragment) Le v

-- a comparison of the column of the ranges with a literal excludes fragments of the table at this place; nothing else excludes one
abbrev pub filter_excludes : CutView → ℕ → ℕ → Filter → Bool
filter_excludes (rounds count) place fragment f = false
filter_excludes (ranges column rs) place fragment (Literal a test v) = (a.table == place) && (a.column == column) && excludes rs test v fragment
filter_excludes (ranges column rs) place fragment (Columns a b) = false

-- the fragments of a table that no filter excludes, rising
abbrev pub left_of : CutView → ℕ → List Filter → List ℕ
left_of cut place fs = filter (λ fragment. not (list_any (filter_excludes cut place fragment) fs)) (range_with_len 0 (fragment_count cut))

-- how the table at a place in FROM is cut
abbrev pub cut_at : SchemaView → QueryView → ℕ → CutView
cut_at s q place = slice_index_or s.cuts (slice_index_or q.tables place 0) (rounds 1)

-- the fragments left of each table, in FROM order
abbrev pub fragments_left : SchemaView → QueryView → List (List ℕ)
fragments_left s q = map (λ place. left_of (cut_at s q place) place q.filters) (places q)

-- the greatest number of fragments left of a table, at least 1
abbrev pub widest_of : List (List ℕ) → ℕ
widest_of [] = 1
widest_of (fragments ∷ more) = max (length fragments) (widest_of more)

-- one list for each table, in FROM order, each of fragments that its table has, rising
pub record AreFragments (s : SchemaView) (q : QueryView) (left : List (List ℕ)) : Type 0 where
  pub one_each : length left ≡ length q.tables
  pub rising : All IsStrictlyIncreasing left
  pub within : (place : ℕ) → place < length q.tables → All (λ fragment. fragment < fragment_count (cut_at s q place)) (slice_index_or left place [])
