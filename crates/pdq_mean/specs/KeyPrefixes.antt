-- The key prefixes of cells, by which rows and choices are compared first.
use Rattle.std.specs.Prelude.{◌≡◌, ℕ, List, [], ◌∷◌, Bool, false, nat_lt, if◌then◌else◌, ℤ, pos, drop, length, min}
use Rattle.std.specs.Global.{Vec}
use Rattle.std.specs.Ordering.{int_cmp, nat_cmp, on, then_cmp}
use Rattle.std.specs.declared.cmp.Ordering.{Ordering}
use Rattle.pdq_value.specs.declared.cells.Cell.{Cell}
use Rattle.pdq_value.specs.declared.cells.Cell.TheVariants.{Nothing, Number, Words}
use Rattle.pdq_value.specs.Cells.{cell_at, rank_of, text_of}
use Rattle.pdq_value.specs.KeyPrefixes.{AreBytes, text_prefix}
use Rattle.pdq_query.specs.declared.query.At.{At}
use Rattle.pdq_query.specs.declared.query.Key.{Key}
use Rattle.pdq_query.specs.Queries.{QueryView}
use Rattle.pdq_mean.specs.declared.key_prefixes.KeyPrefix.{KeyPrefix}
use Rattle.pdq_mean.specs.declared.key_prefixes.Prefixed.{Prefixed}
use Rattle.pdq_mean.specs.Rows.{vector_cmp}

-- the number of a number, the key prefix of a text
abbrev pub prefix_number : Cell → ℤ
prefix_number Nothing = pos 0
prefix_number (Number z s) = z
prefix_number (Words t) = pos (text_prefix t)

-- the scale of a number, the length of a text up to 16
abbrev pub prefix_rest : Cell → ℕ
prefix_rest Nothing = 0
prefix_rest (Number z s) = s
prefix_rest (Words t) = min (length t) 16

-- this is the key prefix of the cell, whose text is bytes
pub record IsKeyPrefixOf (l : KeyPrefix) (c : Cell) : Type 0 where
  pub rank : l.rank ≡ rank_of c
  pub number : l.number ≡ prefix_number c
  pub rest : l.rest ≡ prefix_rest c
  pub bytes : AreBytes (text_of c)

-- by rank, then by number, then by the rest
abbrev pub prefix_cmp : KeyPrefix → KeyPrefix → Ordering
prefix_cmp = then_cmp (then_cmp (on (λ (l : KeyPrefix). l.rank) nat_cmp) (on (λ (l : KeyPrefix). l.number) int_cmp)) (on (λ (l : KeyPrefix). l.rest) nat_cmp)

-- no other cell has this prefix
abbrev pub is_whole : KeyPrefix → Bool
is_whole l = nat_lt l.rest 16

-- the key that rows are compared by first: where there is none, their first cells ascending
abbrev pub first_key : List Key → Key
first_key [] = record { item = 0; down = false }
first_key (k ∷ ks) = k

-- by prefixes, the greater first where the first key is descending
abbrev pub first_cmp : List Key → KeyPrefix → KeyPrefix → Ordering
first_cmp keys a b = if (first_key keys).down then prefix_cmp b a else prefix_cmp a b

-- rows by the prefixes of their cells at the first key, and then by the keys and the whole row
unfoldable pub prefixed_row_cmp : List Key → Prefixed (Vec Cell) → Prefixed (Vec Cell) → Ordering
prefixed_row_cmp keys = then_cmp (on (λ (l : Prefixed (Vec Cell)). l.prefix) (first_cmp keys)) (on (λ (l : Prefixed (Vec Cell)). l.item) (vector_cmp keys))

abbrev pub IsPrefixedRow : List Key → Prefixed (Vec Cell) → Type 0
IsPrefixedRow keys l = IsKeyPrefixOf l.prefix (cell_at (first_key keys).item l.item.items)

-- the group columns that tell choices apart whose prefixes tie
abbrev pub columns_left : QueryView → KeyPrefix → List At
columns_left q l = drop (if is_whole l then 1 else 0) q.groups
