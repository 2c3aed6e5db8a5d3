-- Groups in a region: under the head of each bucket stands a tree by the further bits of their keys' hashes.
use Rattle.std.specs.Prelude.{◌≡◌, ◌≢◌, ℕ, zero, suc, nat_le, ◌+◌, ◌*◌, ◌/◌, ◌%◌, ◌^◌, ◌<◌, ℤ, List, [], ◌∷◌, ◌++◌, length, map, take, slice_index_or, Bool, true, false, Option, Some, None}
use Rattle.std.specs.List.{fold}
use Rattle.pdq_spill.specs.Hashes.{group_factor, mixed, reduced}
use Rattle.pdq_frame.specs.Regions.{RegionView, Row, Children, room, no_children, child_on, link_at}

-- the bits of a hash that its reduction to a head leaves over, the first of them on top
abbrev pub further : ℕ → ℕ → ℕ
further heads hash = (hash * heads) % 2 ^ 64

-- the side to which the top bit leads
abbrev pub side : ℕ → Bool
side bits = nat_le (2 ^ 63) bits

-- the bits behind the top one; when all are used up it is side false for ever
abbrev pub rest : ℕ → ℕ
rest bits = (bits * 2) % 2 ^ 64

-- the hash of a key; the factor is that of groupers alone
unfoldable pub hash_of : List ℤ → ℕ
hash_of key = fold (mixed group_factor) 0 key

-- the head under which a key is looked for
abbrev pub bucket_of : ℕ → List ℤ → ℕ
bucket_of heads key = reduced heads (hash_of key)

-- the bits by which a key is looked for under its head
abbrev pub bits_of : ℕ → List ℤ → ℕ
bits_of heads key = further heads (hash_of key)

-- the words of the rows of a region
abbrev pub words_in : RegionView → List (List ℤ)
words_in r = map (λ row. row.words) r.rows

abbrev pub no_row : Row
no_row = record { words = []; link = None }

-- the key of a row of a region
abbrev pub key_at : ℕ → List Row → ℕ → List ℤ
key_at n rows i = take n (slice_index_or rows i no_row).words

-- the row after so many steps by these bits, if the walk comes so far
abbrev pub walk : List Children → ℕ → Option ℕ → ℕ → Option ℕ
walk cs zero at bits = at
walk cs (suc n) None bits = None
walk cs (suc n) (Some s) bits = walk cs n (child_on (slice_index_or cs s no_children) (side bits)) (rest bits)

-- the walk by these bits comes to the row
pub record Reaches (cs : List Children) (at : Option ℕ) (bits s : ℕ) : Type 0 where
  pub steps : ℕ
  pub there : walk cs steps at bits ≡ Some s

-- no child was lost
pub record Grown (cs ds : List Children) : Type 0 where
  pub keeps : (s : ℕ) (right : Bool) (c : ℕ) → child_on (slice_index_or cs s no_children) right ≡ Some c → child_on (slice_index_or ds s no_children) right ≡ Some c

-- no row has a link, and the walk by each row's own key comes to it
pub record AreTrees (n : ℕ) (r : RegionView) : Type 0 where
  pub children : length r.children ≡ length r.rows
  pub alone : (s : ℕ) → s < length r.rows → link_at r s ≡ None
  pub reached : (s : ℕ) → s < length r.rows → Reaches r.children (slice_index_or r.heads (bucket_of (length r.heads) (key_at n r.rows s)) None) (bits_of (length r.heads) (key_at n r.rows s)) s

-- a row of this key, or there is none
abbrev pub Found : ℕ → RegionView → List ℤ → Option ℕ → Type 0
Found n r key None = (i : ℕ) → i < length r.rows → key_at n r.rows i ≢ key
Found n r key (Some s) = (s < length r.rows) × (key_at n r.rows s ≡ key)

-- a row was added, or there was no room
abbrev pub Added : Bool → RegionView → RegionView → List ℤ → Type 0
Added false old new words = (new ≡ old) × (room old ≡ 0)
Added true old new words = (words_in new ≡ words_in old ++ words ∷ []) × (0 < room old)
