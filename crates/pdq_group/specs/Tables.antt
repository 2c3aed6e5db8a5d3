-- The groups of a pass: a table of groups in a region.
use Rattle.std.specs.Prelude.{◌≡◌, ℕ, ◌+◌, ◌-◌, ◌*◌, ◌<◌, ◌≤◌, ℤ, List, [], ◌∷◌, ◌++◌, length, map, drop, Bool, cond}
use Rattle.pdq_frame.specs.Regions.{RegionView, rows_per_frame}
use Rattle.pdq_spill.specs.Rows.{AreRows}
use Rattle.pdq_group.specs.declared.shape.Fold.{Fold}
use Rattle.pdq_group.specs.Folds.{no_states}
use Rattle.pdq_group.specs.Groups.{group_words, kept_keys, rows_beyond}
use Rattle.pdq_group.specs.Trees.{AreTrees}

-- how many words a group takes
abbrev pub group_width : ℕ → List Fold → ℕ
group_width keys folds = keys + 3 * length folds

-- how many groups stand in so many frames, of which one is heads
abbrev pub groups_in : ℕ → ℕ → List Fold → ℕ
groups_in frames keys folds = (frames - 1) * rows_per_frame (group_width keys folds)

-- a table as its callers see it: what is grouped, its frames, and the words of its groups
pub record TableView : Type 0 where
  pub keys : ℕ
  pub folds : List Fold
  pub frames : ℕ
  pub groups : List (List ℤ)

-- how many groups have room
abbrev pub room_of : TableView → ℕ
room_of t = groups_in t.frames t.keys t.folds

-- the table holds the groups of these rows, of the first keys for which there is room
pub record Holds (t : TableView) (rows : List (List ℤ)) : Type 0 where
  pub groups : t.groups ≡ map (group_words t.keys t.folds rows) (kept_keys t.keys (room_of t) rows)
  pub widths : AreRows (t.keys + length t.folds) rows

-- what stays with each call
pub record HasSameShape (old new : TableView) : Type 0 where
  pub keys : new.keys ≡ old.keys
  pub folds : new.folds ≡ old.folds
  pub frames : new.frames ≡ old.frames

-- one more row came, which is in a group where `taken` says so, and beyond the room else
pub record TookRow (taken : Bool) (new : TableView) (rows : List (List ℤ)) (row : List ℤ) : Type 0 where
  pub holds : Holds new (rows ++ row ∷ [])
  pub beyond : rows_beyond new.keys (room_of new) (rows ++ row ∷ []) ≡ rows_beyond new.keys (room_of new) rows ++ cond taken [] (row ∷ [])

-- what is kept of a table in a region, with the words of a group of no row and a buffer of so many words
pub record IsTable (keys : ℕ) (folds : List Fold) (r : RegionView) (none : List ℤ) (n : ℕ) : Type 0 where
  pub low : 1 ≤ group_width keys folds
  pub high : group_width keys folds ≤ 511
  pub width : r.width ≡ group_width keys folds
  pub heads : length r.heads ≡ 512
  pub frames : 2 ≤ r.frames
  pub trees : AreTrees keys r
  pub blank : length none ≡ group_width keys folds
  pub states : drop keys none ≡ no_states folds
  pub buffer : n ≡ group_width keys folds
