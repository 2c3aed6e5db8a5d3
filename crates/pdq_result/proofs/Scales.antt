-- The cells of an answer have at most eight decimal places.
use Rattle.std.proofs.Common.{All, ◌≡◌, ℕ, ◌+◌, ◌≤◌, List, [], ◌∷◌, Bool, true, false, cond, refl, sym, subst, arith, get_or, map, ℤ, IsPermutation}
use Rattle.std.specs.Global.{Vec}
use Rattle.std.proofs.lemmas.List.Elements.{All-cons, All-head, All-map, All-nil, All-tail}
use Rattle.std.proofs.lemmas.List.Sorted.{All-permutation, IsPermutation-map}
use Rattle.pdq_base.specs.Words.{is_null, word_at}
use Rattle.pdq_value.specs.declared.cells.Cell.{Cell}
use Rattle.pdq_value.specs.declared.shapes.Kind.{Kind}
use Rattle.pdq_value.specs.declared.shapes.Kind.TheVariants as kind
use Rattle.pdq_value.specs.Cells.{scale_of}
use Rattle.pdq_value.specs.Tables.{IsShape, ShapeView}
use Rattle.pdq_dict.specs.Coding.{cell_of_word}
use Rattle.pdq_query.specs.declared.query.At.{At}
use Rattle.pdq_query.specs.declared.query.Item.{Item}
use Rattle.pdq_query.specs.declared.query.Item.TheVariants as item
use Rattle.pdq_query.specs.Queries.{QueryView}
use Rattle.pdq_mean.specs.Loops.{lists_of}
use Rattle.pdq_eval.specs.Results.{item_of_nothing, kind_at, scale_of_kind, wide_cell}
use Rattle.pdq_result.specs.declared.sources.Source.{Source}
use Rattle.pdq_result.specs.declared.sources.Source.TheVariants.{Nothing, Column, Extreme, Wide, Count}
use Rattle.pdq_result.specs.Sources.{HasScale, cell_from, cells_from, group_source, group_sources, is_there, plain_source, words_of_item}
use Rattle.pdq_result.proofs.ColumnKinds.{scale_of_kind-few}

abbrev pub Small : Cell → Type 0
Small c = scale_of c ≤ 8

word_scale : (texts : List (List ℕ)) (k : Kind) (w : ℤ) (b : Bool) → is_null w ≡ b → scale_of_kind k ≤ 8 → Small (cell_of_word texts k w)
word_scale texts (kind.Number s) w true e h = rw e (omega arith)
word_scale texts (kind.Number s) w false e h = rw e h
word_scale texts kind.Words w true e h = rw e (omega arith)
word_scale texts kind.Words w false e h = rw e (omega arith)

wide_scale : (scale : ℕ) (low high : ℤ) (b : Bool) → is_null high ≡ b → scale ≤ 8 → Small (wide_cell scale low high)
wide_scale scale low high true e h = rw e (omega arith)
wide_scale scale low high false e h = rw e h

cell_scale : (texts : List (List ℕ)) (row : List ℤ) (s : Source) → HasScale s → Small (cell_from texts row s)
cell_scale texts row Nothing h = omega arith
cell_scale texts row (Column place k) h = word_scale texts k (word_at place row) (is_null (word_at place row)) refl h
cell_scale texts row (Extreme place k) h = word_scale texts k (word_at place row) (is_null (word_at place row)) refl h
cell_scale texts row (Wide place scale) h = wide_scale scale (word_at place row) (word_at (place + 1) row) (is_null (word_at (place + 1) row)) refl h
cell_scale texts row (Count place) h = omega arith

one_more : (b : Bool) (c : Cell) (cs : List Cell) → Small c → All Small cs → All Small (cond b (c ∷ cs) [])
one_more true c cs h k = All-cons Small c cs h k
one_more false c cs h k = All-nil Small

row_scales : (texts : List (List ℕ)) (row : List ℤ) (ss : List Source) → All HasScale ss → All Small (cells_from texts ss row)
row_scales texts row [] h = All-nil Small
row_scales texts row (s ∷ ss) h = one_more (is_there row s) (cell_from texts row s) (cells_from texts ss row) (cell_scale texts row s (All-head HasScale s ss h)) (row_scales texts row ss (All-tail HasScale s ss h))

-- the rows of some words, sorted
pub sorted_scales : (texts : List (List ℕ)) (ss : List Source) (ws : List (List ℤ)) (rows sorted : List (Vec Cell)) → All HasScale ss → lists_of rows ≡ map (cells_from texts ss) ws → IsPermutation rows sorted → All (All Small) (lists_of sorted)
sorted_scales texts ss ws rows sorted h made moved =
    All-permutation (All Small) (lists_of rows) (lists_of sorted) (IsPermutation-map (λ (v : Vec Cell). v.items) rows sorted moved)
    (subst (λ l. All (All Small) l) (sym made) (All-map (All Small) (cells_from texts ss) ws (λ k d p. row_scales texts (get_or ws k d) ss h)))

module _ (shapes : List ShapeView) (kinds : All IsShape shapes) (q : QueryView) where
  few : (a : At) → scale_of_kind (kind_at shapes q a) ≤ 8
  few a = let h = scale_of_kind-few shapes kinds q a in omega arith

  plain_scale : (cols : List At) (i : Item) → HasScale (plain_source shapes q cols i)
  plain_scale cols (item.Plain a) = few a
  plain_scale cols (item.Sum a) = tt
  plain_scale cols (item.Avg a) = tt
  plain_scale cols (item.Min a) = tt
  plain_scale cols (item.Max a) = tt
  plain_scale cols item.Count = tt

  pub plain_scales : (cols : List At) (items : List Item) → All HasScale (map (plain_source shapes q cols) items)
  plain_scales cols items = All-map HasScale (plain_source shapes q cols) items (λ k d p. plain_scale cols (get_or items k d))

  group_scale : (place : ℕ) (i : Item) → HasScale (group_source shapes q place i)
  group_scale place (item.Plain a) = few a
  group_scale place (item.Sum a) = few a
  group_scale place (item.Avg a) = let h = scale_of_kind-few shapes kinds q a in omega arith
  group_scale place (item.Min a) = few a
  group_scale place (item.Max a) = few a
  group_scale place item.Count = tt

  pub group_scales : (items : List Item) (place : ℕ) → All HasScale (group_sources shapes q items place)
  group_scales [] place = All-nil HasScale
  group_scales (i ∷ is) place = All-cons HasScale (group_source shapes q place i) (group_sources shapes q is (place + words_of_item i)) (group_scale place i) (group_scales is (place + words_of_item i))

nothing_scale : (i : Item) → Small (item_of_nothing i)
nothing_scale (item.Plain a) = omega arith
nothing_scale (item.Sum a) = omega arith
nothing_scale (item.Avg a) = omega arith
nothing_scale (item.Min a) = omega arith
nothing_scale (item.Max a) = omega arith
nothing_scale item.Count = omega arith

-- the one row of no row
pub nothing_scales : (items : List Item) → All (All Small) (map item_of_nothing items ∷ [])
nothing_scales items = All-cons (All Small) (map item_of_nothing items) [] (All-map Small item_of_nothing items (λ k d p. nothing_scale (get_or items k d))) (All-nil (All Small))
