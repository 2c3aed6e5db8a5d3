-- Rows and heads in frames.
use Rattle.std.proofs.Common.{◌≡◌, ◌≢◌, ℕ, zero, suc, ◌^◌, ◌+◌, ◌-◌, ◌*◌, ◌/◌, ◌%◌, ◌<◌, ◌≤◌, List, [], ◌∷◌, ◌++◌, length, set, get_or, take, drop, refl, sym, ap, ◌∙◌, subst, arith, map, ⊎_elim, ◌⊎◌, inl, inr, add-one}
use Rattle.std.specs.Prelude.{ℤ, pos, Option, Some, None, IfSome, slice_get, replicate, Bool, true, false}
use Rattle.std.specs.List.{range_with_len}
use mathlib.Core.Logic.{dite}
use native.Mathlib.Decide.{ℕ_discrete, dec_le}
use Rattle.std.proofs.Math.Nat.{mul-le-mul_right, mod-lt, lt-mul-div-succ, mul-le-mul_left, div-le_self, div-lt_iff_lt-mul}
use Rattle.std.proofs.lemmas.List.{append_assoc, length-set, length-take, take_at, drop_at, drop-drop, drop-take, take-take, take-append-le, get_or-drop, get_or-take, get_or_append_left, length_push, get_or_push, get_or_at, get_or-set_same, get_or-set_other, same_lists, length-replicate, get_or-replicate}
use Rattle.std.proofs.lemmas.List.FromFn.{length-map-range_with_len, get_or-map-range_with_len, map-range_with_len_more}
use Rattle.std.proofs.lemmas.Bool.{lt-ltb, le-ltb}
use Rattle.std.proofs.lemmas.Option.{slice_get-get_or, get_or_from_slice_get}
use Rattle.pdq_frame.specs.Frames.{placed, overwritten}
use Rattle.pdq_frame.proofs.Stocks.{overwritten_placed}
use Rattle.pdq_frame.specs.Regions.{Row, rows_per_frame, row_at, head_at, rows_of, heads_of, link_of, word_of, with_row, with_words, with_head, with_child, RegionView, IsRegion, IsLinked, AreLater, HasSameShape, cleared, Children, no_children, child_on, with_side, half_of, child_of, word_of_children, children_of, children_in, all_children, no_row, words_at, link_at, child_at}

-- a written frame, read again
module _ (fr : List ℤ) (at : ℕ) (row : List ℤ) (z : ℤ) (within : at ≤ length fr) where
  front : length (take at fr) ≡ at
  front = omega (arith, length-take at fr)

  pub placed_row : (w : ℕ) → length row ≡ w → take w (drop at (placed fr at row z)) ≡ row
  placed_row w e = ap (λ (ys : List ℤ). take w ys) (drop_at (take at fr) (row ++ z ∷ drop (at + (length row + 1)) fr) at front) ∙ take_at row (z ∷ drop (at + (length row + 1)) fr) w e

  pub placed_last : (w : ℕ) (d : ℤ) → length row ≡ w → get_or (placed fr at row z) (at + w) d ≡ z
  placed_last w d e = sym (get_or-drop at (placed fr at row z) w d) ∙ (ap (λ (ys : List ℤ). get_or ys w d) (drop_at (take at fr) (row ++ z ∷ drop (at + (length row + 1)) fr) at front) ∙ get_or_at row z (drop (at + (length row + 1)) fr) d w e)

  pub take_before : (k : ℕ) → k ≤ at → take k (placed fr at row z) ≡ take k fr
  take_before k l = take-append-le k (take at fr) (row ++ z ∷ drop (at + (length row + 1)) fr) (omega (arith, front)) ∙ take-take k at fr l

  pub row_before : (o w : ℕ) → o + w ≤ at → take w (drop o (placed fr at row z)) ≡ take w (drop o fr)
  row_before o w l = sym (drop-take o w (placed fr at row z)) ∙ (ap (λ (ys : List ℤ). drop o ys) (take_before (o + w) l) ∙ drop-take o w fr)

  pub word_before : (j : ℕ) (d : ℤ) → j < at → get_or (placed fr at row z) j d ≡ get_or fr j d
  word_before j d l = get_or_append_left (take at fr) (row ++ z ∷ drop (at + (length row + 1)) fr) d j (omega (arith, front)) ∙ get_or-take at fr j d l

  behind : drop (at + (length row + 1)) (placed fr at row z) ≡ drop (at + (length row + 1)) fr
  behind = sym (drop-drop (length row + 1) at (placed fr at row z))
      ∙ (ap (λ (ys : List ℤ). drop (length row + 1) ys) (drop_at (take at fr) (row ++ z ∷ drop (at + (length row + 1)) fr) at front ∙ sym (append_assoc row (z ∷ []) (drop (at + (length row + 1)) fr)))
      ∙ drop_at (row ++ z ∷ []) (drop (at + (length row + 1)) fr) (length row + 1) (length_push row z))

  pub drop_behind : (o : ℕ) → at + (length row + 1) ≤ o → drop o (placed fr at row z) ≡ drop o fr
  drop_behind o l =
      let k = at + (length row + 1) in
      let e : o ≡ k + (o - k) = omega arith in
      ap (λ (j : ℕ). drop j (placed fr at row z)) e ∙ (sym (drop-drop (o - k) k (placed fr at row z)) ∙ (ap (λ (ys : List ℤ). drop (o - k) ys) behind ∙ (drop-drop (o - k) k fr ∙ ap (λ (j : ℕ). drop j fr) (sym e))))

  pub word_behind : (j : ℕ) (d : ℤ) → at + (length row + 1) ≤ j → get_or (placed fr at row z) j d ≡ get_or fr j d
  word_behind j d l =
      let k = at + (length row + 1) in
      let e : j ≡ k + (j - k) = omega arith in
      ap (λ (i : ℕ). get_or (placed fr at row z) i d) e ∙ (sym (get_or-drop k (placed fr at row z) (j - k) d) ∙ (ap (λ (ys : List ℤ). get_or ys (j - k) d) behind ∙ (get_or-drop k fr (j - k) d ∙ ap (λ (i : ℕ). get_or fr i d) (sym e))))

-- where rows stand: p rows of w words and a link in a frame
module _ (w p : ℕ) (fits : p * (w + 1) ≤ 512) (some : 0 < p) where
  pub ends_within : (i : ℕ) → (i % p) * (w + 1) + w < 512
  ends_within i = let r : i % p < p = mod-lt i some in omega (arith, fits, mul-le-mul_right {m = i % p + 1} {n = p} (w + 1) (omega arith))

  pub apart : (i s : ℕ) → i ≢ s → i / p ≡ s / p → ((i % p) * (w + 1) + (w + 1) ≤ (s % p) * (w + 1)) ⊎ ((s % p) * (w + 1) + (w + 1) ≤ (i % p) * (w + 1))
  apart i s ne e =
      let m : p * (i / p) ≡ p * (s / p) = ap (λ (q : ℕ). p * q) e in
      let other : i % p ≢ s % p = omega (arith, m) in
      dite (dec_le (i % p + 1) (s % p))
      (λ l. inl (omega (arith, mul-le-mul_right {m = i % p + 1} {n = s % p} (w + 1) l)))
      (λ g. inr (omega (arith, mul-le-mul_right {m = s % p + 1} {n = i % p} (w + 1) (omega arith))))

pub rows_fit : (w : ℕ) → rows_per_frame w * (w + 1) ≤ 512
rows_fit w = omega arith

pub frame_within : (h n p i : ℕ) → 0 < p → i < (n - h) * p → h + i / p < n
frame_within h n p i some l = let d : i / p < n - h = (div-lt_iff_lt-mul {k = p} {x = i} {y = n - h} some).1 l in omega arith

pub some_fit : (w : ℕ) → w ≤ 511 → 0 < rows_per_frame w
some_fit w l = dite (dec_le 1 (512 / (w + 1))) (λ h. h) (λ g.
    let e : 512 / (w + 1) ≡ 0 = omega arith in
    let m : (w + 1) * (512 / (w + 1) + 1) ≡ (w + 1) * (0 + 1) = ap (λ (q : ℕ). (w + 1) * (q + 1)) e in
    absurd (omega (arith, m, lt-mul-div-succ 512 {b = w + 1} (omega arith))))

-- lists by a function of the index
module _ {X : Type 0} (f g : ℕ → X) (n : ℕ) where
  pub agree : ((i : ℕ) → i < n → f i ≡ g i) → map f (range_with_len 0 n) ≡ map g (range_with_len 0 n)
  agree e = same_lists _ _ (length-map-range_with_len f 0 n ∙ sym (length-map-range_with_len g 0 n))
      (λ k d l. let m : k < n = omega (arith, l, length-map-range_with_len f 0 n) in
      get_or-map-range_with_len f 0 n k k d m (omega arith) ∙ (e k m ∙ sym (get_or-map-range_with_len g 0 n k k d m (omega arith))))

  pub agree_set : (s : ℕ) (y : X) → s < n → f s ≡ y → ((i : ℕ) → i < n → i ≢ s → f i ≡ g i) → map f (range_with_len 0 n) ≡ set (map g (range_with_len 0 n)) s y
  agree_set s y within here e = same_lists _ _ (length-map-range_with_len f 0 n ∙ sym (length-set (map g (range_with_len 0 n)) s y ∙ length-map-range_with_len g 0 n))
      (λ k d l. let m : k < n = omega (arith, l, length-map-range_with_len f 0 n) in
      get_or-map-range_with_len f 0 n k k d m (omega arith) ∙ dite (ℕ_discrete k s)
      (λ is. ap f is ∙ (here ∙ sym (ap (λ (j : ℕ). get_or (set (map g (range_with_len 0 n)) s y) j d) is ∙ get_or-set_same (map g (range_with_len 0 n)) s y d (omega (arith, length-map-range_with_len g 0 n)))))
      (λ other. e k m other ∙ sym (get_or-set_other (map g (range_with_len 0 n)) s k y d other ∙ get_or-map-range_with_len g 0 n k k d m (omega arith))))

abbrev made : List ℤ → ℤ → Row
made words last = record { words = words; link = link_of last }

-- the row of a frame
abbrev row_in : ℕ → ℕ → List ℤ → Row
row_in at w frame = made (take w (drop at frame)) (get_or frame (at + w) (pos 0))

module _ (h w : ℕ) (fs : List (List ℤ)) (high : w ≤ 511) where
  -- the row s is written
  module _ (s : ℕ) (row : List ℤ) (z : ℤ) (wide : length row ≡ w) (within : h + s / rows_per_frame w < length fs) (long : length (get_or fs (h + s / rows_per_frame w) []) ≡ 512) where
    abbrev p : ℕ
    p = rows_per_frame w

    abbrev at : ℕ
    at = (s % rows_per_frame w) * (w + 1)

    abbrev fr : List ℤ
    fr = get_or fs (h + s / rows_per_frame w) []

    abbrev after : List (List ℤ)
    after = set fs (h + s / rows_per_frame w) (placed (get_or fs (h + s / rows_per_frame w) []) ((s % rows_per_frame w) * (w + 1)) row z)

    here : get_or after (h + s / rows_per_frame w) [] ≡ placed fr at row z
    here = get_or-set_same fs (h + s / rows_per_frame w) (placed fr at row z) [] within

    inside : at ≤ length fr
    inside = omega (arith, long, ends_within w p (rows_fit w) (some_fit w high) s)

    pub stored_row : row_at h w after s ≡ record { words = row; link = link_of z }
    stored_row = ap (row_in at w) here ∙ (ap (λ (ws : List ℤ). made ws (get_or (placed fr at row z) (at + w) (pos 0))) (placed_row fr at row z inside w wide) ∙ ap (made row) (placed_last fr at row z inside w (pos 0) wide))

    pub stored_other : (i : ℕ) → i ≢ s → row_at h w after i ≡ row_at h w fs i
    stored_other i ne = let o = (i % p) * (w + 1) in dite (ℕ_discrete (h + i / p) (h + s / p))
        (λ is. let there : get_or after (h + i / p) [] ≡ placed fr at row z = ap (λ (q : ℕ). get_or after q []) is ∙ here in
        ap (row_in o w) there ∙ (⊎_elim
        (λ l. ap (λ (ws : List ℤ). made ws (get_or (placed fr at row z) (o + w) (pos 0))) (row_before fr at row z inside o w (omega (arith, l))) ∙ ap (made (take w (drop o fr))) (word_before fr at row z inside (o + w) (pos 0) (omega (arith, l))))
        (λ l. ap (λ (ws : List ℤ). made (take w ws) (get_or (placed fr at row z) (o + w) (pos 0))) (drop_behind fr at row z inside o (omega (arith, l, wide))) ∙ ap (made (take w (drop o fr))) (word_behind fr at row z inside (o + w) (pos 0) (omega (arith, l, wide))))
        (apart w p (rows_fit w) (some_fit w high) i s ne (omega (arith, is))) ∙ ap (λ (q : ℕ). row_in o w (get_or fs q [])) (sym is)))
        (λ other. ap (row_in o w) (get_or-set_other fs (h + s / p) (h + i / p) (placed fr at row z) [] other))

    pub head_kept : (b : ℕ) → b / 512 < h → head_at after b ≡ head_at fs b
    head_kept b l = ap (λ (frame : List ℤ). link_of (get_or frame (b % 512) (pos 0))) (get_or-set_other fs (h + s / p) (b / 512) (placed fr at row z) [] (omega arith))

    pub heads_kept : heads_of h after ≡ heads_of h fs
    unfolding heads_of
    heads_kept = agree (head_at after) (head_at fs) (512 * h) (λ b l. head_kept b (omega arith))

    pub rows_put : s ≡ s → rows_of h w (s + 1) after ≡ rows_of h w s fs ++ record { words = row; link = link_of z } ∷ []
    unfolding rows_of
    rows_put _ = map-range_with_len_more (row_at h w after) 0 s s (omega arith) ∙ (ap (λ (rs : List Row). rs ++ row_at h w after s ∷ []) (agree (row_at h w after) (row_at h w fs) s (λ i l. stored_other i (omega arith))) ∙ ap (λ (r : Row). map (row_at h w fs) (range_with_len 0 s) ++ r ∷ []) stored_row)

    pub rows_written : (n : ℕ) → s < n → rows_of h w n after ≡ set (rows_of h w n fs) s (record { words = row; link = link_of z })
    unfolding rows_of
    rows_written n l = agree_set (row_at h w after) (row_at h w fs) n s (record { words = row; link = link_of z }) l stored_row (λ i m ne. stored_other i ne)

    pub stored_children : children_in h w after s ≡ children_of z
    stored_children = ap (λ (frame : List ℤ). children_of (get_or frame (at + w) (pos 0))) here ∙ ap (λ (x : ℤ). children_of x) (placed_last fr at row z inside w (pos 0) wide)

    pub others_children : (i : ℕ) → i ≢ s → children_in h w after i ≡ children_in h w fs i
    others_children i ne = let o = (i % p) * (w + 1) in dite (ℕ_discrete (h + i / p) (h + s / p))
        (λ is. let there : get_or after (h + i / p) [] ≡ placed fr at row z = ap (λ (q : ℕ). get_or after q []) is ∙ here in
        ap (λ (frame : List ℤ). children_of (get_or frame (o + w) (pos 0))) there ∙ (⊎_elim
        (λ l. ap (λ (x : ℤ). children_of x) (word_before fr at row z inside (o + w) (pos 0) (omega (arith, l))))
        (λ l. ap (λ (x : ℤ). children_of x) (word_behind fr at row z inside (o + w) (pos 0) (omega (arith, l, wide))))
        (apart w p (rows_fit w) (some_fit w high) i s ne (omega (arith, is))) ∙ ap (λ (q : ℕ). children_of (get_or (get_or fs q []) (o + w) (pos 0))) (sym is)))
        (λ other. ap (λ (frame : List ℤ). children_of (get_or frame (o + w) (pos 0))) (get_or-set_other fs (h + s / p) (h + i / p) (placed fr at row z) [] other))

    pub children_put : s ≡ s → all_children h w (s + 1) after ≡ all_children h w s fs ++ children_of z ∷ []
    unfolding all_children
    children_put _ = map-range_with_len_more (children_in h w after) 0 s s (omega arith) ∙ (ap (λ (cs : List Children). cs ++ children_in h w after s ∷ []) (agree (children_in h w after) (children_in h w fs) s (λ i l. others_children i (omega arith))) ∙ ap (λ (c : Children). map (children_in h w fs) (range_with_len 0 s) ++ c ∷ []) stored_children)

    pub children_written : (n : ℕ) → children_of z ≡ children_in h w fs s → all_children h w n after ≡ all_children h w n fs
    unfolding all_children
    children_written n e = agree (children_in h w after) (children_in h w fs) n (λ i l. dite (ℕ_discrete i s)
        (λ is. ap (λ (j : ℕ). children_in h w after j) is ∙ (stored_children ∙ (e ∙ ap (λ (j : ℕ). children_in h w fs j) (sym is))))
        (λ other. others_children i other))

  -- the word behind the row s is written
  module _ (s : ℕ) (z : ℤ) (within : h + s / rows_per_frame w < length fs) (long : length (get_or fs (h + s / rows_per_frame w) []) ≡ 512) where
    abbrev q : ℕ
    q = rows_per_frame w

    abbrev on : ℕ
    on = (s % rows_per_frame w) * (w + 1)

    abbrev stood : List ℤ
    stood = get_or fs (h + s / rows_per_frame w) []

    abbrev marked : List (List ℤ)
    marked = set fs (h + s / rows_per_frame w) (placed (get_or fs (h + s / rows_per_frame w) []) ((s % rows_per_frame w) * (w + 1) + w) [] z)

    marked_here : get_or marked (h + s / rows_per_frame w) [] ≡ placed stood (on + w) [] z
    marked_here = get_or-set_same fs (h + s / rows_per_frame w) (placed stood (on + w) [] z) [] within

    marked_in : on + w ≤ length stood
    marked_in = omega (arith, long, ends_within w q (rows_fit w) (some_fit w high) s)

    marked_last : get_or (placed stood (on + w) [] z) (on + w) (pos 0) ≡ z
    marked_last = ap (λ (j : ℕ). get_or (placed stood (on + w) [] z) j (pos 0)) (omega arith) ∙ placed_last stood (on + w) [] z marked_in 0 (pos 0) refl

    pub marked_row : link_of z ≡ link_of (get_or stood (on + w) (pos 0)) → row_at h w marked s ≡ row_at h w fs s
    marked_row e = ap (row_in on w) marked_here ∙ (ap (λ (ws : List ℤ). made ws (get_or (placed stood (on + w) [] z) (on + w) (pos 0))) (row_before stood (on + w) [] z marked_in on w (omega arith))
        ∙ ap (λ (l : Option ℕ). let r : Row = record { words = take w (drop on stood); link = l } in r) (ap (λ (x : ℤ). link_of x) marked_last ∙ e))

    pub marked_other : (i : ℕ) → i ≢ s → row_at h w marked i ≡ row_at h w fs i
    marked_other i ne = let o = (i % q) * (w + 1) in dite (ℕ_discrete (h + i / q) (h + s / q))
        (λ is. let there : get_or marked (h + i / q) [] ≡ placed stood (on + w) [] z = ap (λ (j : ℕ). get_or marked j []) is ∙ marked_here in
        ap (row_in o w) there ∙ (⊎_elim
        (λ l. ap (λ (ws : List ℤ). made ws (get_or (placed stood (on + w) [] z) (o + w) (pos 0))) (row_before stood (on + w) [] z marked_in o w (omega (arith, l))) ∙ ap (made (take w (drop o stood))) (word_before stood (on + w) [] z marked_in (o + w) (pos 0) (omega (arith, l))))
        (λ l. ap (λ (ws : List ℤ). made (take w ws) (get_or (placed stood (on + w) [] z) (o + w) (pos 0))) (drop_behind stood (on + w) [] z marked_in o (omega (arith, l))) ∙ ap (made (take w (drop o stood))) (word_behind stood (on + w) [] z marked_in (o + w) (pos 0) (omega (arith, l))))
        (apart w q (rows_fit w) (some_fit w high) i s ne (omega (arith, is))) ∙ ap (λ (j : ℕ). row_in o w (get_or fs j [])) (sym is)))
        (λ other. ap (row_in o w) (get_or-set_other fs (h + s / q) (h + i / q) (placed stood (on + w) [] z) [] other))

    pub marked_children : children_in h w marked s ≡ children_of z
    marked_children = ap (λ (frame : List ℤ). children_of (get_or frame (on + w) (pos 0))) marked_here ∙ ap (λ (x : ℤ). children_of x) marked_last

    pub marked_others : (i : ℕ) → i ≢ s → children_in h w marked i ≡ children_in h w fs i
    marked_others i ne = let o = (i % q) * (w + 1) in dite (ℕ_discrete (h + i / q) (h + s / q))
        (λ is. let there : get_or marked (h + i / q) [] ≡ placed stood (on + w) [] z = ap (λ (j : ℕ). get_or marked j []) is ∙ marked_here in
        ap (λ (frame : List ℤ). children_of (get_or frame (o + w) (pos 0))) there ∙ (⊎_elim
        (λ l. ap (λ (x : ℤ). children_of x) (word_before stood (on + w) [] z marked_in (o + w) (pos 0) (omega (arith, l))))
        (λ l. ap (λ (x : ℤ). children_of x) (word_behind stood (on + w) [] z marked_in (o + w) (pos 0) (omega (arith, l))))
        (apart w q (rows_fit w) (some_fit w high) i s ne (omega (arith, is))) ∙ ap (λ (j : ℕ). children_of (get_or (get_or fs j []) (o + w) (pos 0))) (sym is)))
        (λ other. ap (λ (frame : List ℤ). children_of (get_or frame (o + w) (pos 0))) (get_or-set_other fs (h + s / q) (h + i / q) (placed stood (on + w) [] z) [] other))

    pub heads_marked : heads_of h marked ≡ heads_of h fs
    unfolding heads_of
    heads_marked = agree (head_at marked) (head_at fs) (512 * h) (λ b l. ap (λ (frame : List ℤ). link_of (get_or frame (b % 512) (pos 0))) (get_or-set_other fs (h + s / q) (b / 512) (placed stood (on + w) [] z) [] (omega arith)))

    pub rows_marked : (n : ℕ) → link_of z ≡ link_of (get_or stood (on + w) (pos 0)) → rows_of h w n marked ≡ rows_of h w n fs
    unfolding rows_of
    rows_marked n e = agree (row_at h w marked) (row_at h w fs) n (λ i l. dite (ℕ_discrete i s)
        (λ is. ap (λ (j : ℕ). row_at h w marked j) is ∙ (marked_row e ∙ ap (λ (j : ℕ). row_at h w fs j) (sym is)))
        (λ other. marked_other i other))

    pub children_marked : (n : ℕ) → s < n → all_children h w n marked ≡ set (all_children h w n fs) s (children_of z)
    unfolding all_children
    children_marked n l = agree_set (children_in h w marked) (children_in h w fs) n s (children_of z) l marked_children (λ i m ne. marked_others i ne)

  -- the word of the head b is written
  module _ (b : ℕ) (z : ℤ) (first : b / 512 < h) (frames : h ≤ length fs) (long : length (get_or fs (b / 512) []) ≡ 512) where
    abbrev headed : List (List ℤ)
    headed = set fs (b / 512) (placed (get_or fs (b / 512) []) (b % 512) [] z)

    at_head : get_or headed (b / 512) [] ≡ placed (get_or fs (b / 512) []) (b % 512) [] z
    at_head = get_or-set_same fs (b / 512) (placed (get_or fs (b / 512) []) (b % 512) [] z) [] (omega arith)

    fits_head : b % 512 ≤ length (get_or fs (b / 512) [])
    fits_head = omega (arith, long)

    head_here : head_at headed b ≡ link_of z
    head_here = ap (λ (frame : List ℤ). link_of (get_or frame (b % 512) (pos 0))) at_head ∙ ap (λ (x : ℤ). link_of x) (ap (λ (j : ℕ). get_or (placed (get_or fs (b / 512) []) (b % 512) [] z) j (pos 0)) (omega arith) ∙ placed_last (get_or fs (b / 512) []) (b % 512) [] z fits_head 0 (pos 0) refl)

    head_else : (i : ℕ) → i ≢ b → head_at headed i ≡ head_at fs i
    head_else i ne = dite (ℕ_discrete (i / 512) (b / 512))
        (λ is. ap (λ (frame : List ℤ). link_of (get_or frame (i % 512) (pos 0))) (ap (λ (q : ℕ). get_or headed q []) is ∙ at_head)
        ∙ (ap (λ (x : ℤ). link_of x) (dite (dec_le (i % 512 + 1) (b % 512))
        (λ l. word_before (get_or fs (b / 512) []) (b % 512) [] z fits_head (i % 512) (pos 0) (omega arith))
        (λ g. word_behind (get_or fs (b / 512) []) (b % 512) [] z fits_head (i % 512) (pos 0) (omega (arith, is))))
        ∙ ap (λ (q : ℕ). link_of (get_or (get_or fs q []) (i % 512) (pos 0))) (sym is)))
        (λ other. ap (λ (frame : List ℤ). link_of (get_or frame (i % 512) (pos 0))) (get_or-set_other fs (b / 512) (i / 512) (placed (get_or fs (b / 512) []) (b % 512) [] z) [] other))

    pub heads_set : heads_of h headed ≡ set (heads_of h fs) b (link_of z)
    unfolding heads_of
    heads_set = agree_set (head_at headed) (head_at fs) (512 * h) b (link_of z) (omega arith) head_here (λ i l ne. head_else i ne)

    pub rows_kept : (n : ℕ) → rows_of h w n headed ≡ rows_of h w n fs
    unfolding rows_of
    rows_kept n = agree (row_at h w headed) (row_at h w fs) n (λ i l. ap (row_in ((i % rows_per_frame w) * (w + 1)) w) (get_or-set_other fs (b / 512) (h + i / rows_per_frame w) (placed (get_or fs (b / 512) []) (b % 512) [] z) [] (omega arith)))

    pub children_kept : (n : ℕ) → all_children h w n headed ≡ all_children h w n fs
    unfolding all_children
    children_kept n = agree (children_in h w headed) (children_in h w fs) n (λ i l. ap (λ (frame : List ℤ). children_of (get_or frame ((i % rows_per_frame w) * (w + 1) + w) (pos 0))) (get_or-set_other fs (b / 512) (h + i / rows_per_frame w) (placed (get_or fs (b / 512) []) (b % 512) [] z) [] (omega arith)))

pub length-rows_of : (h w n : ℕ) (fs : List (List ℤ)) → length (rows_of h w n fs) ≡ n
unfolding rows_of
length-rows_of h w n fs = length-map-range_with_len (row_at h w fs) 0 n

pub length-heads_of : (h : ℕ) (fs : List (List ℤ)) → length (heads_of h fs) ≡ 512 * h
unfolding heads_of
length-heads_of h fs = length-map-range_with_len (head_at fs) 0 (512 * h)

pub length-all_children : (h w n : ℕ) (fs : List (List ℤ)) → length (all_children h w n fs) ≡ n
unfolding all_children
length-all_children h w n fs = length-map-range_with_len (children_in h w fs) 0 n

pub get_or-all_children : (h w n : ℕ) (fs : List (List ℤ)) (i : ℕ) (d : Children) → i < n → get_or (all_children h w n fs) i d ≡ children_in h w fs i
unfolding all_children
get_or-all_children h w n fs i d l = get_or-map-range_with_len (children_in h w fs) 0 n i i d l (omega arith)

pub get_or-rows_of : (h w n : ℕ) (fs : List (List ℤ)) (i : ℕ) (d : Row) → i < n → get_or (rows_of h w n fs) i d ≡ row_at h w fs i
unfolding rows_of
get_or-rows_of h w n fs i d l = get_or-map-range_with_len (row_at h w fs) 0 n i i d l (omega arith)

pub get_or-heads_of : (h : ℕ) (fs : List (List ℤ)) (b : ℕ) (d : Option ℕ) → b < 512 * h → get_or (heads_of h fs) b d ≡ head_at fs b
unfolding heads_of
get_or-heads_of h fs b d l = get_or-map-range_with_len (head_at fs) 0 (512 * h) b b d l (omega arith)

pub heads_empty : (h : ℕ) (fs : List (List ℤ)) → ((q : ℕ) → q < h → get_or fs q [] ≡ replicate 512 (pos 0)) → heads_of h fs ≡ replicate (512 * h) None
unfolding heads_of
heads_empty h fs zeros = same_lists _ _ (length-map-range_with_len (head_at fs) 0 (512 * h) ∙ sym (length-replicate (512 * h) None))
    (λ k d l. let m : k < 512 * h = omega (arith, l, length-map-range_with_len (head_at fs) 0 (512 * h)) in
    get_or-map-range_with_len (head_at fs) 0 (512 * h) k k d m (omega arith)
    ∙ (ap (λ (frame : List ℤ). link_of (get_or frame (k % 512) (pos 0))) (zeros (k / 512) (omega arith))
    ∙ (ap (λ (x : ℤ). link_of x) (get_or-replicate 512 (k % 512) (pos 0) (pos 0) (omega arith)) ∙ sym (get_or-replicate (512 * h) k None d m))))

pub rows_none : (h w : ℕ) (fs : List (List ℤ)) → rows_of h w 0 fs ≡ []
unfolding rows_of
rows_none h w fs = refl

pub children_none : (h w : ℕ) (fs : List (List ℤ)) → all_children h w 0 fs ≡ []
unfolding all_children
children_none h w fs = refl

pub heads_none : (fs : List (List ℤ)) → heads_of 0 fs ≡ []
unfolding heads_of
heads_none fs = refl

pub link_word : (to : Option ℕ) (m : ℕ) → IfSome to (λ (s : ℕ). s < m) → m ≤ 4294967296 → link_of (word_of to) ≡ to
link_word None m s l = refl
link_word (Some slot) m s l = rw (add-one, lt-ltb slot 4294967296 (omega (arith, s))) refl

-- the word of a link has no children
pub link_alone : (to : Option ℕ) (m : ℕ) → IfSome to (λ (s : ℕ). s < m) → m ≤ 4294967296 → children_of (word_of to) ≡ no_children
link_alone None m s l = refl
link_alone (Some slot) m s l = rw (le-ltb 4294967296 (slot + 1) (omega (arith, s))) refl

child_half : (o : Option ℕ) → child_of (half_of o) ≡ o
child_half None = refl
child_half (Some s) = rw add-one refl

-- children as a word, and again
pub children_word : (left right : Option ℕ) → half_of left < 2 ^ 30 → half_of right < 2 ^ 30 → children_of (word_of_children (record { left = left; right = right })) ≡ record { left = left; right = right }
children_word left right l r =
    let a : ℕ = half_of left in
    let b : ℕ = half_of right in
    let low : (4294967297 + a + 4294967296 * b - 4294967297) % 4294967296 ≡ a = omega (arith, l, r) in
    let high : (4294967297 + a + 4294967296 * b - 4294967297) / 4294967296 ≡ b = omega (arith, l, r) in
    rw (lt-ltb 4294967296 (4294967297 + half_of left + 4294967296 * half_of right) (omega arith))
    (ap (λ (x : Option ℕ). let c : Children = record { left = x; right = child_of ((4294967297 + a + 4294967296 * b - 4294967297) / 4294967296) } in c) (ap child_of low ∙ child_half left)
    ∙ ap (λ (x : Option ℕ). let c : Children = record { left = left; right = x } in c) (ap child_of high ∙ child_half right))

-- a word of children is no link
link_high : (n : ℕ) → 4294967296 < n → link_of (pos n) ≡ None
link_high zero l = refl
link_high (suc m) l = rw (le-ltb m 4294967296 (omega (arith, l))) refl

pub children_alone : (c : Children) → link_of (word_of_children c) ≡ None
children_alone c = link_high (4294967297 + half_of c.left + 4294967296 * half_of c.right) (omega arith)

pub room_is : (h w p n : ℕ) (fs : List (List ℤ)) → IsRegion h w p n fs → (length fs - h) * p - n ≡ (length fs - length (heads_of h fs) / 512) * rows_per_frame w - length (rows_of h w n fs)
room_is h w p n fs k = rw (k.per_frame, length-rows_of h w n fs, length-heads_of h fs) (ap (λ (q : ℕ). (length fs - q) * rows_per_frame w - n) (omega arith))

abbrev seen : ℕ → ℕ → List (Option ℕ) → List Row → List Children → RegionView
seen n w heads rows children = record { frames = n; width = w; heads = heads; rows = rows; children = children }

seen_same : (w n m : ℕ) (heads others : List (Option ℕ)) (rows more : List Row) (cs ds : List Children) → n ≡ m → heads ≡ others → rows ≡ more → cs ≡ ds → seen n w heads rows cs ≡ seen m w others more ds
seen_same w n m heads others rows more cs ds a b c d = ap (λ (x : ℕ). seen x w heads rows cs) a ∙ (ap (λ (x : List (Option ℕ)). seen m w x rows cs) b ∙ (ap (λ (x : List Row). seen m w others x cs) c ∙ ap (λ (x : List Children). seen m w others more x) d))

if_some : {X : Type 0} (P Q : X → Type 0) (o : Option X) → ((x : X) → P x → Q x) → IfSome o P → IfSome o Q
if_some P Q None f h = tt
if_some P Q (Some x) f h = f x h

-- rows and heads lead to rows
module _ (hs : List (Option ℕ)) (rs : List Row) (k : IsLinked hs rs) where
  pub linked_put : (words : List ℤ) (to : Option ℕ) → IfSome to (λ (s : ℕ). s < length rs) → IsLinked hs (rs ++ record { words = words; link = to } ∷ [])
  linked_put words to stands = record {
    links = λ i d l. dite (dec_le (i + 1) (length rs))
        (λ h. rw (get_or_append_left rs (record { words = words; link = to } ∷ []) d i (omega arith)) (k.links i d (omega arith)))
        (λ g. let e : length rs ≡ i = omega (arith, l, length_push rs (record { words = words; link = to })) in
        rw (get_or_push rs (record { words = words; link = to }) d i e) (subst (λ (m : ℕ). IfSome to (λ (s : ℕ). s < m)) e stands));
    heads = λ b d l. if_some (λ (s : ℕ). s < length rs) (λ (s : ℕ). s < length (rs ++ record { words = words; link = to } ∷ [])) (get_or hs b d) (λ s h. omega (arith, h, length_push rs (record { words = words; link = to }))) (k.heads b d l);
  }

  pub linked_words : (s : ℕ) (words : List ℤ) (d : Row) → s < length rs → IsLinked hs (set rs s (record { words = words; link = (get_or rs s d).link }))
  linked_words s words d within = record {
    links = λ i e l. dite (ℕ_discrete i s)
        (λ is. rw (is, get_or-set_same rs s (record { words = words; link = (get_or rs s d).link }) e within) (k.links s d within))
        (λ other. rw (get_or-set_other rs s i (record { words = words; link = (get_or rs s d).link }) e other) (k.links i e (omega (arith, l, length-set rs s (record { words = words; link = (get_or rs s d).link })))));
    heads = λ b e l. rw (length-set rs s (record { words = words; link = (get_or rs s d).link })) (k.heads b e l);
  }

  pub linked_head : (b : ℕ) (to : Option ℕ) → b < length hs → IfSome to (λ (s : ℕ). s < length rs) → IsLinked (set hs b to) rs
  linked_head b to within stands = record {
    links = k.links;
    heads = λ c d l. dite (ℕ_discrete c b)
        (λ is. rw (is, get_or-set_same hs b to d within) stands)
        (λ other. rw (get_or-set_other hs b c to d other) (k.heads c d (omega (arith, l, length-set hs b to))));
  }

-- children are later rows
pub later_none : (cs : List Children) → AreLater 0 cs
later_none cs = record { later = λ i d side l. absurd (omega (arith, l)) }

module _ (n : ℕ) (cs : List Children) (long : length cs ≡ n) (k : AreLater n cs) where
  pub later_put : (c : Children) → c ≡ no_children → AreLater (n + 1) (cs ++ c ∷ [])
  later_put c is = record {
    later = λ i d side l. dite (dec_le (i + 1) n)
        (λ h. subst (λ (x : Children). IfSome (child_on x side) (λ (s : ℕ). (i < s) × (s < n + 1))) (sym (get_or_append_left cs (c ∷ []) d i (omega (arith, long, h))))
        (if_some (λ (s : ℕ). (i < s) × (s < n)) (λ (s : ℕ). (i < s) × (s < n + 1)) (child_on (get_or cs i d) side) (λ s h. (h.0, omega (arith, h.1))) (k.later i d side (omega (arith, h)))))
        (λ g. subst (λ (x : Children). IfSome (child_on x side) (λ (s : ℕ). (i < s) × (s < n + 1))) (sym (get_or_push cs c d i (omega (arith, g, l, long)) ∙ is)) (no_child side (λ (s : ℕ). (i < s) × (s < n + 1))));
  }
    where
      no_child : (side : Bool) (P : ℕ → Type 0) → IfSome (child_on no_children side) P
      no_child false P = tt
      no_child true P = tt

  pub later_child : (s : ℕ) (side : Bool) (to : Option ℕ) (c : Children) → s < n → IfSome to (λ (m : ℕ). (s < m) × (m < n)) → c ≡ with_side (get_or cs s no_children) side to → AreLater n (set cs s c)
  later_child s side to c l stands is = record {
    later = λ i d e m. dite (ℕ_discrete i s)
        (λ same. subst (λ (x : Children). IfSome (child_on x e) (λ (t : ℕ). (i < t) × (t < n))) (sym (ap (λ (j : ℕ). get_or (set cs s c) j d) same ∙ get_or-set_same cs s c d (omega (arith, l, long)) ∙ is))
        (subst (λ (j : ℕ). IfSome (child_on (with_side (get_or cs s no_children) side to) e) (λ (t : ℕ). (j < t) × (t < n))) (sym same) (either side e (get_or cs s no_children) stands (k.later s no_children e l))))
        (λ other. subst (λ (x : Children). IfSome (child_on x e) (λ (t : ℕ). (i < t) × (t < n))) (sym (get_or-set_other cs s i c d other)) (k.later i d e m));
  }
    where
      either : (side e : Bool) (x : Children) → IfSome to (λ (m : ℕ). (s < m) × (m < n)) → IfSome (child_on x e) (λ (m : ℕ). (s < m) × (m < n)) → IfSome (child_on (with_side x side to) e) (λ (m : ℕ). (s < m) × (m < n))
      either false false x p q = p
      either false true x p q = q
      either true false x p q = q
      either true true x p q = p

pub link_earlier : (hs : List (Option ℕ)) (rs : List Row) → IsLinked hs rs → (i : ℕ) (r : Row) → i < length rs → slice_get rs i ≡ Some r → IfSome r.link (λ (s : ℕ). s < i)
link_earlier hs rs k i r l e = subst (λ (x : Row). IfSome x.link (λ (s : ℕ). s < i)) (get_or_from_slice_get rs i r r e) (k.links i r l)

pub head_stands : (hs : List (Option ℕ)) (rs : List Row) → IsLinked hs rs → (b : ℕ) (o : Option ℕ) → b < length hs → slice_get hs b ≡ Some o → IfSome o (λ (s : ℕ). s < length rs)
head_stands hs rs k b o l e = subst (λ (x : Option ℕ). IfSome x (λ (s : ℕ). s < length rs)) (get_or_from_slice_get hs b o o e) (k.heads b o l)

pub linked_none : (n : ℕ) → IsLinked (replicate n None) []
linked_none n = record {
  links = λ i d l. absurd (omega (arith, l));
  heads = λ b d l. rw (get_or-replicate n b None d (omega (arith, l, length-replicate {A = Option ℕ} n None))) tt;
}

few_half : (c : Option ℕ) (m : ℕ) → IfSome c (λ (s : ℕ). s < m) → m ≤ 134217728 → half_of c < 2 ^ 30
few_half None m p l = omega arith
few_half (Some s) m p l = omega (arith, p)

module _ (h w p n : ℕ) (fs : List (List ℤ)) (k : IsRegion h w p n fs) where
  pub some_rows : 0 < p
  some_rows = rw k.per_frame (some_fit w k.high)

  pub stands_within : (i : ℕ) → i < n → h + i / p < length fs
  stands_within i l = frame_within h (length fs) p i some_rows (omega (arith, k.rows))

  pub bounded : n ≤ 134217728
  bounded =
      let q : p ≤ 512 = rw k.per_frame (div-le_self 512 (w + 1)) in
      let f : length fs - h ≤ 262144 = omega (arith, k.few) in
      omega (arith, k.rows, mul-le-mul_right {m = length fs - h} {n = 262144} p f, mul-le-mul_left {m = p} {n = 512} 262144 q)

  abbrev view : RegionView
  view = record { frames = length fs; width = w; heads = heads_of h fs; rows = rows_of h w n fs; children = all_children h w n fs }

  pub read_is : (i : ℕ) (frame : List ℤ) (last : ℤ) (m : ℕ) → i < n → frame ≡ get_or fs (h + i / p) [] → m ≡ w → last ≡ get_or frame ((i % p) * (w + 1) + w) (pos 0) → slice_get (rows_of h w n fs) i ≡ Some (record { words = take m (drop ((i % p) * (w + 1)) frame); link = link_of last })
  read_is i frame last m l e f g =
      let e' = rw k.per_frame at e in
      let g' = rw k.per_frame at g in
      rw (k.per_frame, f, g', e') (slice_get-get_or (rows_of h w n fs) i (row_at h w fs i) (omega (arith, l, length-rows_of h w n fs)) ∙ ap (λ (r : Row). let o : Option Row = Some r in o) (get_or-rows_of h w n fs i (row_at h w fs i) l))

  pub head_is : (b : ℕ) (frame : List ℤ) (last : ℤ) → b < 512 * h → frame ≡ get_or fs (b / 512) [] → last ≡ get_or frame (b % 512) (pos 0) → slice_get (heads_of h fs) b ≡ Some (link_of last)
  head_is b frame last l e g = rw (g, e) (slice_get-get_or (heads_of h fs) b (head_at fs b) (omega (arith, l, length-heads_of h fs)) ∙ ap (λ (r : Option ℕ). let o : Option (Option ℕ) = Some r in o) (get_or-heads_of h fs b (head_at fs b) l))

  -- what replaces the words of a row writes the word behind them again
  pub overwritten_row : (s : ℕ) (row : List ℤ) (after : List (List ℤ)) → length row ≡ w → length (get_or fs (h + s / p) []) ≡ 512
      → after ≡ set fs (h + s / p) (overwritten (get_or fs (h + s / p) []) ((s % p) * (w + 1)) row)
      → after ≡ set fs (h + s / p) (placed (get_or fs (h + s / p) []) ((s % p) * (w + 1)) row (get_or (get_or fs (h + s / p) []) ((s % p) * (w + 1) + w) (pos 0)))
  overwritten_row s row after wide long a =
      let frame : List ℤ = get_or fs (h + s / p) [] in
      let at : ℕ = (s % p) * (w + 1) in
      let end : at + w < 512 = ends_within w p (rw k.per_frame (rows_fit w)) some_rows s in
      a ∙ ap (λ (words : List ℤ). set fs (h + s / p) words) (overwritten_placed frame at row (pos 0) (omega arith) ∙ ap (λ (m : ℕ). placed frame at row (get_or frame (at + m) (pos 0))) wide)

  module _ (row : List ℤ) (z : ℤ) (after : List (List ℤ)) (wide : length row ≡ w) where
    pub put_is : (to : Option ℕ) → z ≡ word_of to → IfSome to (λ (s : ℕ). s < n) → n < (length fs - h) * p → length (get_or fs (h + n / p) []) ≡ 512
        → after ≡ set fs (h + n / p) (placed (get_or fs (h + n / p) []) ((n % p) * (w + 1)) row z)
        → (record { frames = length after; width = w; heads = heads_of h after; rows = rows_of h w (n + 1) after; children = all_children h w (n + 1) after }) ≡ with_row view (record { words = row; link = to })
    put_is to is stands more long a =
        let b = rw k.per_frame at a in
        let within : h + n / rows_per_frame w < length fs = rw (sym k.per_frame) (frame_within h (length fs) p n some_rows more) in
        let whole = rw k.per_frame at long in
        let link : link_of z ≡ to = ap (λ (x : ℤ). link_of x) is ∙ link_word to n stands (omega (arith, bounded)) in
        rw b (seen_same w _ (length fs) _ (heads_of h fs) _ (rows_of h w n fs ++ record { words = row; link = to } ∷ []) _ (all_children h w n fs ++ no_children ∷ [])
        (length-set fs (h + n / rows_per_frame w) (placed (get_or fs (h + n / rows_per_frame w) []) ((n % rows_per_frame w) * (w + 1)) row z))
        (heads_kept h w fs k.high n row z wide within whole)
        (rows_put h w fs k.high n row z wide within whole refl ∙ ap (λ (x : Option ℕ). rows_of h w n fs ++ record { words = row; link = x } ∷ []) link)
        (children_put h w fs k.high n row z wide within whole refl ∙ ap (λ (x : Children). all_children h w n fs ++ x ∷ []) (ap (λ (x : ℤ). children_of x) is ∙ link_alone to n stands (omega (arith, bounded)))))

    pub write_is : (s : ℕ) → s < n → z ≡ get_or (get_or fs (h + s / p) []) ((s % p) * (w + 1) + w) (pos 0) → length (get_or fs (h + s / p) []) ≡ 512
        → after ≡ set fs (h + s / p) (placed (get_or fs (h + s / p) []) ((s % p) * (w + 1)) row z)
        → (record { frames = length after; width = w; heads = heads_of h after; rows = rows_of h w n after; children = all_children h w n after }) ≡ with_words view s row
    write_is s l is long a =
        let b = rw k.per_frame at a in
        let within : h + s / rows_per_frame w < length fs = rw (sym k.per_frame) (stands_within s l) in
        let whole = rw k.per_frame at long in
        let was = rw k.per_frame at is in
        let d : Row = record { words = row; link = None } in
        let link : link_of z ≡ (get_or (rows_of h w n fs) s d).link = ap (λ (x : ℤ). link_of x) was ∙ sym (ap (λ (r : Row). r.link) (get_or-rows_of h w n fs s d l)) in
        rw b (seen_same w _ (length fs) _ (heads_of h fs) _ (set (rows_of h w n fs) s (record { words = row; link = (get_or (rows_of h w n fs) s d).link })) _ (all_children h w n fs)
        (length-set fs (h + s / rows_per_frame w) (placed (get_or fs (h + s / rows_per_frame w) []) ((s % rows_per_frame w) * (w + 1)) row z))
        (heads_kept h w fs k.high s row z wide within whole)
        (rows_written h w fs k.high s row z wide within whole n l ∙ ap (λ (x : Option ℕ). set (rows_of h w n fs) s (record { words = row; link = x })) link)
        (children_written h w fs k.high s row z wide within whole n (ap (λ (x : ℤ). children_of x) was)))

  pub set_head_is : (b : ℕ) (to : Option ℕ) (z : ℤ) (after : List (List ℤ)) → b < 512 * h → z ≡ word_of to → IfSome to (λ (s : ℕ). s < n) → length (get_or fs (b / 512) []) ≡ 512
      → after ≡ set fs (b / 512) (placed (get_or fs (b / 512) []) (b % 512) [] z)
      → (record { frames = length after; width = w; heads = heads_of h after; rows = rows_of h w n after; children = all_children h w n after }) ≡ with_head view b to
  set_head_is b to z after l is stands long a =
      let first : b / 512 < h = omega arith in
      let link : link_of z ≡ to = ap (λ (x : ℤ). link_of x) is ∙ link_word to n stands (omega (arith, bounded)) in
      rw a (seen_same w _ (length fs) _ (set (heads_of h fs) b to) _ (rows_of h w n fs) _ (all_children h w n fs)
      (length-set fs (b / 512) (placed (get_or fs (b / 512) []) (b % 512) [] z))
      (heads_set h w fs k.high b z first k.heads long ∙ ap (λ (x : Option ℕ). set (heads_of h fs) b x) link)
      (rows_kept h w fs k.high b z first k.heads long n) (children_kept h w fs k.high b z first k.heads long n))

  pub few_halves : (i : ℕ) (side : Bool) (c : Option ℕ) → i < n → c ≡ child_on (children_in h w fs i) side → half_of c < 2 ^ 30
  few_halves i side c l e = few_half c n (if_some (λ (s : ℕ). (i < s) × (s < n)) (λ (s : ℕ). s < n) c (λ s p. p.1) (subst (λ (x : Option ℕ). IfSome x (λ (s : ℕ). (i < s) × (s < n))) (ap (λ (x : Children). child_on x side) (get_or-all_children h w n fs i no_children l) ∙ sym e) (k.later.later i no_children side l))) (omega (arith, bounded))

  pub few_to : (i : ℕ) (c : Option ℕ) → IfSome c (λ (s : ℕ). (i < s) × (s < n)) → half_of c < 2 ^ 30
  few_to i c p = few_half c n (if_some (λ (s : ℕ). (i < s) × (s < n)) (λ (s : ℕ). s < n) c (λ s h. h.1) p) (omega (arith, bounded))

  pub few_sides : (i : ℕ) (side : Bool) (to : Option ℕ) → i < n → half_of to < 2 ^ 30 → (half_of (with_side (children_in h w fs i) side to).left < 2 ^ 30) × (half_of (with_side (children_in h w fs i) side to).right < 2 ^ 30)
  few_sides i false to l t = (t, few_halves i true (children_in h w fs i).right l refl)
  few_sides i true to l t = (few_halves i false (children_in h w fs i).left l refl, t)

  -- the children in the word of a row
  pub children_are : (i : ℕ) (frame : List ℤ) (last : ℤ) → frame ≡ get_or fs (h + i / p) [] → last ≡ get_or frame ((i % p) * (w + 1) + w) (pos 0) → children_of last ≡ children_in h w fs i
  children_are i frame last e g =
      let e' = rw k.per_frame at e in
      let g' = rw k.per_frame at g in
      rw (g', e') refl

  -- the words of a row, and what it leads to to a side
  pub words_are : (i : ℕ) (frame : List ℤ) (m : ℕ) → i < n → m ≡ w → frame ≡ get_or fs (h + i / p) [] → take m (drop ((i % p) * (w + 1)) frame) ≡ words_at view i
  words_are i frame m l f e = let e' = rw k.per_frame at e in rw (k.per_frame, f, e') (sym (ap (λ (r : Row). r.words) (get_or-rows_of h w n fs i no_row l)))

  pub child_is : (i : ℕ) (side : Bool) (frame : List ℤ) (last : ℤ) → i < n → frame ≡ get_or fs (h + i / p) [] → last ≡ get_or frame ((i % p) * (w + 1) + w) (pos 0) → child_on (children_of last) side ≡ child_at view i side
  child_is i side frame last l e g =
      let e' = rw k.per_frame at e in
      let g' = rw k.per_frame at g in
      rw (g', e') (sym (ap (λ (c : Children). child_on c side) (get_or-all_children h w n fs i no_children l)))

  pub child_later : (i : ℕ) (side : Bool) (c : Option ℕ) → i < n → c ≡ child_at view i side → IfSome c (λ (s : ℕ). (i < s) × (s < n))
  child_later i side c l e = subst (λ (x : Option ℕ). IfSome x (λ (s : ℕ). (i < s) × (s < n))) (sym e) (k.later.later i no_children side l)

  pub set_child_is : (s : ℕ) (side : Bool) (to : Option ℕ) (z : ℤ) (c : Children) (after : List (List ℤ)) → s < n → z ≡ word_of_children c → c ≡ with_side (children_in h w fs s) side to
      → half_of c.left < 2 ^ 30 → half_of c.right < 2 ^ 30 → link_at view s ≡ None → length (get_or fs (h + s / p) []) ≡ 512
      → after ≡ set fs (h + s / p) (placed (get_or fs (h + s / p) []) ((s % p) * (w + 1) + w) [] z)
      → (record { frames = length after; width = w; heads = heads_of h after; rows = rows_of h w n after; children = all_children h w n after }) ≡ with_child view s side to
  set_child_is s side to z c after l is sides few_left few_right alone long a =
      let b = rw k.per_frame at a in
      let within : h + s / rows_per_frame w < length fs = rw (sym k.per_frame) (stands_within s l) in
      let whole = rw k.per_frame at long in
      let link : link_of z ≡ (row_at h w fs s).link = ap (λ (x : ℤ). link_of x) is ∙ (children_alone c ∙ (sym alone ∙ ap (λ (r : Row). r.link) (get_or-rows_of h w n fs s no_row l))) in
      let side_is : children_of z ≡ with_side (get_or (all_children h w n fs) s no_children) side to =
      ap (λ (x : ℤ). children_of x) is ∙ (children_word c.left c.right few_left few_right ∙ (sides ∙ ap (λ (x : Children). with_side x side to) (sym (get_or-all_children h w n fs s no_children l)))) in
      rw b (seen_same w _ (length fs) _ (heads_of h fs) _ (rows_of h w n fs) _ (set (all_children h w n fs) s (with_side (get_or (all_children h w n fs) s no_children) side to))
      (length-set fs (h + s / rows_per_frame w) (placed (get_or fs (h + s / rows_per_frame w) []) ((s % rows_per_frame w) * (w + 1) + w) [] z))
      (heads_marked h w fs k.high s z within whole)
      (rows_marked h w fs k.high s z within whole n link)
      (children_marked h w fs k.high s z within whole n l ∙ ap (λ (x : Children). set (all_children h w n fs) s x) side_is))

module _ (h w p n : ℕ) (fs : List (List ℤ)) (k : IsRegion h w p n fs) (row : List ℤ) (z : ℤ) (after : List (List ℤ)) (wide : length row ≡ w) where
  pub put_keeps : (to : Option ℕ) → z ≡ word_of to → IfSome to (λ (s : ℕ). s < n) → n < (length fs - h) * p → length (get_or fs (h + n / p) []) ≡ 512
      → after ≡ set fs (h + n / p) (placed (get_or fs (h + n / p) []) ((n % p) * (w + 1)) row z) → IsRegion h w p (n + 1) after
  put_keeps to is stands more long a =
      let e = put_is h w p n fs k row z after wide to is stands more long a in
      let f : length after ≡ length fs = ap (λ (r : RegionView). r.frames) e in
      record {
        few = omega (arith, f, k.few);
        heads = omega (arith, f, k.heads);
        low = k.low;
        high = k.high;
        per_frame = k.per_frame;
        rows = rw f (omega (arith, more));
        linked = rw (ap (λ (r : RegionView). r.heads) e, ap (λ (r : RegionView). r.rows) e) (linked_put (heads_of h fs) (rows_of h w n fs) k.linked row to (rw (length-rows_of h w n fs) stands));
        later = rw (ap (λ (r : RegionView). r.children) e) (later_put n (all_children h w n fs) (length-all_children h w n fs) k.later no_children refl);
      }

  pub write_keeps : (s : ℕ) → s < n → z ≡ get_or (get_or fs (h + s / p) []) ((s % p) * (w + 1) + w) (pos 0) → length (get_or fs (h + s / p) []) ≡ 512
      → after ≡ set fs (h + s / p) (placed (get_or fs (h + s / p) []) ((s % p) * (w + 1)) row z) → IsRegion h w p n after
  write_keeps s l is long a =
      let e = write_is h w p n fs k row z after wide s l is long a in
      let f : length after ≡ length fs = ap (λ (r : RegionView). r.frames) e in
      record {
        few = omega (arith, f, k.few);
        heads = omega (arith, f, k.heads);
        low = k.low;
        high = k.high;
        per_frame = k.per_frame;
        rows = rw f k.rows;
        linked = rw (ap (λ (r : RegionView). r.heads) e, ap (λ (r : RegionView). r.rows) e) (linked_words (heads_of h fs) (rows_of h w n fs) k.linked s row _ (rw (length-rows_of h w n fs) l));
        later = rw (ap (λ (r : RegionView). r.children) e) k.later;
      }

pub head_keeps : (h w p n : ℕ) (fs : List (List ℤ)) (k : IsRegion h w p n fs) (b : ℕ) (to : Option ℕ) (z : ℤ) (after : List (List ℤ)) → b < 512 * h → z ≡ word_of to → IfSome to (λ (s : ℕ). s < n) → length (get_or fs (b / 512) []) ≡ 512
    → after ≡ set fs (b / 512) (placed (get_or fs (b / 512) []) (b % 512) [] z) → IsRegion h w p n after
head_keeps h w p n fs k b to z after l is stands long a =
    let e = set_head_is h w p n fs k b to z after l is stands long a in
    let f : length after ≡ length fs = ap (λ (r : RegionView). r.frames) e in
    record {
      few = omega (arith, f, k.few);
      heads = omega (arith, f, k.heads);
      low = k.low;
      high = k.high;
      per_frame = k.per_frame;
      rows = rw f k.rows;
      linked = rw (ap (λ (r : RegionView). r.heads) e, ap (λ (r : RegionView). r.rows) e) (linked_head (heads_of h fs) (rows_of h w n fs) k.linked b to (rw (length-heads_of h fs) l) (rw (length-rows_of h w n fs) stands));
      later = rw (ap (λ (r : RegionView). r.children) e) k.later;
    }

pub child_keeps : (h w p n : ℕ) (fs : List (List ℤ)) (k : IsRegion h w p n fs) (s : ℕ) (side : Bool) (to : Option ℕ) (z : ℤ) (c : Children) (after : List (List ℤ)) → s < n → IfSome to (λ (m : ℕ). (s < m) × (m < n)) → z ≡ word_of_children c → c ≡ with_side (children_in h w fs s) side to
    → half_of c.left < 2 ^ 30 → half_of c.right < 2 ^ 30 → link_at (view h w p n fs k) s ≡ None → length (get_or fs (h + s / p) []) ≡ 512
    → after ≡ set fs (h + s / p) (placed (get_or fs (h + s / p) []) ((s % p) * (w + 1) + w) [] z) → IsRegion h w p n after
child_keeps h w p n fs k s side to z c after l stands is sides few_left few_right alone long a =
    let e = set_child_is h w p n fs k s side to z c after l is sides few_left few_right alone long a in
    let f : length after ≡ length fs = ap (λ (r : RegionView). r.frames) e in
    record {
      few = omega (arith, f, k.few);
      heads = omega (arith, f, k.heads);
      low = k.low;
      high = k.high;
      per_frame = k.per_frame;
      rows = rw f k.rows;
      linked = rw (ap (λ (r : RegionView). r.heads) e, ap (λ (r : RegionView). r.rows) e) k.linked;
      later = rw (ap (λ (r : RegionView). r.children) e) (later_child n (all_children h w n fs) (length-all_children h w n fs) k.later s side to (with_side (get_or (all_children h w n fs) s no_children) side to) l stands refl);
    }

pub fresh_is : (fs : List (List ℤ)) → (record { frames = length fs; width = 511; heads = heads_of 0 fs; rows = rows_of 0 511 0 fs; children = all_children 0 511 0 fs }) ≡ cleared (length fs) 0 511
fresh_is fs = seen_same 511 _ (length fs) _ [] _ [] _ [] refl (heads_none fs) (rows_none 0 511 fs) (children_none 0 511 fs)

pub reset_is : (h w n : ℕ) (after : List (List ℤ)) → length after ≡ n → ((q : ℕ) → q < h → get_or after q [] ≡ replicate 512 (pos 0)) → (record { frames = length after; width = w; heads = heads_of h after; rows = rows_of h w 0 after; children = all_children h w 0 after }) ≡ cleared n h w
reset_is h w n after e zeros = seen_same w _ n _ (replicate (512 * h) None) _ [] _ [] e (heads_empty h after zeros) (rows_none h w after) (children_none h w after)

pub reset_keeps : (h w n : ℕ) (after : List (List ℤ)) → length after ≡ n → n ≤ 262144 → h ≤ n → 1 ≤ w → w ≤ 511 → ((q : ℕ) → q < h → get_or after q [] ≡ replicate 512 (pos 0)) → IsRegion h w (rows_per_frame w) 0 after
reset_keeps h w n after e few l low high zeros = record {
  few = omega (arith, e, few);
  heads = omega (arith, e, l);
  low = low;
  high = high;
  per_frame = refl;
  rows = omega arith;
  linked = rw (heads_empty h after zeros, rows_none h w after) (linked_none (512 * h));
  later = later_none (all_children h w 0 after);
}

pub fresh_keeps : (fs : List (List ℤ)) → length fs ≤ 262144 → IsRegion 0 511 1 0 fs
fresh_keeps fs few = reset_keeps 0 511 (length fs) fs refl few (omega arith) (omega arith) (omega arith) (λ q l. absurd (omega (arith, l)))

pub same_shape : (old new : RegionView) (row : Row) → new ≡ with_row old row → HasSameShape old new
same_shape old new row e = (ap (λ (r : RegionView). r.frames) e, ap (λ (r : RegionView). r.width) e, ap (λ (r : RegionView). r.heads) e)
