-- What was found in a table of groups.
use Rattle.std.proofs.Common.{◌≡◌, ◌≢◌, ℕ, ◌+◌, ◌-◌, ◌*◌, ◌/◌, ◌<◌, ◌≤◌, Bool, true, false, List, [], ◌∷◌, ◌++◌, length, get_or, take, map, set, sym, ap, ap₂, ◌∙◌, subst, arith, refl, drop}
use Rattle.std.specs.Prelude.{ℤ, Option, Some, None, slice_get}
use Rattle.std.proofs.lemmas.Option.{get_or_from_slice_get}
use Rattle.pdq_spill.specs.Rows.{with_more}
use Rattle.std.proofs.lemmas.List.{get_or-map, length-map, length-take-le, length-replicate, map_push, take_more, append_assoc}
use Rattle.pdq_frame.specs.Regions.{RegionView, Row, room, rows_per_frame, cleared}
use Rattle.pdq_group.specs.declared.shape.Fold.{Fold}
use Rattle.pdq_group.specs.Folds.{with_row, no_states, put_row}
use Rattle.pdq_group.specs.Trees.{words_in, no_row, key_at, Found, Added}
use Rattle.pdq_group.specs.Tables.{TableView, IsTable, group_width, groups_in, Holds, TookRow}
use Rattle.pdq_group.proofs.Reaching.{trees_cleared}
use Rattle.pdq_group.proofs.Holding.{hold-hit, hold-new, hold-full}

word_at_row : (r : RegionView) (i : ℕ) → i < length r.rows → get_or (words_in r) i [] ≡ (get_or r.rows i no_row).words
word_at_row r i l = get_or-map (λ (x : Row). x.words) r.rows i no_row [] l

words_long : (r : RegionView) → length (words_in r) ≡ length r.rows
words_long r = length-map r.rows (λ (x : Row). x.words)

module _ (keys : ℕ) (folds : List Fold) (r new : RegionView) (none : List ℤ) (b : ℕ) (k : IsTable keys folds r none b) (row : List ℤ) (rows : List (List ℤ)) (wide : length row ≡ keys + length folds) (same : new.frames ≡ r.frames) where
  abbrev t : TableView
  t = record { keys = keys; folds = folds; frames = r.frames; groups = words_in r }

  key_is : take keys row ≡ take keys row
  key_is = refl

  long_is : length (take keys row) ≡ keys
  long_is = ap length key_is ∙ length-take-le keys row (omega arith)

  -- the row was folded into the group that was found
  pub took-hit : (s : ℕ) → Holds t rows → Found (length (take keys row)) r (take keys row) (Some s)
      → words_in new ≡ set (words_in r) s (with_row keys folds (get_or (words_in r) s []) row)
      → TookRow true (record { keys = keys; folds = folds; frames = new.frames; groups = words_in new }) rows row
  took-hit s h f w =
      let l : s < length (words_in r) = omega (arith, f.0, words_long r) in
      let e : take keys (get_or (words_in r) s []) ≡ take keys row = ap (take keys) (word_at_row r s f.0) ∙ ap (λ n. take n (get_or r.rows s no_row).words) (sym long_is) ∙ f.1 ∙ key_is in
      subst (λ frames. TookRow true (record { keys = keys; folds = folds; frames = frames; groups = words_in new }) rows row) (sym same) (hold-hit t rows row h wide s l e (words_in new) w)

  -- the row's key is new
  module _ (h : Holds t rows) (f : (i : ℕ) → i < length r.rows → key_at (length (take keys row)) r.rows i ≢ take keys row) where
    absent : (i : ℕ) → i < length t.groups → take keys (get_or t.groups i []) ≢ take keys row
    absent i l e =
        let m : i < length r.rows = omega (arith, l, words_long r) in
        f i m (ap (λ n. take n (get_or r.rows i no_row).words) long_is ∙ ap (take keys) (sym (word_at_row r i m)) ∙ e ∙ sym key_is)

    room_is : room r ≡ groups_in r.frames keys folds - length (words_in r)
    room_is = ap₂ (λ a c. (r.frames - a) * rows_per_frame c - length r.rows) (let z : length r.heads / 512 ≡ 1 = omega (arith, k.heads) in z) k.width ∙ ap (λ n. groups_in r.frames keys folds - n) (sym (words_long r))

    pub took-new : (taken : Bool) → Added taken r new (with_row keys folds none row) → TookRow taken (record { keys = keys; folds = folds; frames = new.frames; groups = words_in new }) rows row
    took-new true a = subst (λ frames. TookRow true (record { keys = keys; folds = folds; frames = frames; groups = words_in new }) rows row) (sym same)
        (hold-new t rows row h wide absent none (words_in new) k.states (omega (arith, a.1, room_is)) a.0)
    took-new false a = subst (λ frames. TookRow false (record { keys = keys; folds = folds; frames = frames; groups = words_in new }) rows row) (sym same)
        (hold-full t rows row h wide absent (words_in new) (omega (arith, a.1, room_is)) (ap words_in a.0))

-- a table without a group
pub table_cleared : (keys : ℕ) (folds : List Fold) (frames w : ℕ) (new : RegionView) (none : List ℤ) (b : ℕ) → 1 ≤ group_width keys folds → group_width keys folds ≤ 511 → 2 ≤ frames → w ≡ group_width keys folds → new ≡ cleared frames 1 w
    → length none ≡ group_width keys folds → drop keys none ≡ no_states folds → b ≡ group_width keys folds → IsTable keys folds new none b
table_cleared keys folds frames w new none b low high few e is long states buffer =
    let nothing : Option ℕ = None in
    subst (λ v. IsTable keys folds v none b) (sym is) (record {
      low = low;
      high = high;
      width = e;
      heads = length-replicate (512 * 1) nothing;
      frames = few;
      trees = trees_cleared keys frames 1 w;
      blank = long;
      states = states;
      buffer = buffer;
    })

-- one more group was put
pub puts_more : (keys : ℕ) (folds : List Fold) (r : RegionView) (k s : ℕ) (row : Row) (put : List ℤ) (before now then : Option (List (List ℤ))) → s ≡ k → k < length r.rows → slice_get r.rows s ≡ Some row → put ≡ put_row keys folds row.words
    → now ≡ with_more before (map (put_row keys folds) (take k (words_in r))) → then ≡ with_more now (put ∷ []) → then ≡ with_more before (map (put_row keys folds) (take (k + 1) (words_in r)))
puts_more keys folds r k s row put before now then e l got p a b =
    let at : get_or (words_in r) k [] ≡ row.words = word_at_row r k l ∙ ap (λ (x : Row). x.words) (get_or_from_slice_get r.rows k row no_row (ap (slice_get r.rows) (sym e) ∙ got)) in
    let P : List ℤ → List ℤ = put_row keys folds in
    b ∙ ap₂ (λ t x. with_more t (x ∷ [])) a p ∙ joined before (map P (take k (words_in r))) (P row.words)
    ∙ ap (with_more before) (ap (λ x. map P (take k (words_in r)) ++ P x ∷ []) (sym at) ∙ sym (map_push P (take k (words_in r)) (get_or (words_in r) k [])) ∙ ap (map P) (sym (take_more (words_in r) k [] (omega (arith, l, words_long r)))))
  where
    joined : (t : Option (List (List ℤ))) (xs : List (List ℤ)) (x : List ℤ) → with_more (with_more t xs) (x ∷ []) ≡ with_more t (xs ++ x ∷ [])
    joined None xs x = refl
    joined (Some rows) xs x = ap Some (append_assoc rows xs (x ∷ []))
