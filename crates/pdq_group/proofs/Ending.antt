-- The passes of a grouper, one after another.
use Rattle.std.proofs.Common.{◌≡◌, ℕ, zero, suc, ◌+◌, ◌-◌, ◌*◌, ◌/◌, ◌<◌, ◌≤◌, max, min, Bool, true, false, not, cond, List, [], ◌∷◌, ◌++◌, length, get_or, take, drop, map, filter, sym, ap, ap₂, ◌∙◌, subst, arith, refl, append_assoc, append-nil, suc-mul, one-mul, add-one}
use Rattle.std.specs.Prelude.{ℤ, Option, Some, None, IfSome, IsSome}
use mathlib.Core.Logic.{dite}
use native.Mathlib.Decide.{ℕ_discrete, dec_le}
use Rattle.std.proofs.Math.Nat.{add-mul-div_left, mul-le-mul_right, div-mul-le_self}
use Rattle.pdq_spill.specs.Blocks.{blocks_for, blocks_beyond}
use Rattle.std.proofs.lemmas.Nat.{le-div, div_below}
use Rattle.std.proofs.lemmas.List.{take_at, drop_at, length-map, length-take, length-drop, same_lists, get_or-map, nil_from_length}
use Rattle.std.proofs.lemmas.List.Elements.{All-filter, All-take}
use Rattle.std.proofs.lemmas.List.Filters.{length-filter_both}
use Rattle.pdq_group.proofs.Puts.{put-folds}
use Rattle.pdq_group.proofs.Keys.{beyond-none}
use Rattle.pdq_group.proofs.Holding.{keys-long}
use Rattle.pdq_group.proofs.Retiring.{keys-beyond, grouped-retired, keys-few, beyond-few}
use Rattle.pdq_spill.specs.Rows.{with_more, AreRows}
use Rattle.pdq_spill.specs.Partitions.{PartitionView, rows_in}
use Rattle.pdq_frame.specs.Regions.{rows_per_frame}
use Rattle.pdq_group.specs.declared.shape.Fold.{Fold}
use Rattle.pdq_group.specs.Folds.{AreFoldable, FitsFolds, put_row, all_put, states_from, folded_from}
use Rattle.pdq_group.specs.Groups.{is_among, is_same, keys_of, rows_of_key, rows_beyond, group_row, group_words, grouped_words, kept_keys}
use Rattle.pdq_group.specs.Tables.{TableView, HasSameShape, Holds, room_of, groups_in, group_width}
use Rattle.pdq_group.specs.Groupers.{TookBy}
use Rattle.pdq_spill.specs.Stores.{StoreView}
use Rattle.pdq_group.specs.Passes.{ReadAgain, Ended, NextPass, passes_for}

-- what was put, with what is still to be put of the rows of the pass that runs, is what is to be put; and so for the passes
pub record Going (rows : List (List ℤ)) (t : TableView) (p : PartitionView) (b : Option (List (List ℕ))) (before now : Option (List (List ℤ))) (steps steps_now w x0 l0 x : ℕ) : Type 0 where
  pub these : List (List ℤ)
  pub took : TookBy t p b these
  pub told : IsSome b
  pub foldable : AreFoldable t.folds t.keys rows → AreFoldable t.folds t.keys these
  pub put : List (List ℤ)
  pub is_put : AreFoldable t.folds t.keys rows → now ≡ with_more before put
  pub all : grouped_words t.keys t.folds rows ≡ put ++ grouped_words t.keys t.folds these
  pub ticks : steps_now + passes_for (length (keys_of t.keys these)) (room_of t) ≡ steps + passes_for (length (keys_of t.keys rows)) (room_of t)
  pub few : length these ≤ length rows
  pub most : x + l0 + passes_for (length (keys_of t.keys these)) (room_of t) * blocks_for (length rows) w ≤ x0 + length p.places + passes_for (length (keys_of t.keys rows)) (room_of t) * blocks_for (length rows) w

-- ---- how many passes

pub room-some : (t : TableView) → 2 ≤ t.frames → group_width t.keys t.folds ≤ 511 → 0 < room_of t
room-some t few high =
    let w : ℕ = group_width t.keys t.folds in
    let r : 1 ≤ rows_per_frame w = le-div 1 512 (w + 1) (omega arith) (omega arith) in
    let m : 1 * rows_per_frame w ≤ (t.frames - 1) * rows_per_frame w = mul-le-mul_right {m = 1} {n = t.frames - 1} (rows_per_frame w) (omega arith) in
    omega (arith, r, m)

pub last-pass : (keys room : ℕ) → 0 < room → keys ≤ room → passes_for keys room ≡ 1
last-pass keys room some l = let d : (keys + (room - 1)) / room < 2 = div_below (keys + (room - 1)) room 2 some (omega arith) in omega (arith, d)

pub more-passes : (keys room : ℕ) → 0 < room → room < keys → passes_for keys room ≡ passes_for (keys - room) room + 1
more-passes keys room some l =
    let x : ℕ = keys - room + (room - 1) in
    let e : keys + (room - 1) ≡ x + room * 1 = omega arith in
    let f : (keys + (room - 1)) / room ≡ x / room + 1 = ap (λ n. n / room) e ∙ add-mul-div_left x 1 some in
    let g : 1 ≤ x / room = le-div 1 x room some (omega arith) in
    omega (arith, f, g)

blocks-mono : (a b w : ℕ) → 1 ≤ w → w ≤ 511 → a ≤ b → blocks_for a w ≤ blocks_for b w
blocks-mono a b w low high l =
    let per : ℕ = 511 / w in
    let p : 1 ≤ per = le-div 1 511 w (omega arith) (omega arith) in
    let d : (a + (per - 1)) / per * per ≤ a + (per - 1) = div-mul-le_self (a + (per - 1)) per in
    le-div ((a + (per - 1)) / per) (b + (per - 1)) per (omega (arith, p)) (omega (arith, d, l))

most-step : (a a' c B b x y x0 l0 l m : ℕ) → a ≡ a' + 1 → x + l0 + a * B ≤ x0 + l + c * B → y + l ≡ x + b + m → b ≤ B → y + l0 + a' * B ≤ x0 + m + c * B
most-step a a' c B b x y x0 l0 l m e h p k =
    let f : a * B ≡ a' * B + B = ap (λ n. n * B) (e ∙ add-one a') ∙ suc-mul a' B in
    omega (arith, f, h, p, k)

most-end : (a c B x x0 l0 l : ℕ) → a ≡ 1 → l ≡ 0 → x + l0 + a * B ≤ x0 + l + c * B → x + l0 ≤ x0 + (c - 1) * B
most-end a zero B x x0 l0 l e f h = let g : a * B ≡ B = ap (λ n. n * B) e ∙ one-mul B in omega (arith, g, f, h)
most-end a (suc c) B x x0 l0 l e f h =
    let g : a * B ≡ B = ap (λ n. n * B) e ∙ one-mul B in
    let k : suc c * B ≡ c * B + B = suc-mul c B in
    let d : suc c - 1 ≡ c = omega arith in
    omega (arith, g, f, h, k, ap (λ n. n * B) d)

-- ---- what a pass puts

filter-few : (p : List ℤ → Bool) (rows : List (List ℤ)) → length (filter p rows) ≤ length rows
filter-few p rows = omega (arith, length-filter_both p (λ x. not (p x)) (λ x. refl) rows)

foldable-key : (folds : List Fold) (n : ℕ) (rows : List (List ℤ)) (k : List ℤ) → AreFoldable folds n rows → AreFoldable folds n (rows_of_key n rows k)
unfolding rows_of_key
foldable-key folds n rows k h = record { words = All-filter (λ row. is_same (take n row) k) (FitsFolds folds n) rows h.words; few = omega (arith, h.few, filter-few (λ row. is_same (take n row) k) rows) }

foldable-beyond : (folds : List Fold) (n room : ℕ) (rows : List (List ℤ)) → AreFoldable folds n rows → AreFoldable folds n (rows_beyond n room rows)
unfolding rows_beyond
foldable-beyond folds n room rows h = record { words = All-filter (λ row. not (is_among (kept_keys n room rows) (take n row))) (FitsFolds folds n) rows h.words; few = omega (arith, h.few, filter-few (λ row. not (is_among (kept_keys n room rows) (take n row))) rows) }

put-group : (n : ℕ) (folds : List Fold) (rows : List (List ℤ)) (k : List ℤ) → length k ≡ n → AreFoldable folds n rows → put_row n folds (group_words n folds rows k) ≡ group_row n folds rows k
unfolding group_words
put-group n folds rows k l h =
    let st : List ℤ = states_from folds n (rows_of_key n rows k) in
    let g : AreFoldable folds n (rows_of_key n rows k) = foldable-key folds n rows k h in
    ap₂ (λ a b. a ++ all_put folds b) (take_at k st n l) (drop_at k st n l) ∙ ap (λ a. k ++ a) (put-folds folds n (rows_of_key n rows k) g.words g.few)

pub put-held : (t : TableView) (rows : List (List ℤ)) → Holds t rows → AreFoldable t.folds t.keys rows → map (put_row t.keys t.folds) t.groups ≡ map (group_row t.keys t.folds rows) (kept_keys t.keys (room_of t) rows)
put-held t rows h f =
    let kept : List (List ℤ) = kept_keys t.keys (room_of t) rows in
    let W : List ℤ → List ℤ = group_words t.keys t.folds rows in
    let P : List ℤ → List ℤ = put_row t.keys t.folds in
    let G : List ℤ → List ℤ = group_row t.keys t.folds rows in
    ap (map P) h.groups ∙ same_lists (map P (map W kept)) (map G kept) (length-map (map W kept) P ∙ length-map kept W ∙ sym (length-map kept G)) (λ i d l.
    let m : i < length kept = omega (arith, l, length-map (map W kept) P, length-map kept W) in
    let inner : i < length (map W kept) = omega (arith, m, length-map kept W) in
    let long : length (get_or kept i []) ≡ t.keys = All-take (λ k. length k ≡ t.keys) (room_of t) (keys_of t.keys rows) (keys-long t.keys (t.keys + length t.folds) (omega arith) rows h.widths) i [] m in
    get_or-map P (map W kept) i [] d inner ∙ ap P (get_or-map W kept i [] [] m) ∙ put-group t.keys t.folds rows (get_or kept i []) long f ∙ sym (get_or-map G kept i [] d m))

with-more-more : (t : Option (List (List ℤ))) (xs ys : List (List ℤ)) → with_more (with_more t xs) ys ≡ with_more t (xs ++ ys)
with-more-more None xs ys = refl
with-more-more (Some l) xs ys = ap Some (append_assoc l xs ys)

with-more-none : (t : Option (List (List ℤ))) → t ≡ with_more t []
with-more-none None = refl
with-more-none (Some l) = ap Some (sym (append-nil l))

no-keys : (n : ℕ) → length (keys_of n []) ≡ 0
unfolding keys_of
no-keys n = refl

no-groups : (n : ℕ) (folds : List Fold) → grouped_words n folds [] ≡ []
unfolding grouped_words keys_of
no-groups n folds = refl

-- ---- the passes

pub going-start : (rows : List (List ℤ)) (t : TableView) (p : PartitionView) (b : Option (List (List ℕ))) (before : Option (List (List ℤ))) (steps w x : ℕ) → TookBy t p b rows → IsSome b → Going rows t p b before before steps steps w x (length p.places) x
going-start rows t p b before steps w x h told = record {
  these = rows;
  took = h;
  told = told;
  foldable = λ f. f;
  put = [];
  is_put = λ f. with-more-none before;
  all = refl;
  ticks = refl;
  few = omega arith;
  most = omega arith;
}

told-same : (b : Option (List (List ℕ))) (p : PartitionView) (xs ys : List (List ℤ)) → IsSome b → IfSome (rows_in p b) (λ l. l ≡ xs) → IfSome (rows_in p b) (λ l. l ≡ ys) → xs ≡ ys
told-same None p xs ys told h k = absurd (cc)
told-same (Some blocks) p xs ys told h k = sym h ∙ k

module _ (rows : List (List ℤ)) (t u : TableView) (p q : PartitionView) (b c : Option (List (List ℕ))) (before now then : Option (List (List ℤ))) (steps steps_now steps_then w x0 l0 x : ℕ) (k : Going rows t p b before now steps steps_now w x0 l0 x) (same : HasSameShape t u) (some : 0 < room_of t)
    (tick : steps_then ≡ steps_now + 1) (put : then ≡ with_more now (map (put_row t.keys t.folds) t.groups)) where
  abbrev n : ℕ
  n = t.keys

  abbrev room : ℕ
  room = room_of t

  abbrev beyond : List (List ℤ)
  beyond = rows_beyond n room k.these

  abbrev groups : List (List ℤ)
  groups = map (group_row n t.folds k.these) (kept_keys n room k.these)

  -- how many keys are left
  left-keys : length (keys_of n beyond) ≡ length (keys_of n k.these) - room
  left-keys = ap length (keys-beyond n room k.these) ∙ length-drop room (keys_of n k.these)

  is-put : AreFoldable t.folds n rows → then ≡ with_more before (k.put ++ groups)
  is-put f = put ∙ ap₂ with_more (k.is_put f) (put-held t k.these k.took.holds (k.foldable f)) ∙ with-more-more before k.put groups

  all-put : grouped_words n t.folds rows ≡ (k.put ++ groups) ++ grouped_words n t.folds beyond
  all-put = k.all ∙ ap (λ l. k.put ++ l) (grouped-retired n room t.folds k.these) ∙ sym (append_assoc k.put groups (grouped_words n t.folds beyond))

  room-same : room_of u ≡ room
  room-same = ap₂ (λ f m. groups_in f m u.folds) same.frames same.keys ∙ ap (groups_in t.frames n) same.folds

  pub going-more : 0 < p.rows → IsSome c → (r : ReadAgain p b u q c) → (y : ℕ) → y + length p.places ≡ x + blocks_for p.rows p.width + length q.places → p.width ≡ w → 1 ≤ w → w ≤ 511 → Going rows u q c before then steps steps_then w x0 l0 y
  going-more left told r y puts wide low high =
      let e : beyond ≡ r.rows = told-same b p beyond r.rows k.told k.took.left r.same in
      let many : room < length (keys_of n k.these) = dite (dec_le (length (keys_of n k.these)) room)
      (λ le. absurd (let z : length beyond ≡ 0 = ap length (beyond-none n room k.these le) in omega (arith, z, left, k.took.count))) (λ gt. omega arith) in
      let ticks : steps_then + passes_for (length (keys_of n beyond)) room ≡ steps + passes_for (length (keys_of n rows)) room =
      omega (arith, tick, k.ticks, more-passes (length (keys_of n k.these)) room some many, ap (λ m. passes_for m room) left-keys) in
      let again : passes_for (length (keys_of n k.these)) room ≡ passes_for (length (keys_of n beyond)) room + 1 = more-passes (length (keys_of n k.these)) room some many ∙ ap (λ m. passes_for m room + 1) (sym left-keys) in
      let fewer : length beyond ≤ length k.these = omega (arith, beyond-few n room k.these) in
      let blocks : blocks_for p.rows p.width ≤ blocks_for (length rows) w = subst (λ v. blocks_for p.rows v ≤ blocks_for (length rows) w) (sym wide) (blocks-mono p.rows (length rows) w low high (omega (arith, k.took.count, fewer, k.few))) in
      let bound = most-step (passes_for (length (keys_of n k.these)) room) (passes_for (length (keys_of n beyond)) room) (passes_for (length (keys_of n rows)) room) (blocks_for (length rows) w) (blocks_for p.rows p.width) x y x0 l0 (length p.places) (length q.places) again k.most puts blocks in
      record {
        these = r.rows;
        took = r.took;
        told = told;
        foldable = λ f. subst (λ m. AreFoldable u.folds m r.rows) (sym same.keys) (subst (λ g. AreFoldable g n r.rows) (sym same.folds) (subst (AreFoldable t.folds n) e (foldable-beyond t.folds n room k.these (k.foldable (subst (λ m. AreFoldable t.folds m rows) same.keys (subst (λ g. AreFoldable g u.keys rows) same.folds f))))));
        put = k.put ++ groups;
        is_put = λ f. is-put (subst (λ m. AreFoldable t.folds m rows) same.keys (subst (λ g. AreFoldable g u.keys rows) same.folds f));
        all = ap₂ (λ m g. grouped_words m g rows) same.keys same.folds ∙ all-put ∙ ap (λ l. (k.put ++ groups) ++ grouped_words n t.folds l) e ∙ sym (ap₂ (λ m g. (k.put ++ groups) ++ grouped_words m g r.rows) same.keys same.folds);
        ticks = ap₂ (λ m l. steps_then + passes_for (length (keys_of m r.rows)) l) same.keys room-same ∙ ap (λ l. steps_then + passes_for (length (keys_of n l)) room) (sym e) ∙ ticks ∙ sym (ap₂ (λ m l. steps + passes_for (length (keys_of m rows)) l) same.keys room-same);
        few = omega (arith, ap length e, fewer, k.few);
        most = subst (λ m. y + l0 + passes_for (length (keys_of m r.rows)) (room_of u) * blocks_for (length rows) w ≤ x0 + length q.places + passes_for (length (keys_of m rows)) (room_of u) * blocks_for (length rows) w) (sym same.keys)
            (subst (λ m. y + l0 + passes_for (length (keys_of n r.rows)) m * blocks_for (length rows) w ≤ x0 + length q.places + passes_for (length (keys_of n rows)) m * blocks_for (length rows) w) (sym room-same)
            (subst (λ l. y + l0 + passes_for (length (keys_of n l)) room * blocks_for (length rows) w ≤ x0 + length q.places + passes_for (length (keys_of n rows)) room * blocks_for (length rows) w) e bound));
      }

  pub going-end : p.rows ≡ 0 → (AreFoldable t.folds n rows → then ≡ with_more before (grouped_words n t.folds rows)) × (steps_then ≡ steps + passes_for (length (keys_of n rows)) room) × (x + l0 ≤ x0 + (passes_for (length (keys_of n rows)) room - 1) * blocks_for (length rows) w)
  going-end none =
      let e : beyond ≡ [] = nil_from_length beyond (sym k.took.count ∙ none) in
      let keys : length (keys_of n beyond) ≡ 0 = ap (λ l. length (keys_of n l)) e ∙ no-keys n in
      let few : length (keys_of n k.these) ≤ room = omega (arith, left-keys, keys) in (
        λ f. is-put f ∙ ap (with_more before) (sym (all-put ∙ ap (λ l. (k.put ++ groups) ++ grouped_words n t.folds l) e ∙ ap (λ l. (k.put ++ groups) ++ l) (no-groups n t.folds) ∙ append-nil (k.put ++ groups))),
        omega (arith, tick, k.ticks, last-pass (length (keys_of n k.these)) room some few),
        most-end (passes_for (length (keys_of n k.these)) room) (passes_for (length (keys_of n rows)) room) (blocks_for (length rows) w) x x0 l0 (length p.places) (last-pass (length (keys_of n k.these)) room some few) (ap length (k.took.empty none)) k.most,
      )

pub room-kept : (t u : TableView) → HasSameShape t u → 0 < room_of t → 0 < room_of u
room-kept t u same some = subst (λ r. 0 < r) (sym (ap₂ (λ f m. groups_in f m u.folds) same.frames same.keys ∙ ap (groups_in t.frames t.keys) same.folds)) some

pub least-step : (p0 l0 l b0 bl p pn ln bn : ℕ) → p0 + l + (b0 - bl) ≤ p + l0 → pn + l ≡ p + bl + ln → p0 + ln + (b0 - bn) ≤ pn + l0
least-step p0 l0 l b0 bl p pn ln bn h e = omega arith

pub last-of : (w : ℕ) (left : PartitionView) (t : TableView) (s now : StoreView) (o : Option PartitionView) → ((n : PartitionView) → o ≡ Some n → ⊥) → NextPass w left t s now o → left.rows ≡ 0
last-of w left t s now None h n = n.0
last-of w left t s now (Some p) h n = absurd (h p refl)

pub ended-same : (t u : TableView) (rows : List (List ℤ)) (before now : Option (List (List ℤ))) (steps steps_now w x0 l0 x : ℕ) → HasSameShape t u
    → (AreFoldable u.folds u.keys rows → now ≡ with_more before (grouped_words u.keys u.folds rows)) × (steps_now ≡ steps + passes_for (length (keys_of u.keys rows)) (room_of u)) × (x + l0 ≤ x0 + (passes_for (length (keys_of u.keys rows)) (room_of u) - 1) * blocks_for (length rows) w) → Ended t rows before now steps steps_now w x0 l0 x
ended-same t u rows before now steps steps_now w x0 l0 x same h = record {
  put = λ f. h.0 (subst (λ m. AreFoldable u.folds m rows) (sym same.keys) (subst (λ g. AreFoldable g t.keys rows) (sym same.folds) f)) ∙ ap₂ (λ m g. with_more before (grouped_words m g rows)) same.keys same.folds;
  blocks = subst (λ m. x + l0 ≤ x0 + (passes_for (length (keys_of m rows)) (room_of t) - 1) * blocks_for (length rows) w) same.keys (subst (λ r. x + l0 ≤ x0 + (passes_for (length (keys_of u.keys rows)) r - 1) * blocks_for (length rows) w) (ap₂ (λ f m. groups_in f m u.folds) same.frames same.keys ∙ ap (groups_in t.frames t.keys) same.folds) h.2);
  ticks = h.1 ∙ ap₂ (λ m r. steps + passes_for (length (keys_of m rows)) r) same.keys (ap₂ (λ f m. groups_in f m u.folds) same.frames same.keys ∙ ap (groups_in t.frames t.keys) same.folds);
}

-- enough blocks are put for the keys without room
pub end-least : (t : TableView) (p : PartitionView) (b : Option (List (List ℕ))) (rows : List (List ℤ)) (before after held : ℕ) → TookBy t p b rows → p.width ≡ t.keys + length t.folds → 1 ≤ t.keys + length t.folds → t.keys + length t.folds ≤ 511
    → before + blocks_for p.rows p.width ≤ after + held → before + blocks_beyond (length (keys_of t.keys rows)) (t.frames * rows_per_frame (group_width t.keys t.folds)) (t.keys + length t.folds) ≤ after + held
end-least t p b rows before after held h w low high l =
    let r : ℕ = rows_per_frame (group_width t.keys t.folds) in
    let keys : length (keys_of t.keys (rows_beyond t.keys (room_of t) rows)) ≡ length (keys_of t.keys rows) - room_of t = ap length (keys-beyond t.keys (room_of t) rows) ∙ length-drop (room_of t) (keys_of t.keys rows) in
    let few : length (keys_of t.keys (rows_beyond t.keys (room_of t) rows)) ≤ length (rows_beyond t.keys (room_of t) rows) = keys-few t.keys (rows_beyond t.keys (room_of t) rows) in
    let room : room_of t ≤ t.frames * r = mul-le-mul_right {m = t.frames - 1} {n = t.frames} r (omega arith) in
    let many : length (keys_of t.keys rows) - t.frames * r ≤ p.rows = omega (arith, keys, few, room, h.count) in
    let m : blocks_for (length (keys_of t.keys rows) - t.frames * r) (t.keys + length t.folds) ≤ blocks_for p.rows (t.keys + length t.folds) = blocks-mono (length (keys_of t.keys rows) - t.frames * r) p.rows (t.keys + length t.folds) low high many in
    let s : blocks_for p.rows p.width ≡ blocks_for p.rows (t.keys + length t.folds) = ap (blocks_for p.rows) w in
    le-sum before (blocks_for (length (keys_of t.keys rows) - t.frames * r) (t.keys + length t.folds)) (blocks_for p.rows (t.keys + length t.folds)) (blocks_for p.rows p.width) (after + held) m s l
  where
    le-sum : (a x y z c : ℕ) → x ≤ y → z ≡ y → a + z ≤ c → a + x ≤ c
    le-sum a x y z c h e l = omega arith

pub last-puts : (w : ℕ) (left : PartitionView) (t : TableView) (s now : StoreView) (o : Option PartitionView) → ((n : PartitionView) → o ≡ Some n → ⊥) → NextPass w left t s now o → now.puts ≡ s.puts
last-puts w left t s now None h n = n.3
last-puts w left t s now (Some p) h n = absurd (h p refl)

pub last-store : (w : ℕ) (left : PartitionView) (t : TableView) (s now : StoreView) (o : Option PartitionView) → ((n : PartitionView) → o ≡ Some n → ⊥) → NextPass w left t s now o → (now.blocks ≡ s.blocks) × (now.held ≡ s.held)
last-store w left t s now None h n = (n.1, n.2)
last-store w left t s now (Some p) h n = absurd (h p refl)

-- as many groups stand as keys were kept
pub groups-kept : (t : TableView) (p : PartitionView) (b : Option (List (List ℕ))) (rows : List (List ℤ)) → TookBy t p b rows → length t.groups ≡ min (length (keys_of t.keys rows)) (room_of t)
groups-kept t p b rows h =
    let made : length t.groups ≡ length (kept_keys t.keys (room_of t) rows) = ap length h.holds.groups ∙ length-map (kept_keys t.keys (room_of t) rows) (group_words t.keys t.folds rows) in
    omega (arith, made, length-take (room_of t) (keys_of t.keys rows))
