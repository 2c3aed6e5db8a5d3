-- From what the owners took and put to the groups of all rows.
use Rattle.std.proofs.Common.{◌≡◌, ℕ, zero, suc, ◌+◌, ◌<◌, ◌≤◌, ◌==◌, List, [], ◌∷◌, ◌++◌, length, get_or, map, refl, sym, ap, ap₂, ◌∙◌, subst, arith, filter, flat_map, sum_by, All, IsPermutation, Bool, true, false, cond}
use Rattle.std.specs.Prelude.{IsSome}
use Rattle.std.specs.List.{range_with_len}
use Rattle.std.proofs.lemmas.Nat.{le-div}
use Rattle.std.proofs.lemmas.List.{get_or-map, length-map}
use Rattle.std.proofs.lemmas.List.Concat.{length-flat_map}
use Rattle.std.proofs.lemmas.List.Elements.{All-filter, All-head, All-tail}
use Rattle.std.proofs.lemmas.List.FromFn.{length-range_with_len}
use Rattle.std.proofs.lemmas.List.Sorted.{All-permutation, length_permutation}
use Rattle.std.proofs.lemmas.List.Sums.{sum_by-cons}
use Rattle.pdq_spill.specs.Blocks.{blocks_beyond, rows_per_block}
use Rattle.pdq_spill.proofs.Growing.{grown-told}
use Rattle.pdq_spill.specs.declared.bench.Bench.{Bench}
use Rattle.pdq_exchange.specs.Batches.{Row}
use Rattle.pdq_exchange.specs.Routing.{owner_of}
use Rattle.pdq_exchange.specs.declared.desk.Desk.{Desk}
use Rattle.pdq_exchange.proofs.Spread.{owner_within}
use Rattle.pdq_group.specs.declared.shape.Fold.{Fold}
use Rattle.pdq_group.specs.declared.grouper.Folded.{Folded}
use Rattle.pdq_group.specs.Folds.{AreFoldable, FitsFolds}
use Rattle.pdq_group.specs.Groups.{grouped_words, keys_of, rows_beyond}
use Rattle.pdq_group.specs.Groupers.{GrouperView, KeepsShape, Took, blocks_put}
use Rattle.pdq_group.specs.Tables.{group_width}
use Rattle.pdq_eval.specs.Laws.{Share, blocks_of_share}
use Rattle.pdq_eval.specs.Overflow.{rows_in_frames}
use Rattle.pdq_eval.specs.Owners.{gathered, owners, part}
use Rattle.pdq_eval.proofs.Blocks.{shares_put_enough}
use Rattle.pdq_eval.proofs.Matched.{parts_whole}
use Rattle.pdq_eval.proofs.Stages.{owners_keys_add_up}
use Rattle.pdq_owner.specs.Folders.{FolderView}
use Rattle.pdq_gather.specs.Homes.{Each}
use Rattle.pdq_gather.specs.Groups.{AreAlike, GroupedInto, IsReceipt, PutEnough, PutGroups, PutsAtLeast, Ready, groupers_at, puts_of}
use Rattle.pdq_gather.proofs.Lists.{Each-at, Each-from, Each-length, first_of}

-- a store that tells its blocks still does when more were put
pub told-after : (g h : GrouperView) → KeepsShape g h → IsSome g.store.blocks → IsSome h.store.blocks
told-after g h k t = grown-told g.store h.store k.grown t

-- a grouper that took no row has put no block
none-put : (g : GrouperView) → Took g [] → blocks_put g ≡ 0
unfolding rows_beyond
none-put g t = ap (λ (l : List ℕ). length l) (t.taken.empty t.taken.count)

foldable-part : (folds : List Fold) (keys : ℕ) (f : Row → Bool) (rows : List Row) → AreFoldable folds keys rows → AreFoldable folds keys (filter f rows)
foldable-part folds keys f rows h = record { words = All-filter f (λ row. FitsFolds folds keys row) rows h.words; few = omega (arith, few rows, h.few) }
  where
    few : (xs : List Row) → length (filter f xs) ≤ length xs
    few [] = omega arith
    few (x ∷ xs) = by (f x) (few xs)
      where
        by : (b : Bool) → length (filter f xs) ≤ length xs → length (cond b (x ∷ filter f xs) (filter f xs)) ≤ suc (length xs)
        by true k = omega (arith, k)
        by false k = omega (arith, k)

get-range : {Y : Type 0} (p : ℕ → Y) (m n j : ℕ) (d : Y) → j < n → get_or (map p (range_with_len m n)) j d ≡ p (m + j)
get-range p m zero j d l = absurd (omega (arith, l))
get-range p m (suc n) zero d l = ap p (omega arith)
get-range p m (suc n) (suc j) d l = get-range p (m + 1) n j d (omega (arith, l)) ∙ ap p (omega arith)

-- owner by owner, over a range
puts-from : (keys : ℕ) (folds : List Fold) (p : ℕ → List Row) (ds : List (Desk FolderView)) (m : ℕ) → All (λ d. d.owner.grouper.table.keys ≡ keys) ds → All (λ d. d.owner.grouper.table.folds ≡ folds) ds →
    puts_of ds (map p (range_with_len m (length ds))) ≡ flat_map (λ j. grouped_words keys folds (p j)) (range_with_len m (length ds))
puts-from keys folds p [] m h k = refl
puts-from keys folds p (d ∷ ds) m h k =
    ap₂ (λ (a b : List Row). a ++ b) (ap₂ (λ (x : ℕ) (y : List Fold). grouped_words x y (p m)) (All-head (λ d. d.owner.grouper.table.keys ≡ keys) d ds h) (All-head (λ d. d.owner.grouper.table.folds ≡ folds) d ds k))
    (puts-from keys folds p ds (m + 1) (All-tail (λ d. d.owner.grouper.table.keys ≡ keys) d ds h) (All-tail (λ d. d.owner.grouper.table.folds ≡ folds) d ds k))

rows-from : (p : ℕ → List Row) (ds : List (Desk FolderView)) (fs : List Folded) (m : ℕ) → Each IsReceipt ds fs → ((j : ℕ) (d : Desk FolderView) → j < length ds → length (p (m + j)) ≡ (get_or ds j d).owner.grouper.rows) → sum_by (λ f. f.rows) fs ≡ sum_by (λ j. length (p j)) (range_with_len m (length ds))
rows-from p [] [] m h k = refl
rows-from p [] (f ∷ fs) m h k = absurd h
rows-from p (d ∷ ds) [] m h k = absurd h
rows-from p (d ∷ ds) (f ∷ fs) m h k =
    sum_by-cons (λ (x : Folded). x.rows) f fs
    ∙ (ap₂ (λ (a b : ℕ). a + b) (h.0.rows ∙ (sym (k 0 d (omega arith)) ∙ ap (λ (x : ℕ). length (p x)) (omega arith)))
    (rows-from p ds fs (m + 1) h.1 (λ j e l. ap (λ (x : ℕ). length (p x)) (omega arith) ∙ k (suc j) e (omega (arith, l))))
    ∙ sym (sum_by-cons (λ j. length (p j)) m (range_with_len (m + 1) (length ds))))

-- what each owner must put beyond its frames
shares-from : ℕ → (ℕ → ℕ) → List GrouperView → List Share
shares-from m count [] = []
shares-from m count (g ∷ gs) = record { rows = count m; frames = g.table.frames } ∷ shares-from (m + 1) count gs

shares-rows : (m : ℕ) (count : ℕ → ℕ) (gs : List GrouperView) → sum_by (λ s. s.rows) (shares-from m count gs) ≡ sum_by count (range_with_len m (length gs))
unfolding shares-from
shares-rows m count [] = refl
shares-rows m count (g ∷ gs) = sum_by-cons (λ (s : Share). s.rows) (record { rows = count m; frames = g.table.frames }) (shares-from (m + 1) count gs) ∙ (ap (λ (n : ℕ). count m + n) (shares-rows (m + 1) count gs) ∙ sym (sum_by-cons count m (range_with_len (m + 1) (length gs))))

shares-frames : (m : ℕ) (count : ℕ → ℕ) (gs : List GrouperView) → sum_by (λ s. s.frames) (shares-from m count gs) ≡ sum_by (λ g. g.table.frames) gs
unfolding shares-from
shares-frames m count [] = refl
shares-frames m count (g ∷ gs) = sum_by-cons (λ (s : Share). s.frames) (record { rows = count m; frames = g.table.frames }) (shares-from (m + 1) count gs) ∙ (ap (λ (n : ℕ). g.table.frames + n) (shares-frames (m + 1) count gs) ∙ sym (sum_by-cons (λ (x : GrouperView). x.table.frames) g gs))

module _ {S : Type 0} (puts : S → ℕ) (keys : ℕ) (folds : List Fold) where
  -- one owner, from when it took no row
  one-least : (g : GrouperView) (d : Desk FolderView) (b : Bench S) (rows : List Row) → g.table.keys ≡ keys → g.table.folds ≡ folds → Took g [] → KeepsShape g d.owner.grouper → Took d.owner.grouper rows → PutsAtLeast puts d b →
      g.store.puts + blocks_beyond (length (keys_of keys rows)) (rows_in_frames g.table.frames (group_width keys folds)) (keys + length folds) ≤ puts b.store
  one-least g d b rows ek ef none k took least =
      let h = d.owner.grouper in
      let said : h.store.puts + blocks_beyond (length (keys_of keys rows)) (rows_in_frames g.table.frames (group_width keys folds)) (keys + length folds) ≤ puts b.store + blocks_put h =
      subst (λ (f : ℕ). h.store.puts + blocks_beyond (length (keys_of keys rows)) (rows_in_frames f (group_width keys folds)) (keys + length folds) ≤ puts b.store + blocks_put h) k.frames
      (subst (λ (x : ℕ). h.store.puts + blocks_beyond (length (keys_of x rows)) (rows_in_frames h.table.frames (group_width x folds)) (x + length folds) ≤ puts b.store + blocks_put h) (k.keys ∙ ek)
      (subst (λ (x : List Fold). h.store.puts + blocks_beyond (length (keys_of h.table.keys rows)) (rows_in_frames h.table.frames (group_width h.table.keys x)) (h.table.keys + length x) ≤ puts b.store + blocks_put h) (k.folds ∙ ef) (least.least rows took))) in
      let n = blocks_beyond (length (keys_of keys rows)) (rows_in_frames g.table.frames (group_width keys folds)) (keys + length folds) in
      let said2 : h.store.puts + n ≤ puts b.store + blocks_put h = said in
      omega (arith, said2, k.grown.puts, k.blocks, none-put g none)

  -- all of them
  all-least : (p : ℕ → List Row) (gs : List GrouperView) (ds : List (Desk FolderView)) (bs : List (Bench S)) (m : ℕ) → AreAlike keys folds gs → All (λ g. Took g []) gs → Each KeepsShape gs (groupers_at ds) → Each (PutsAtLeast puts) ds bs →
      ((j : ℕ) (d : Desk FolderView) → j < length ds → Took (get_or ds j d).owner.grouper (p (m + j))) →
      sum_by (λ g. g.store.puts) gs + sum_by (blocks_of_share (group_width keys folds) (keys + length folds)) (shares-from m (λ j. length (keys_of keys (p j))) gs) ≤ sum_by (λ b. puts b.store) bs
  unfolding shares-from
  all-least p [] [] [] m alike none k least took = omega arith
  all-least p [] [] (b ∷ bs) m alike none k least took = absurd least
  all-least p [] (d ∷ ds) bs m alike none k least took = absurd k
  all-least p (g ∷ gs) [] bs m alike none k least took = absurd k
  all-least p (g ∷ gs) (d ∷ ds) [] m alike none k least took = absurd least
  all-least p (g ∷ gs) (d ∷ ds) (b ∷ bs) m alike none k least took =
      let s : Share = record { rows = length (keys_of keys (p m)); frames = g.table.frames } in
      let rest = shares-from (m + 1) (λ j. length (keys_of keys (p j))) gs in
      let of = blocks_of_share (group_width keys folds) (keys + length folds) in
      let here : g.store.puts + of s ≤ puts b.store = one-least g d b (p m) (All-head (λ g. g.table.keys ≡ keys) g gs alike.keys_are) (All-head (λ g. g.table.folds ≡ folds) g gs alike.folds_are) (All-head (λ g. Took g []) g gs none) k.0
      (subst (λ (x : ℕ). Took d.owner.grouper (p x)) (omega arith) (took 0 d (omega arith))) least.0 in
      let later : sum_by (λ g. g.store.puts) gs + sum_by of rest ≤ sum_by (λ b. puts b.store) bs = all-least p gs ds bs (m + 1) (record { keys_are = All-tail (λ g. g.table.keys ≡ keys) g gs alike.keys_are; folds_are = All-tail (λ g. g.table.folds ≡ folds) g gs alike.folds_are }) (All-tail (λ g. Took g []) g gs none) k.1 least.1
      (λ j e l. subst (λ (x : ℕ). Took (get_or ds j e).owner.grouper (p x)) (omega arith) (took (suc j) e (omega (arith, l)))) in
      let a = sum_by-cons (λ (x : GrouperView). x.store.puts) g gs in
      let c = sum_by-cons of s rest in
      let e = sum_by-cons (λ (x : Bench S). puts x.store) b bs in
      omega (arith, here, later, a, c, e)

pub same-width : (keys : ℕ) (folds : List Fold) (width : ℕ) (gs : List GrouperView) → 0 < length gs → AreAlike keys folds gs → All (λ g. g.table.keys + length g.table.folds ≡ width) gs → keys + length folds ≡ width
same-width keys folds width gs l alike h =
    let g = first_of gs l in
    ap₂ (λ (k : ℕ) (fs : List Fold). k + length fs) (sym (alike.keys_are 0 g l)) (sym (alike.folds_are 0 g l)) ∙ h 0 g l

some-rows : (w : ℕ) → 1 ≤ w → w ≤ 511 → 0 < rows_per_block w
some-rows w low high = le-div 1 511 w low (omega (arith, high))

module _ (n : ℕ) (some : 0 < n) (all : List GrouperView) (ds : List (Desk FolderView)) (count : length ds ≡ n) (keys_at : List ℕ) (sent : List Row)
    (took : (j : ℕ) (d : Desk FolderView) → j < length ds → Took (get_or ds j d).owner.grouper (part (owner_of keys_at n) j sent)) where
  abbrev mine : ℕ → List Row
  mine j = part (owner_of keys_at n) j sent

  -- the receipts' rows are those that were sent
  pub counted : (fs : List Folded) → Each IsReceipt ds fs → sum_by (λ f. f.rows) fs ≡ length sent
  counted fs h =
      rows-from mine ds fs 0 h (λ j d l. ap (λ (x : ℕ). length (mine x)) (omega arith) ∙ (took j d l).count)
      ∙ (ap (λ (m : ℕ). sum_by (λ j. length (mine j)) (range_with_len 0 m)) count
      ∙ (sym (length-flat_map mine (owners n)) ∙ length_permutation sent (gathered n mine) (parts_whole (owner_of keys_at n) n (λ x. owner_within keys_at n x some) sent)))

  module _ (keys : ℕ) (folds : List Fold) (ek : keys_at ≡ range_with_len 0 keys) (alike : AreAlike keys folds all) (shapes : Each KeepsShape all (groupers_at ds)) where
    many : length all ≡ n
    many = sym (Each-length KeepsShape all (groupers_at ds) shapes) ∙ (length-map ds (λ (desk : Desk FolderView). desk.owner.grouper) ∙ count)

    shape-at : (j : ℕ) (d : Desk FolderView) → j < n → KeepsShape (get_or all j d.owner.grouper) (get_or ds j d).owner.grouper
    shape-at j d l = subst (λ (x : GrouperView). KeepsShape (get_or all j d.owner.grouper) x) (get_or-map (λ (desk : Desk FolderView). desk.owner.grouper) ds j d d.owner.grouper (omega (arith, l, count)))
        (Each-at KeepsShape all (groupers_at ds) shapes j d.owner.grouper d.owner.grouper (omega (arith, l, many)))

    abbrev by_key : ℕ → List Row
    by_key j = part (owner_of (range_with_len 0 keys) n) j sent

    by-keys : mine ≡ by_key
    by-keys = let by : List ℕ → ℕ → List Row = λ ks j. part (owner_of ks n) j sent in ap by ek

    -- all groups of the rows were put
    pub grouped-into : All (λ g. IsSome g.store.blocks) all → (before now : List Row) → before ≡ [] → PutGroups ds before now → (rows : List Row) → AreFoldable folds keys rows → IsPermutation rows sent → GroupedInto keys folds n rows now
    grouped-into told before now none puts rows fits same =
        let keys_of : All (λ d. d.owner.grouper.table.keys ≡ keys) ds = λ j d l. (shape-at j d (omega (arith, l, count))).keys ∙ alike.keys_are j d.owner.grouper (omega (arith, l, count, many)) in
        let folds_of : All (λ d. d.owner.grouper.table.folds ≡ folds) ds = λ j d l. (shape-at j d (omega (arith, l, count))).folds ∙ alike.folds_are j d.owner.grouper (omega (arith, l, count, many)) in
        let sent_fits : AreFoldable folds keys sent = record { words = All-permutation (λ row. FitsFolds folds keys row) rows sent same fits.words; few = omega (arith, fits.few, length_permutation rows sent same) } in
        let xs = map mine (range_with_len 0 (length ds)) in
        let ready : Each Ready ds xs = Each-from Ready ds xs (length-map (range_with_len 0 (length ds)) mine ∙ length-range_with_len 0 (length ds)) (λ j d e l.
        let m : j < n = omega (arith, l, count) in
        subst (λ (x : List Row). Ready (get_or ds j d) x) (sym (get-range mine 0 (length ds) j e l ∙ ap mine (omega arith)))
        (record {
          holds = took j d l;
          told = told-after (get_or all j d.owner.grouper) (get_or ds j d).owner.grouper (shape-at j d m) (told j d.owner.grouper (omega (arith, m, many)));
          fits = subst (λ (fs : List Fold). AreFoldable fs (get_or ds j d).owner.grouper.table.keys (mine j)) (sym (folds_of j d l)) (subst (λ (k : ℕ). AreFoldable folds k (mine j)) (sym (keys_of j d l)) (foldable-part folds keys (λ x. owner_of keys_at n x == j) sent sent_fits));
        })) in
        record {
          sent = sent;
          same = same;
          are = puts.put xs ready ∙ (ap (λ (l : List Row). l ++ puts_of ds xs) none ∙ (puts-from keys folds mine ds 0 keys_of folds_of
              ∙ (ap (λ (m : ℕ). flat_map (λ j. grouped_words keys folds (mine j)) (range_with_len 0 m)) count
              ∙ ap (λ (f : ℕ → List Row). gathered n (λ j. grouped_words keys folds (f j))) by-keys)));
        }

    -- and the blocks of those that did not fit
    pub put-enough : {S : Type 0} (puts : S → ℕ) (bs : List (Bench S)) → 1 ≤ keys + length folds → keys + length folds ≤ 511 → All (λ g. Took g []) all → Each (PutsAtLeast puts) ds bs → (rows : List Row) → IsPermutation rows sent → PutEnough puts keys folds rows all bs
    put-enough puts bs low high none least rows same =
        let count_of : ℕ → ℕ = λ j. length (keys_of keys (mine j)) in
        let shares = shares-from 0 count_of all in
        let w = keys + length folds in
        let gw = group_width keys folds in
        let each = all-least puts keys folds mine all ds bs 0 alike none shapes least (λ j d l. subst (λ (x : ℕ). Took (get_or ds j d).owner.grouper (mine x)) (omega arith) (took j d l)) in
        let total : sum_by (λ (s : Share). s.rows) shares ≡ length (keys_of keys sent) =
        shares-rows 0 count_of all ∙ (ap (λ (m : ℕ). sum_by count_of (range_with_len 0 m)) many
        ∙ (ap (λ (f : ℕ → List Row). sum_by (λ j. length (keys_of keys (f j))) (owners n)) by-keys ∙ owners_keys_add_up keys n some sent)) in
        let frames : sum_by (λ (s : Share). s.frames) shares ≡ sum_by (λ g. g.table.frames) all = shares-frames 0 count_of all in
        let enough = shares_put_enough gw w (some-rows w low high) shares in
        let at_least : blocks_beyond (length (keys_of keys sent)) (rows_in_frames (sum_by (λ g. g.table.frames) all) gw) w ≤ sum_by (blocks_of_share gw w) shares =
        subst (λ (x : ℕ). blocks_beyond x (rows_in_frames (sum_by (λ g. g.table.frames) all) gw) w ≤ sum_by (blocks_of_share gw w) shares) total
        (subst (λ (x : ℕ). blocks_beyond (sum_by (λ (s : Share). s.rows) shares) (rows_in_frames x gw) w ≤ sum_by (blocks_of_share gw w) shares) frames enough) in
        let b = blocks_beyond (length (keys_of keys sent)) (rows_in_frames (sum_by (λ g. g.table.frames) all) gw) w in
        let s = sum_by (blocks_of_share gw w) shares in
        let p : b ≤ s = at_least in
        let q : sum_by (λ g. g.store.puts) all + s ≤ sum_by (λ b. puts b.store) bs = each in
        record { sent = sent; same = same; least = omega (arith, p, q) }
