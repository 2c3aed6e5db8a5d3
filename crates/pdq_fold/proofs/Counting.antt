-- How many words and blocks groups take.
use Rattle.std.proofs.Common.{◌≡◌, ℕ, zero, suc, ◌+◌, ◌-◌, ◌*◌, ◌/◌, ◌<◌, ◌≤◌, List, [], ◌∷◌, ◌||◌, Bool, true, false, true≢false, length, map, take, refl, sym, ap, ◌∙◌, arith, ltb, IsPermutation}
use Rattle.std.specs.List.{list_any}
use Rattle.std.proofs.Math.Nat.{div-lt_iff_lt-mul}
use Rattle.std.proofs.lemmas.Nat.{le-div}
use Rattle.std.proofs.lemmas.Bool.Decides.{nat_tests}
use Rattle.std.proofs.lemmas.List.Sorted.{IsPermutation-map, length_permutation}
use Rattle.pdq_query.specs.declared.query.Item.{Item}
use Rattle.pdq_query.specs.declared.query.Item.TheVariants as item
use Rattle.pdq_query.specs.Queries.{QueryView}
use Rattle.pdq_query.specs.Folds.{is_fold, is_grouped}
use Rattle.pdq_plan.specs.Lists.{once}
use Rattle.pdq_frame.specs.Regions.{rows_per_frame}
use Rattle.pdq_spill.specs.Blocks.{blocks_beyond, rows_per_block}
use Rattle.pdq_exchange.specs.Batches.{Row}
use Rattle.pdq_group.specs.Groups.{is_same, keys_of}
use Rattle.pdq_group.specs.Tables.{group_width}
use Rattle.pdq_group.proofs.Keys.{same_is}
use Rattle.pdq_eval.specs.Overflow.{rows_in_frames}
use Rattle.pdq_eval.specs.Results.{folds, folds_of}
use Rattle.pdq_eval.proofs.Keys.{IsDistinct-once, distinct-IsPermutation, is_member-once, member_moves}
use Rattle.pdq_eval.proofs.KeysOnce.{keys_of-once}
use Rattle.pdq_fold.specs.Folding.{input_width}

-- at most one fold for each item
pub few-folds : (items : List Item) → length (folds_of items) ≤ length items
few-folds [] = omega arith
few-folds (item.Plain a ∷ is) = omega (arith, few-folds is)
few-folds (item.Sum a ∷ is) = omega (arith, few-folds is)
few-folds (item.Avg a ∷ is) = omega (arith, few-folds is)
few-folds (item.Min a ∷ is) = omega (arith, few-folds is)
few-folds (item.Max a ∷ is) = omega (arith, few-folds is)
few-folds (item.Count ∷ is) = omega (arith, few-folds is)

some-fold : (items : List Item) → list_any is_fold items ≡ true → 0 < length (folds_of items)
some-fold [] e = absurd (true≢false (sym e))
some-fold (item.Plain a ∷ is) e = some-fold is e
some-fold (item.Sum a ∷ is) e = omega arith
some-fold (item.Avg a ∷ is) e = omega arith
some-fold (item.Min a ∷ is) e = omega arith
some-fold (item.Max a ∷ is) e = omega arith
some-fold (item.Count ∷ is) e = omega arith

above-none : (n : ℕ) → ltb 0 n ≡ true → 0 < n
above-none n e = grind (arith, nat_tests)

-- a query with a fold or GROUP BY hands some word to groupers
pub some-word : (q : QueryView) → folds q ≡ true → 1 ≤ input_width q
some-word q e = by (is_grouped q) refl
  where
    by : (b : Bool) → is_grouped q ≡ b → 1 ≤ length q.groups + length (folds_of q.items)
    by true g = omega (arith, above-none (length q.groups) g)
    by false g = omega (arith, some-fold q.items (ap (λ (b : Bool). b || list_any is_fold q.items) (sym g) ∙ e))

pub few-words : (q : QueryView) → length q.groups ≤ 16 → length q.items ≤ 16 → group_width (length q.groups) (folds_of q.items) ≤ 511
few-words q a b = omega (arith, a, b, few-folds q.items)

-- the keys of rows in another order are as many
pub keys-moved : (n : ℕ) (xs ys : List Row) → IsPermutation xs ys → length (keys_of n ys) ≡ length (keys_of n xs)
keys-moved n xs ys h =
    let us = map (take n) xs in
    let vs = map (take n) ys in
    let moved = distinct-IsPermutation is_same same_is (once is_same us) (once is_same vs) (IsDistinct-once is_same same_is us) (IsDistinct-once is_same same_is vs)
    (λ k. is_member-once is_same same_is us k ∙ member_moves is_same same_is us vs (IsPermutation-map (take n) xs ys h) k ∙ sym (is_member-once is_same same_is vs k)) in
    ap (λ (ks : List Row). length ks) (keys_of-once n ys) ∙ (length_permutation (once is_same us) (once is_same vs) moved ∙ sym (ap (λ (ks : List Row). length ks) (keys_of-once n xs)))

less-than-one : (k d : ℕ) → 0 < d → k < d → k / d < 1
less-than-one k d some h = (div-lt_iff_lt-mul {k = d} {x = k} {y = 1} some).1 (omega (arith, h))

-- rows that fit take no block
pub none-beyond : (rows room put : ℕ) → rows ≤ room → 0 < rows_per_block put → blocks_beyond rows room put ≡ 0
none-beyond rows room put h some =
    let none : rows - room ≡ 0 = omega (arith, h) in
    let p = less-than-one ((rows - room) + (rows_per_block put - 1)) (rows_per_block put) some (omega (arith, none, some)) in
    omega (arith, p)

pub some-rows : (width : ℕ) → 1 ≤ width → width ≤ 511 → 0 < rows_per_block width
some-rows width low high = le-div 1 511 width low (omega (arith, high))

-- some frames hold a row
pub some-room : (frames width : ℕ) → 1 ≤ frames → width ≤ 511 → 1 ≤ rows_in_frames frames width
some-room frames width f high =
    let r : 1 ≤ rows_per_frame width = le-div 1 512 (width + 1) (omega arith) (omega (arith, high)) in
    many frames (rows_per_frame width) f r
  where
    many : (a b : ℕ) → 1 ≤ a → 1 ≤ b → 1 ≤ a * b
    many (suc a) (suc b) h k = omega arith
    many zero b h k = absurd (omega (arith, h))
    many (suc a) zero h k = absurd (omega (arith, k))
