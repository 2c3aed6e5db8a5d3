-- Rows in words that stand one row behind the other.
use Rattle.std.proofs.Common.{◌≡◌, ℕ, ◌+◌, ◌*◌, ◌<◌, ◌≤◌, List, [], ◌∷◌, ◌++◌, length, take, drop, refl, sym, ap, ◌∙◌, arith, rules, map}
use Rattle.std.specs.Prelude.{ℤ, Some, slice_get, ◌↔◌, IsTrue, true, false}
use Rattle.std.specs.List.{range_with_len}
use borrow.Rule.Slice.PartMut.{put_mid, post_of}
use Rattle.std.proofs.Math.Nat.{mul-le-mul_right}
use Rattle.std.proofs.lemmas.List.{length-take, length-drop, length-append, take_at, drop_at, drop-take, take-take, take-append-le, same_lists}
use Rattle.std.proofs.lemmas.List.FromFn.{length-map-range_with_len, get_or-map-range_with_len, map-range_with_len_more}
use Rattle.std.proofs.lemmas.Option.{slice_get-get_or}
use Rattle.pdq_exchange.specs.Batches.{Row, BatchView, empty_batch, most_rows, row_at, rows_of, IsBatch}

pub length-rows_of : (w n : ℕ) (ws : List ℤ) → length (rows_of w n ws) ≡ n
unfolding rows_of
length-rows_of w n ws = length-map-range_with_len (row_at w ws) 0 n

pub rows_of-none : (w : ℕ) (ws : List ℤ) → rows_of w 0 ws ≡ []
unfolding rows_of
rows_of-none w ws = refl

-- a row lies within the words
pub ends_within : (w n : ℕ) (ws : List ℤ) → IsBatch w n ws → (i : ℕ) → i < most_rows → i * w + w ≤ length ws
ends_within w n ws b i l = omega (arith, b.room, mul-le-mul_right {m = i + 1} {n = 1024} w (omega arith))

pub get-rows_of : (w n : ℕ) (ws : List ℤ) (i : ℕ) → i < n → slice_get (rows_of w n ws) i ≡ Some (row_at w ws i)
unfolding rows_of
get-rows_of w n ws i l =
    slice_get-get_or (rows_of w n ws) i (row_at w ws i) (omega (arith, l, length-map-range_with_len (row_at w ws) 0 n))
    ∙ ap (λ (r : Row). Some r) (get_or-map-range_with_len (row_at w ws) 0 n i i (row_at w ws i) l (omega arith))

module _ (w n : ℕ) (ws row rest : List ℤ) (within : n * w ≤ length ws) (wide : length row ≡ w) where
  abbrev after : List ℤ
  after = take (n * w) ws ++ (row ++ rest)

  front : length (take (n * w) ws) ≡ n * w
  front = omega (arith, length-take (n * w) ws)

  last_row : row_at w after n ≡ row
  last_row = ap (λ (ys : List ℤ). take w ys) (drop_at (take (n * w) ws) (row ++ rest) (n * w) front) ∙ take_at row rest w wide

  same_front : (k : ℕ) → k ≤ n * w → take k after ≡ take k ws
  same_front k l = take-append-le k (take (n * w) ws) (row ++ rest) (omega (arith, front)) ∙ take-take k (n * w) ws l

  earlier_row : (i : ℕ) → i < n → row_at w after i ≡ row_at w ws i
  earlier_row i l =
      let k : i * w + w ≤ n * w = omega (arith, mul-le-mul_right {m = i + 1} {n = n} w (omega arith)) in
      sym (drop-take (i * w) w after) ∙ (ap (λ (ys : List ℤ). drop (i * w) ys) (same_front (i * w + w) k) ∙ drop-take (i * w) w ws)

  pub rows_put : n ≡ n → rows_of w (n + 1) after ≡ rows_of w n ws ++ row ∷ []
  unfolding rows_of
  rows_put _ = map-range_with_len_more (row_at w after) 0 n n (omega arith)
      ∙ (ap (λ (rs : List Row). rs ++ row_at w after n ∷ []) (same_lists _ _ (length-map-range_with_len (row_at w after) 0 n ∙ sym (length-map-range_with_len (row_at w ws) 0 n))
      (λ i d l. let m : i < n = omega (arith, l, length-map-range_with_len (row_at w after) 0 n) in
      get_or-map-range_with_len (row_at w after) 0 n i i d m (omega arith) ∙ (earlier_row i m ∙ sym (get_or-map-range_with_len (row_at w ws) 0 n i i d m (omega arith)))))
      ∙ ap (λ (r : Row). map (row_at w ws) (range_with_len 0 n) ++ r ∷ []) last_row)

-- the view of a batch
abbrev pub viewed : ℕ → List Row → BatchView
viewed w rs = record { width = w; rows = rs }

pub none_is : (w : ℕ) (ws : List ℤ) → viewed w (rows_of w 0 ws) ≡ empty_batch w
none_is w ws = ap (viewed w) (rows_of-none w ws)

pub length_put : (a k : ℕ) (d y : List ℤ) → a + k ≤ length d → length y ≡ k → length (put_mid a k d y) ≡ length d
length_put a k d y l e = omega (arith, length-append (take a d) (y ++ post_of a k d), length-append y (post_of a k d), length-take a d, length-drop k (drop a d), length-drop a d)

pub put_is : (w n k : ℕ) (ws d y row : List ℤ) → IsBatch w n ws → n < most_rows → d ≡ ws → y ≡ row → length row ≡ w → viewed w (rows_of w (n + 1) (put_mid (n * w) k d y)) ≡ viewed w (rows_of w n ws ++ row ∷ [])
put_is w n k ws d y row b l e f wide = rw (e, f) (ap (viewed w) (rows_put w n ws row (post_of (n * w) k ws) (let k = ends_within w n ws b n l in omega arith) wide refl))

pub row_is : (w n : ℕ) (ws d : List ℤ) (i k : ℕ) → i < n → d ≡ ws → k ≡ w → slice_get (rows_of w n ws) i ≡ Some (take k (drop (i * w) d))
row_is w n ws d i k l e f = rw (e, f) (get-rows_of w n ws i l)

pub full_is : (n : ℕ) → n ≡ most_rows → IsTrue false ↔ (n < most_rows)
full_is n e = (λ h. absurd (search rules), λ l. absurd (omega arith))

pub room_is : (n : ℕ) → n < most_rows → IsTrue true ↔ (n < most_rows)
room_is n l = (λ h. l, λ k. search rules)
