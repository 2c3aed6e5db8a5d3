-- The rows whose keys had no room are grouped in a later pass: what is put of them comes behind what was put.
use Rattle.std.proofs.Common.{◌≡◌, ◌≢◌, ℕ, zero, suc, ◌+◌, ◌-◌, ◌*◌, ◌/◌, ◌<◌, ◌≤◌, min, Bool, true, false, not, cond, List, [], ◌∷◌, ◌++◌, length, get_or, take, drop, map, filter, sym, ap, ap₂, ◌∙◌, subst, arith, refl, append_assoc, append-nil}
use Rattle.std.specs.Prelude.{ℤ}
use Rattle.std.specs.List.{All}
use Rattle.std.proofs.lemmas.Bool.{true≢false}
use Rattle.std.proofs.lemmas.List.{length-append, length_push, length-take, length-drop, length-map, take-append-drop, map-append, drop-append-le, drop_all, take_all, get_or-take, get_or-drop, same_lists, get_or-map, get_or_default}
use mathlib.Core.Logic.{dite}
use native.Mathlib.Decide.{ℕ_discrete, dec_le}
use Rattle.pdq_group.specs.declared.shape.Fold.{Fold}
use Rattle.pdq_group.specs.Groups.{is_same, is_among, keys_of, rows_of_key, group_row, grouped_words, kept_keys, rows_beyond}
use Rattle.pdq_group.specs.Folds.{folded_from}
use Rattle.pdq_group.proofs.Lists.{by_last}
use Rattle.pdq_group.proofs.Keys.{AreDistinct, keys_of-distinct, among-at, at-among, not-among, among-push, same_false, keys_of-old, keys_of-new, kept-hit, kept-new, kept-full, beyond-hit, beyond-new, beyond-full, beyond-none, are_same, among-kept, all_kept}

abbrev Rows : Type 0
Rows = List (List ℤ)

module _ (n room : ℕ) (rows : Rows) (row : List ℤ) where
  abbrev D : Rows → List (List ℤ)
  D = keys_of n

  abbrev B : Rows → Rows
  B = rows_beyond n room

  abbrev key : List ℤ
  key = take n row

  abbrev more : Rows
  more = rows ++ row ∷ []

  abbrev kept : List (List ℤ)
  kept = take room (D rows)

  kept-length : length kept ≡ min room (length (D rows))
  kept-length = length-take room (D rows)

  in_rest : is_among kept key ≡ false → is_among (D rows) key ≡ true → is_among (drop room (D rows)) key ≡ true
  in_rest e f = let a = at-among (D rows) key f in by_place a.0 a.1 a.2
    where
      by_place : (i : ℕ) → i < length (D rows) → get_or (D rows) i key ≡ key → is_among (drop room (D rows)) key ≡ true
      by_place i l s = dite (dec_le room i)
          (λ le. among-at (drop room (D rows)) key (i - room) key (omega (arith, length-drop room (D rows), l)) (get_or-drop room (D rows) (i - room) key ∙ ap (λ j. get_or (D rows) j key) (let z : room + (i - room) ≡ i = omega arith in z) ∙ s))
          (λ gt. absurd (true≢false (sym (among-at kept key i key (omega (arith, kept-length, l)) (get_or-take room (D rows) i key (omega arith) ∙ s)) ∙ e)))

  not_rest : is_among (D rows) key ≡ false → is_among (drop room (D rows)) key ≡ false
  not_rest f = not-among (drop room (D rows)) key (λ i l s.
      let m : room + i < length (D rows) = omega (arith, l, length-drop room (D rows)) in
      true≢false (sym (among-at (D rows) key (room + i) key m (sym (get_or-drop room (D rows) i key) ∙ s)) ∙ f))

  module _ (h : D (B rows) ≡ drop room (D rows)) where
    hit : is_among kept key ≡ true → D (B more) ≡ drop room (D more)
    hit e = ap D (beyond-hit n room rows row e) ∙ h ∙ ap (drop room) (sym (keys_of-old n rows row (among-kept n room rows row e)))

    full : is_among kept key ≡ false → room ≤ length kept → D (B more) ≡ drop room (D more)
    full e l = by_all (is_among (D rows) key) refl
      where
        by_all : (t : Bool) → is_among (D rows) key ≡ t → D (B more) ≡ drop room (D more)
        by_all true f = ap D (beyond-full n room rows row e l) ∙ keys_of-old n (B rows) row (ap (λ ks. is_among ks key) h ∙ in_rest e f) ∙ h ∙ ap (drop room) (sym (keys_of-old n rows row f))
        by_all false f = ap D (beyond-full n room rows row e l) ∙ keys_of-new n (B rows) row (ap (λ ks. is_among ks key) h ∙ not_rest f) ∙ ap (λ ks. ks ++ key ∷ []) h
            ∙ sym (drop-append-le room (D rows) (key ∷ []) (omega (arith, kept-length, l))) ∙ ap (drop room) (sym (keys_of-new n rows row f))

    fresh : is_among kept key ≡ false → length kept < room → D (B more) ≡ drop room (D more)
    fresh e l =
        let all : kept ≡ D rows = all_kept n room rows row l in
        let m : length (D more) ≡ length (D rows) + 1 = ap length (keys_of-new n rows row (ap (λ ks. is_among ks key) (sym all) ∙ e)) ∙ length_push (D rows) key in
        ap D (beyond-new n room rows row e l) ∙ h ∙ drop_all room (D rows) (omega (arith, kept-length, l)) ∙ sym (drop_all room (D more) (omega (arith, kept-length, l, m)))

    beyond-step : D (B more) ≡ drop room (D more)
    beyond-step = by_kept (is_among kept key) refl
      where
        by_kept : (t : Bool) → is_among kept key ≡ t → D (B more) ≡ drop room (D more)
        by_kept true e = hit e
        by_kept false e = dite (dec_le room (length kept)) (λ le. full e le) (λ gt. fresh e (omega arith))

drop_none : (m : ℕ) → drop {A = List ℤ} m [] ≡ []
drop_none zero = refl
drop_none (suc m) = refl

-- the keys of the rows beyond are those for which there was no room
pub keys-beyond : (n room : ℕ) (rows : Rows) → keys_of n (rows_beyond n room rows) ≡ drop room (keys_of n rows)
unfolding keys_of rows_beyond
keys-beyond n room = by_last (λ rows. keys_of n (rows_beyond n room rows) ≡ drop room (keys_of n rows)) (sym (drop_none room)) (λ rows row h. beyond-step n room rows row h)

-- a key for which there was no room has the same rows beyond
rows-beyond-of : (n room : ℕ) (rows : Rows) (k : List ℤ) → is_among (kept_keys n room rows) k ≡ false → rows_of_key n (rows_beyond n room rows) k ≡ rows_of_key n rows k
unfolding rows_of_key rows_beyond
rows-beyond-of n room rows k e = within rows
  where
    p : List ℤ → Bool
    p row = is_same (take n row) k

    q : List ℤ → Bool
    q row = not (is_among (kept_keys n room rows) (take n row))

    sub : (x : List ℤ) → p x ≡ true → q x ≡ true
    sub x s = ap not (ap (is_among (kept_keys n room rows)) (are_same (take n x) k s) ∙ e)

    one : (x : List ℤ) (xs : Rows) (a b : Bool) → p x ≡ a → q x ≡ b → filter p (filter q xs) ≡ filter p xs → filter p (cond b (x ∷ filter q xs) (filter q xs)) ≡ cond a (x ∷ filter p xs) (filter p xs)
    one x xs true true f g r = ap (λ t. cond t (x ∷ filter p (filter q xs)) (filter p (filter q xs))) f ∙ ap (λ l. x ∷ l) r
    one x xs true false f g r = absurd (true≢false (sym (sub x f) ∙ g))
    one x xs false true f g r = ap (λ t. cond t (x ∷ filter p (filter q xs)) (filter p (filter q xs))) f ∙ r
    one x xs false false f g r = r

    within : (xs : Rows) → filter p (filter q xs) ≡ filter p xs
    within [] = refl
    within (x ∷ xs) = one x xs (p x) (q x) refl refl (within xs)

-- a key without room is not among those with room
apart : (n room : ℕ) (rows : Rows) (i : ℕ) → i < length (drop room (keys_of n rows)) → is_among (kept_keys n room rows) (get_or (drop room (keys_of n rows)) i []) ≡ false
apart n room rows i l =
    let D : List (List ℤ) = keys_of n rows in
    let k : List ℤ = get_or (drop room D) i [] in
    let at : k ≡ get_or D (room + i) [] = get_or-drop room D i [] in
    not-among (take room D) k (λ j m s.
    let c : length (take room D) ≡ min room (length D) = length-take room D in
    let d : length (drop room D) ≡ length D - room = length-drop room D in
    (keys_of-distinct n rows).distinct j (room + i) [] (omega (arith, c, m)) (omega (arith, d, l)) (get_or_default D j [] k (omega (arith, c, m)) ∙ sym (get_or-take room D j k (omega (arith, c, m))) ∙ s ∙ at))

-- what is put of all keys is what is put of those with room, and then what is put of the rows beyond
pub grouped-retired : (n room : ℕ) (folds : List Fold) (rows : Rows) → grouped_words n folds rows ≡ map (group_row n folds rows) (kept_keys n room rows) ++ grouped_words n folds (rows_beyond n room rows)
unfolding grouped_words
grouped-retired n room folds rows =
    let D : List (List ℤ) = keys_of n rows in
    let rest : List (List ℤ) = drop room D in
    let W : List ℤ → List ℤ = group_row n folds rows in
    let V : List ℤ → List ℤ = group_row n folds (rows_beyond n room rows) in
    let same : map V rest ≡ map W rest = same_lists (map V rest) (map W rest) (length-map rest V ∙ sym (length-map rest W)) (λ i d l.
    let m : i < length rest = omega (arith, l, length-map rest V) in
    get_or-map V rest i [] d m ∙ ap (λ rs. get_or rest i [] ++ folded_from folds n rs) (rows-beyond-of n room rows (get_or rest i []) (apart n room rows i m)) ∙ sym (get_or-map W rest i [] d m)) in
    ap (map W) (sym (take-append-drop room D)) ∙ map-append W (take room D) rest ∙ ap (λ l. map W (take room D) ++ l) (sym same ∙ ap (map V) (sym (keys-beyond n room rows)))

-- ---- each pass retires some rows

keys-some : (n : ℕ) (rows : Rows) → 0 < length rows → 0 < length (keys_of n rows)
keys-some n = by_last P (λ l. absurd (omega arith)) step
  where
    P : Rows → Type 0
    P rows = 0 < length rows → 0 < length (keys_of n rows)

    step : (rows : Rows) (row : List ℤ) → P rows → P (rows ++ row ∷ [])
    step rows row h l = by (is_among (keys_of n rows) (take n row)) refl
      where
        by : (t : Bool) → is_among (keys_of n rows) (take n row) ≡ t → 0 < length (keys_of n (rows ++ row ∷ []))
        by true e = let a = at-among (keys_of n rows) (take n row) e in let m : a.0 < length (keys_of n rows) = a.1 in let same : length (keys_of n (rows ++ row ∷ [])) ≡ length (keys_of n rows) = ap length (keys_of-old n rows row e) in omega (arith, m, same)
        by false e = let more : length (keys_of n (rows ++ row ∷ [])) ≡ length (keys_of n rows) + 1 = ap length (keys_of-new n rows row e) ∙ length_push (keys_of n rows) (take n row) in omega (arith, more)

pub beyond-few : (n room : ℕ) (rows : Rows) → length (rows_beyond n room rows) + length (kept_keys n room rows) ≤ length rows
unfolding rows_beyond keys_of
beyond-few n room = by_last P (let z : length (take {A = List ℤ} room []) ≡ min room 0 = length-take room [] in omega (arith, z)) step
  where
    P : Rows → Type 0
    P rows = length (rows_beyond n room rows) + length (kept_keys n room rows) ≤ length rows

    step : (rows : Rows) (row : List ℤ) → P rows → P (rows ++ row ∷ [])
    step rows row h = by (is_among (kept_keys n room rows) (take n row)) refl
      where
        long : length (rows ++ row ∷ []) ≡ length rows + 1
        long = length_push rows row

        by : (t : Bool) → is_among (kept_keys n room rows) (take n row) ≡ t → P (rows ++ row ∷ [])
        by true e =
            let a : length (rows_beyond n room (rows ++ row ∷ [])) ≡ length (rows_beyond n room rows) = ap length (beyond-hit n room rows row e) in
            let b : length (kept_keys n room (rows ++ row ∷ [])) ≡ length (kept_keys n room rows) = ap length (kept-hit n room rows row e) in
            omega (arith, a, b, h, long)
        by false e = dite (dec_le room (length (kept_keys n room rows)))
            (λ le.
            let a : length (rows_beyond n room (rows ++ row ∷ [])) ≡ length (rows_beyond n room rows) + 1 = ap length (beyond-full n room rows row e le) ∙ length_push (rows_beyond n room rows) row in
            let b : length (kept_keys n room (rows ++ row ∷ [])) ≡ length (kept_keys n room rows) = ap length (kept-full n room rows row e le) in
            omega (arith, a, b, h, long))
            (λ gt.
            let l : length (kept_keys n room rows) < room = omega arith in
            let a : length (rows_beyond n room (rows ++ row ∷ [])) ≡ length (rows_beyond n room rows) = ap length (beyond-new n room rows row e l) in
            let b : length (kept_keys n room (rows ++ row ∷ [])) ≡ length (kept_keys n room rows) + 1 = ap length (kept-new n room rows row e l) ∙ length_push (kept_keys n room rows) (take n row) in
            omega (arith, a, b, h, long))

-- fewer rows are beyond than there are
pub beyond-fewer : (n room : ℕ) (rows : Rows) → 0 < room → 0 < length rows → length (rows_beyond n room rows) < length rows
beyond-fewer n room rows some l = omega (arith, beyond-few n room rows, length-take room (keys_of n rows), keys-some n rows l, some)

-- no more keys than rows
pub keys-few : (n : ℕ) (rows : Rows) → length (keys_of n rows) ≤ length rows
unfolding keys_of
keys-few n = by_last (λ rows. length (keys_of n rows) ≤ length rows) (omega arith) step
  where
    step : (rows : Rows) (row : List ℤ) → length (keys_of n rows) ≤ length rows → length (keys_of n (rows ++ row ∷ [])) ≤ length (rows ++ row ∷ [])
    step rows row h = by (is_among (keys_of n rows) (take n row)) refl
      where
        by : (t : Bool) → is_among (keys_of n rows) (take n row) ≡ t → length (keys_of n (rows ++ row ∷ [])) ≤ length (rows ++ row ∷ [])
        by true e = let a : length (keys_of n (rows ++ row ∷ [])) ≡ length (keys_of n rows) = ap length (keys_of-old n rows row e) in omega (arith, a, h, length_push rows row)
        by false e = let a : length (keys_of n (rows ++ row ∷ [])) ≡ length (keys_of n rows) + 1 = ap length (keys_of-new n rows row e) ∙ length_push (keys_of n rows) (take n row) in omega (arith, a, h, length_push rows row)

take-min : (ks : Rows) (room : ℕ) → take (min (length ks) room) ks ≡ take room ks
take-min ks room = dite (dec_le room (length ks))
    (λ l. let e : min (length ks) room ≡ room = omega (arith, l) in ap (λ n. take n ks) e)
    (λ g. let e : min (length ks) room ≡ length ks = omega (arith, g) in ap (λ n. take n ks) e ∙ take_all (length ks) ks (omega arith) ∙ sym (take_all room ks (omega (arith, g))))

-- the keys for which there was room are those that were kept
pub beyond-kept : (n room some : ℕ) (rows : Rows) → some ≡ min (length (keys_of n rows)) room → rows_beyond n some rows ≡ rows_beyond n room rows
unfolding rows_beyond
beyond-kept n room some rows e = ap (λ (ks : Rows). filter (λ (row : List ℤ). not (is_among ks (take n row))) rows) (ap (λ (m : ℕ). take m (keys_of n rows)) e ∙ take-min (keys_of n rows) room)
