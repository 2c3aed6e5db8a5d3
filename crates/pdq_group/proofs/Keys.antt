-- Keys, each once, and the rows of those for which there is no room.
use Rattle.std.proofs.Common.{◌≡◌, ◌≢◌, ℕ, zero, suc, ◌+◌, ◌-◌, ◌<◌, ◌≤◌, min, Bool, true, false, not, cond, List, [], ◌∷◌, ◌++◌, length, get_or, set, take, drop, map, filter, refl, sym, ap, ap₂, ◌∙◌, subst, arith, ◌||◌}
use Rattle.std.specs.Prelude.{ℤ}
use Rattle.std.specs.List.{fold, list_any, Any, All}
use mathlib.Core.Logic.{dite}
use native.Mathlib.Decide.{ℕ_discrete, dec_le}
use Rattle.std.proofs.lemmas.Bool.{true≢false}
use Rattle.std.proofs.lemmas.Bool.Decides.{Decides-int_eq}
use Rattle.std.specs.Bool.{Decides}
use Rattle.std.proofs.lemmas.Slice.Eq.{slice_eq-Decides}
use Rattle.std.proofs.lemmas.List.{append-nil, append_assoc, take_all, take-append-le, length-append, length-take, map_push, get_or-map, get_or-set_same, get_or-set_other, length-map, length-set, get_or_append_left, get_or_push, length_push, same_lists, get_or-take, take-append-drop, get_or_default, get_or-append_right, map-append}
use Rattle.std.proofs.lemmas.List.Folds.{list_any-append, Any-from_list_any, list_any_at}
use Rattle.std.proofs.lemmas.List.Sums.{fold_push}
use Rattle.std.proofs.lemmas.List.Quantifiers.{all_pairs_push}
use Rattle.std.proofs.lemmas.List.Elements.{filter-append}
use Rattle.pdq_group.specs.Groups.{is_same, is_among, with_key, keys_of, rows_of_key, kept_keys, rows_beyond}
use Rattle.pdq_group.proofs.Lists.{by_last, take_short, take_full, filter_keeps, filter_skips}

abbrev Key : Type 0
Key = List ℤ

abbrev Rows : Type 0
Rows = List (List ℤ)

-- ---- one key

pub same_is : (a b : Key) → Decides (is_same a b) (a ≡ b)
same_is a b = slice_eq-Decides Decides-int_eq a b (is_same a b) refl

pub same_true : (a b : Key) → a ≡ b → is_same a b ≡ true
same_true a b e = (same_is a b).1 e

pub same_false : (a b : Key) → a ≢ b → is_same a b ≡ false
same_false a b ne = by (is_same a b) refl
  where
    by : (t : Bool) → is_same a b ≡ t → t ≡ false
    by true e = absurd (ne ((same_is a b).0 e))
    by false e = refl

pub are_same : (a b : Key) → is_same a b ≡ true → a ≡ b
are_same a b e = (same_is a b).0 e

-- ---- a key among others

pub among-push : (ks : List Key) (k l : Key) → is_among (ks ++ k ∷ []) l ≡ (is_among ks l || is_same l k)
unfolding is_among
among-push ks k l = list_any-append (is_same l) ks (k ∷ []) ∙ ap (λ (t : Bool). is_among ks l || t) (or-false (is_same l k))
  where
    or-false : (t : Bool) → (t || false) ≡ t
    or-false true = refl
    or-false false = refl

pub among-at : (ks : List Key) (k : Key) (i : ℕ) (d : Key) → i < length ks → get_or ks i d ≡ k → is_among ks k ≡ true
unfolding is_among
among-at ks k i d l e = list_any_at (is_same k) ks i d l (same_true k (get_or ks i d) (sym e))

pub at-among : (ks : List Key) (k : Key) → is_among ks k ≡ true → (i : ℕ) × (i < length ks) × (get_or ks i k ≡ k)
unfolding is_among
at-among ks k e =
    let a = Any-from_list_any (is_same k) ks e in
    (a.0, a.2, get_or_default ks a.0 k a.1 a.2 ∙ a.3 ∙ sym (are_same k a.1 a.4))

pub not-among : (ks : List Key) (k : Key) → ((i : ℕ) → i < length ks → get_or ks i k ≢ k) → is_among ks k ≡ false
not-among ks k h = by (is_among ks k) refl
  where
    by : (t : Bool) → is_among ks k ≡ t → t ≡ false
    by true e = let a = at-among ks k e in absurd (h a.0 a.1 a.2)
    by false e = refl

-- ---- keys, each once

module _ (n : ℕ) where
  pub keys_of-push : (rows : Rows) (row : List ℤ) → keys_of n (rows ++ row ∷ []) ≡ with_key (keys_of n rows) (take n row)
  unfolding keys_of
  keys_of-push rows row = ap (fold with_key []) (map_push (take n) rows row) ∙ fold_push with_key [] (map (take n) rows) (take n row)

  pub keys_of-old : (rows : Rows) (row : List ℤ) → is_among (keys_of n rows) (take n row) ≡ true → keys_of n (rows ++ row ∷ []) ≡ keys_of n rows
  keys_of-old rows row e = keys_of-push rows row ∙ ap (λ (t : Bool). cond t (keys_of n rows) (keys_of n rows ++ take n row ∷ [])) e

  pub keys_of-new : (rows : Rows) (row : List ℤ) → is_among (keys_of n rows) (take n row) ≡ false → keys_of n (rows ++ row ∷ []) ≡ keys_of n rows ++ take n row ∷ []
  keys_of-new rows row e = keys_of-push rows row ∙ ap (λ (t : Bool). cond t (keys_of n rows) (keys_of n rows ++ take n row ∷ [])) e

  pub among-grown : (rows : Rows) (row : List ℤ) (l : Key) → is_among (keys_of n rows) l ≡ true → is_among (keys_of n (rows ++ row ∷ [])) l ≡ true
  among-grown rows row l e = by (is_among (keys_of n rows) (take n row)) refl
    where
      by : (t : Bool) → is_among (keys_of n rows) (take n row) ≡ t → is_among (keys_of n (rows ++ row ∷ [])) l ≡ true
      by true h = ap (λ ks. is_among ks l) (keys_of-old rows row h) ∙ e
      by false h = ap (λ ks. is_among ks l) (keys_of-new rows row h) ∙ among-push (keys_of n rows) (take n row) l ∙ ap (λ (t : Bool). t || is_same l (take n row)) e

  pub among-last : (rows : Rows) (row : List ℤ) → is_among (keys_of n (rows ++ row ∷ [])) (take n row) ≡ true
  among-last rows row = by (is_among (keys_of n rows) (take n row)) refl
    where
      or-true : (t : Bool) → (t || true) ≡ true
      or-true true = refl
      or-true false = refl

      by : (t : Bool) → is_among (keys_of n rows) (take n row) ≡ t → is_among (keys_of n (rows ++ row ∷ [])) (take n row) ≡ true
      by true h = ap (λ ks. is_among ks (take n row)) (keys_of-old rows row h) ∙ h
      by false h = ap (λ ks. is_among ks (take n row)) (keys_of-new rows row h) ∙ among-push (keys_of n rows) (take n row) (take n row) ∙ ap (λ (t : Bool). is_among (keys_of n rows) (take n row) || t) (same_true (take n row) (take n row) refl) ∙ or-true (is_among (keys_of n rows) (take n row))

  -- each row's key is among the keys
  pub none_beyond : (rows : Rows) (ks : List Key) → ((l : Key) → is_among (keys_of n rows) l ≡ true → is_among ks l ≡ true) → filter (λ row. not (is_among ks (take n row))) rows ≡ []
  none_beyond = by_last P (λ ks h. refl) step
    where
      P : Rows → Type 0
      P rows = (ks : List Key) → ((l : Key) → is_among (keys_of n rows) l ≡ true → is_among ks l ≡ true) → filter (λ row. not (is_among ks (take n row))) rows ≡ []

      step : (rows : Rows) (row : List ℤ) → P rows → P (rows ++ row ∷ [])
      step rows row h ks sub = filter_skips (λ row. not (is_among ks (take n row))) rows row (ap not (sub (take n row) (among-last rows row))) ∙ h ks (λ l e. sub l (among-grown rows row l e))

  -- a key that is not among the keys has no rows
  pub rows_of_key-same : (rows : Rows) (row : List ℤ) (k : Key) → take n row ≡ k → rows_of_key n (rows ++ row ∷ []) k ≡ rows_of_key n rows k ++ row ∷ []
  unfolding rows_of_key
  rows_of_key-same rows row k e = filter_keeps (λ r. is_same (take n r) k) rows row (same_true (take n row) k e)

  pub rows_of_key-other : (rows : Rows) (row : List ℤ) (k : Key) → take n row ≢ k → rows_of_key n (rows ++ row ∷ []) k ≡ rows_of_key n rows k
  unfolding rows_of_key
  rows_of_key-other rows row k ne = filter_skips (λ r. is_same (take n r) k) rows row (same_false (take n row) k ne)

  pub rows_of_key-none : (rows : Rows) (k : Key) → is_among (keys_of n rows) k ≡ false → rows_of_key n rows k ≡ []
  unfolding rows_of_key
  rows_of_key-none rows k = by_last P (λ e. refl) step rows
    where
      P : Rows → Type 0
      P rows = is_among (keys_of n rows) k ≡ false → rows_of_key n rows k ≡ []

      step : (rows : Rows) (row : List ℤ) → P rows → P (rows ++ row ∷ [])
      step rows row h e =
          let ne : take n row ≢ k = λ s. true≢false (sym (ap (is_among (keys_of n (rows ++ row ∷ []))) (sym s) ∙ among-last rows row) ∙ e) in
          rows_of_key-other rows row k ne ∙ h (before (is_among (keys_of n rows) k) refl)
        where
          before : (t : Bool) → is_among (keys_of n rows) k ≡ t → is_among (keys_of n rows) k ≡ false
          before true b = absurd (true≢false (sym (among-grown rows row k b) ∙ e))
          before false b = b

-- no key stands twice
pub record AreDistinct (ks : List Key) : Type 0 where
  pub distinct : (i j : ℕ) (d : Key) → i < j → j < length ks → get_or ks i d ≢ get_or ks j d

pub distinct-push : (ks : List Key) (k : Key) → AreDistinct ks → is_among ks k ≡ false → AreDistinct (ks ++ k ∷ [])
distinct-push ks k h e = record { distinct = all_pairs_push (λ a b. a ≢ b) ks k h.distinct (λ i d l s. true≢false (sym (among-at ks k i d l s) ∙ e)) }

pub keys_of-distinct : (n : ℕ) (rows : Rows) → AreDistinct (keys_of n rows)
unfolding keys_of
keys_of-distinct n = by_last (λ rows. AreDistinct (keys_of n rows)) (record { distinct = λ i j d a b. absurd (omega arith) }) step
  where
    step : (rows : Rows) (row : List ℤ) → AreDistinct (keys_of n rows) → AreDistinct (keys_of n (rows ++ row ∷ []))
    step rows row h = by (is_among (keys_of n rows) (take n row)) refl
      where
        by : (t : Bool) → is_among (keys_of n rows) (take n row) ≡ t → AreDistinct (keys_of n (rows ++ row ∷ []))
        by true e = subst AreDistinct (sym (keys_of-old n rows row e)) h
        by false e = subst AreDistinct (sym (keys_of-new n rows row e)) (distinct-push (keys_of n rows) (take n row) h e)

pub distinct-take : (m : ℕ) (ks : List Key) → AreDistinct ks → AreDistinct (take m ks)
distinct-take m ks h = record {
  distinct = λ i j d l b s.
      let c : length (take m ks) ≡ min m (length ks) = length-take m ks in
      h.distinct i j d l (omega (arith, c)) (sym (get_or-take m ks i d (omega (arith, c))) ∙ s ∙ get_or-take m ks j d (omega (arith, c)));
}

-- the one place of a key
pub one_place : (ks : List Key) (i j : ℕ) (d : Key) → AreDistinct ks → i < length ks → j < length ks → get_or ks i d ≡ get_or ks j d → i ≡ j
one_place ks i j d h l m e = dite (ℕ_discrete i j) (λ s. s) (λ ne. dite (dec_le i j) (λ le. absurd (h.distinct i j d (omega arith) m e)) (λ gt. absurd (h.distinct j i d (omega arith) l (sym e))))

-- ---- the keys for which there is room

module _ (n room : ℕ) (rows : Rows) (row : List ℤ) where
  abbrev ks : List Key
  ks = keys_of n rows

  abbrev kept : List Key
  kept = take room ks

  abbrev key : Key
  key = take n row

  abbrev more : Rows
  more = rows ++ row ∷ []

  pub among-kept : is_among kept key ≡ true → is_among ks key ≡ true
  among-kept e =
      let a = at-among kept key e in
      let c : length kept ≡ min room (length ks) = length-take room ks in
      let l : a.0 < length kept = a.1 in
      among-at ks key a.0 key (omega (arith, c, l)) (sym (get_or-take room ks a.0 key (omega (arith, c, l))) ∙ a.2)

  pub kept-hit : is_among kept key ≡ true → kept_keys n room more ≡ kept
  kept-hit e = ap (take room) (keys_of-old n rows row (among-kept e))

  pub all_kept : length kept < room → kept ≡ ks
  all_kept l = take_all room ks (let c : length kept ≡ min room (length ks) = length-take room ks in omega arith)

  pub kept-new : is_among kept key ≡ false → length kept < room → kept_keys n room more ≡ kept ++ key ∷ []
  kept-new e l = ap (take room) (keys_of-new n rows row (ap (λ l. is_among l key) (sym (all_kept l)) ∙ e)) ∙ take_short room ks key (let c : length kept ≡ min room (length ks) = length-take room ks in omega arith)

  pub kept-full : is_among kept key ≡ false → room ≤ length kept → kept_keys n room more ≡ kept
  kept-full e l = by (is_among ks key) refl
    where
      by : (t : Bool) → is_among ks key ≡ t → kept_keys n room more ≡ kept
      by true h = ap (take room) (keys_of-old n rows row h)
      by false h = ap (take room) (keys_of-new n rows row h) ∙ take_full room ks key (let c : length kept ≡ min room (length ks) = length-take room ks in omega arith)

  pub beyond-hit : is_among kept key ≡ true → rows_beyond n room more ≡ rows_beyond n room rows
  unfolding rows_beyond
  beyond-hit e = ap (λ l. filter (λ r. not (is_among l (take n r))) more) (kept-hit e) ∙ filter_skips (λ r. not (is_among kept (take n r))) rows row (ap not e)

  pub beyond-full : is_among kept key ≡ false → room ≤ length kept → rows_beyond n room more ≡ rows_beyond n room rows ++ row ∷ []
  unfolding rows_beyond
  beyond-full e l = ap (λ l. filter (λ r. not (is_among l (take n r))) more) (kept-full e l) ∙ filter_keeps (λ r. not (is_among kept (take n r))) rows row (ap not e)

-- where there is room for each key, no row is beyond
pub beyond-none : (n room : ℕ) (rows : Rows) → length (keys_of n rows) ≤ room → rows_beyond n room rows ≡ []
unfolding rows_beyond
beyond-none n room rows l = none_beyond n rows (take room (keys_of n rows)) (λ k e. ap (λ ks. is_among ks k) (take_all room (keys_of n rows) l) ∙ e)

pub beyond-new : (n room : ℕ) (rows : Rows) (row : List ℤ) → is_among (kept_keys n room rows) (take n row) ≡ false → length (kept_keys n room rows) < room → rows_beyond n room (rows ++ row ∷ []) ≡ rows_beyond n room rows
beyond-new n room rows row e l =
    let c : length (kept_keys n room rows) ≡ min room (length (keys_of n rows)) = length-take room (keys_of n rows) in
    let fits : length (keys_of n rows) ≤ room = omega arith in
    let all : kept_keys n room rows ≡ keys_of n rows = take_all room (keys_of n rows) fits in
    let new = keys_of-new n rows row (ap (λ l. is_among l (take n row)) (sym all) ∙ e) in
    let m : length (keys_of n (rows ++ row ∷ [])) ≡ length (keys_of n rows) + 1 = ap length new ∙ length_push (keys_of n rows) (take n row) in
    beyond-none n room (rows ++ row ∷ []) (omega arith) ∙ sym (beyond-none n room rows fits)
