-- A table holds the groups of the rows that it took.
use Rattle.std.proofs.Common.{◌≡◌, ◌≢◌, ℕ, zero, suc, ◌+◌, ◌-◌, ◌*◌, ◌<◌, ◌≤◌, min, Bool, true, false, not, cond, List, [], ◌∷◌, ◌++◌, length, get_or, set, take, drop, map, filter, refl, sym, ap, ap₂, ◌∙◌, subst, arith}
use Rattle.std.specs.Prelude.{ℤ}
use Rattle.std.specs.List.{All}
use mathlib.Core.Logic.{dite}
use native.Mathlib.Decide.{ℕ_discrete, dec_le}
use Rattle.std.proofs.lemmas.List.{append-nil, append_assoc, take_at, drop_at, length-append, length-take, length-take-le, map_push, get_or-map, get_or-set_same, get_or-set_other, length-map, length-set, length_push, same_lists, get_or-take, get_or_default, get_or_append_left, get_or_push, map-append}
use Rattle.std.proofs.lemmas.List.Elements.{All-nil, All-push, All-take}
use Rattle.std.proofs.lemmas.Bool.{true≢false}
use Rattle.pdq_spill.specs.Rows.{AreRows}
use Rattle.pdq_group.specs.declared.shape.Fold.{Fold}
use Rattle.pdq_group.specs.Folds.{states_from, no_states, with_row, all_folded}
use Rattle.pdq_group.specs.Groups.{is_among, keys_of, rows_of_key, group_words, kept_keys, rows_beyond}
use Rattle.pdq_group.specs.Tables.{TableView, room_of, Holds, HasSameShape, TookRow}
use Rattle.pdq_group.proofs.Lists.{by_last}
use Rattle.pdq_group.proofs.Keys.{AreDistinct, keys_of-distinct, distinct-take, one_place, among-at, not-among, keys_of-old, keys_of-new, rows_of_key-same, rows_of_key-other, rows_of_key-none, kept-hit, kept-new, kept-full, all_kept, beyond-hit, beyond-new, beyond-full}
use Rattle.pdq_group.proofs.States.{states-more, states-none}

abbrev Rows : Type 0
Rows = List (List ℤ)

-- ---- rows of one width

pub rows-push : (w : ℕ) (rows : Rows) (row : List ℤ) → AreRows w rows → length row ≡ w → AreRows w (rows ++ row ∷ [])
rows-push w rows row h e = record { widths = All-push (λ r. length r ≡ w) rows row h.widths e }

pub rows-front : (w : ℕ) (rows : Rows) (row : List ℤ) → AreRows w (rows ++ row ∷ []) → AreRows w rows
rows-front w rows row h = record { widths = λ k d l. sym (ap length (get_or_append_left rows (row ∷ []) d k l)) ∙ h.widths k d (omega (arith, length_push rows row)) }

pub rows-last : (w : ℕ) (rows : Rows) (row : List ℤ) → AreRows w (rows ++ row ∷ []) → length row ≡ w
rows-last w rows row h = sym (ap length (get_or_push rows row row (length rows) refl)) ∙ h.widths (length rows) row (omega (arith, length_push rows row))

-- each key has as many words as it should
pub keys-long : (n w : ℕ) → n ≤ w → (rows : Rows) → AreRows w rows → All (λ k. length k ≡ n) (keys_of n rows)
unfolding keys_of
keys-long n w le = by_last P (λ h. All-nil (λ k. length k ≡ n)) step
  where
    P : Rows → Type 0
    P rows = AreRows w rows → All (λ k. length k ≡ n) (keys_of n rows)

    step : (rows : Rows) (row : List ℤ) → P rows → P (rows ++ row ∷ [])
    step rows row h k = by (is_among (keys_of n rows) (take n row)) refl
      where
        old : All (λ k. length k ≡ n) (keys_of n rows)
        old = h (rows-front w rows row k)

        by : (t : Bool) → is_among (keys_of n rows) (take n row) ≡ t → All (λ k. length k ≡ n) (keys_of n (rows ++ row ∷ []))
        by true e = subst (All (λ k. length k ≡ n)) (sym (keys_of-old n rows row e)) old
        by false e = subst (All (λ k. length k ≡ n)) (sym (keys_of-new n rows row e)) (All-push (λ k. length k ≡ n) (keys_of n rows) (take n row) old (length-take-le n row (omega (arith, rows-last w rows row k))))

-- ---- the words of a group with one more row

module _ (n : ℕ) (folds : List Fold) (rows : Rows) (row : List ℤ) (wide : length row ≡ n + length folds) where
  abbrev W : List ℤ → List ℤ
  W = group_words n folds rows

  abbrev V : List ℤ → List ℤ
  V = group_words n folds (rows ++ row ∷ [])

  abbrev key : List ℤ
  key = take n row

  key-long : length key ≡ n
  key-long = length-take-le n row (omega arith)

  pub words-other : (k : List ℤ) → key ≢ k → V k ≡ W k
  unfolding group_words
  words-other k ne = ap (λ rs. k ++ states_from folds n rs) (rows_of_key-other n rows row k ne)

  pub words-same : V key ≡ with_row n folds (W key) row
  unfolding group_words
  words-same =
      ap (λ rs. key ++ states_from folds n rs) (rows_of_key-same n rows row key refl)
      ∙ ap (λ l. key ++ l) (sym (states-more folds n (rows_of_key n rows key) row wide))
      ∙ ap (λ l. key ++ all_folded folds l (drop n row)) (sym (drop_at key (states_from folds n (rows_of_key n rows key)) n key-long))

  pub words-first : (blank : List ℤ) → drop n blank ≡ no_states folds → is_among (keys_of n rows) key ≡ false → V key ≡ with_row n folds blank row
  unfolding group_words
  words-first blank b e =
      ap (λ rs. key ++ states_from folds n rs) (rows_of_key-same n rows row key refl ∙ ap (λ rs. rs ++ row ∷ []) (rows_of_key-none n rows key e))
      ∙ ap (λ l. key ++ l) (sym (states-more folds n [] row wide))
      ∙ ap (λ l. key ++ all_folded folds l (drop n row)) (states-none folds n 0 ∙ sym b)

-- ---- what a table holds

key_of_words : (n : ℕ) (folds : List Fold) (rows : Rows) (k : List ℤ) → length k ≡ n → take n (group_words n folds rows k) ≡ k
unfolding group_words
key_of_words n folds rows k l = take_at k (states_from folds n (rows_of_key n rows k)) n l

module _ (t : TableView) (rows : Rows) (row : List ℤ) (h : Holds t rows) (wide : length row ≡ t.keys + length t.folds) where
  abbrev n : ℕ
  n = t.keys

  abbrev room : ℕ
  room = room_of t

  abbrev kept : List (List ℤ)
  kept = kept_keys n room rows

  abbrev old : List ℤ → List ℤ
  old = group_words n t.folds rows

  abbrev new : List ℤ → List ℤ
  new = group_words n t.folds (rows ++ row ∷ [])

  abbrev this : List ℤ
  this = take n row

  groups-long : length t.groups ≡ length kept
  groups-long = ap length h.groups ∙ length-map kept old

  kept-long : (i : ℕ) → i < length kept → length (get_or kept i []) ≡ n
  kept-long i l = All-take (λ k. length k ≡ n) room (keys_of n rows) (keys-long n (n + length t.folds) (omega arith) rows h.widths) i [] l

  group_at : (i : ℕ) → i < length kept → get_or t.groups i [] ≡ old (get_or kept i [])
  group_at i l = ap (λ gs. get_or gs i []) h.groups ∙ get_or-map old kept i [] [] l

  key_of_group : (i : ℕ) → i < length kept → take n (get_or t.groups i []) ≡ get_or kept i []
  key_of_group i l = ap (take n) (group_at i l) ∙ key_of_words n t.folds rows (get_or kept i []) (kept-long i l)

  distinct : AreDistinct kept
  distinct = distinct-take room (keys_of n rows) (keys_of-distinct n rows)

  widths : AreRows (n + length t.folds) (rows ++ row ∷ [])
  widths = rows-push (n + length t.folds) rows row h.widths wide

  -- other groups stay
  others : is_among kept this ≡ false → map new kept ≡ map old kept
  others e = same_lists (map new kept) (map old kept) (length-map kept new ∙ sym (length-map kept old)) (λ i d l.
      let m : i < length kept = omega (arith, l, length-map kept new) in
      let ne : this ≢ get_or kept i [] = λ s. true≢false (sym (among-at kept this i [] m (sym s)) ∙ e) in
      get_or-map new kept i [] d m ∙ words-other n t.folds rows row wide (get_or kept i []) ne ∙ sym (get_or-map old kept i [] d m))

  module _ (s : ℕ) (l : s < length t.groups) (found : take n (get_or t.groups s []) ≡ this) where
    m : s < length kept
    m = omega (arith, l, groups-long)

    at : get_or kept s [] ≡ this
    at = sym (key_of_group s m) ∙ found

    one_changed : map new kept ≡ set (map old kept) s (with_row n t.folds (get_or t.groups s []) row)
    one_changed = same_lists (map new kept) (set (map old kept) s (with_row n t.folds (get_or t.groups s []) row)) (length-map kept new ∙ sym (length-set (map old kept) s (with_row n t.folds (get_or t.groups s []) row) ∙ length-map kept old)) (λ i d c.
        let below : i < length kept = omega (arith, c, length-map kept new) in
        let inside : s < length (map old kept) = omega (arith, m, length-map kept old) in
        get_or-map new kept i [] d below ∙ dite (ℕ_discrete i s)
        (λ same. ap (λ j. new (get_or kept j [])) same ∙ ap new at ∙ words-same n t.folds rows row wide ∙ ap (λ g. with_row n t.folds g row) (ap old (sym at) ∙ sym (group_at s m))
        ∙ sym (get_or-set_same (map old kept) s (with_row n t.folds (get_or t.groups s []) row) d inside) ∙ ap (λ j. get_or (set (map old kept) s (with_row n t.folds (get_or t.groups s []) row)) j d) (sym same))
        (λ other. words-other n t.folds rows row wide (get_or kept i []) (λ e. other (one_place kept i s [] distinct below m (sym e ∙ sym at)))
        ∙ sym (get_or-map old kept i [] d below) ∙ sym (get_or-set_other (map old kept) s i (with_row n t.folds (get_or t.groups s []) row) d other)))

    pub hold-hit : (gs : List (List ℤ)) → gs ≡ set t.groups s (with_row n t.folds (get_or t.groups s []) row) → TookRow true (record t { groups = gs }) rows row
    hold-hit gs e =
        let a : is_among kept this ≡ true = among-at kept this s [] m at in
        record {
          holds = record { groups = e ∙ ap (λ g. set g s (with_row n t.folds (get_or t.groups s []) row)) h.groups ∙ sym one_changed ∙ ap (map new) (sym (kept-hit n room rows row a)); widths = widths };
          beyond = beyond-hit n room rows row a ∙ sym (append-nil (rows_beyond n room rows));
        }

  module _ (none : (i : ℕ) → i < length t.groups → take n (get_or t.groups i []) ≢ this) where
    not_kept : is_among kept this ≡ false
    not_kept = not-among kept this (λ i l e. none i (omega (arith, l, groups-long)) (key_of_group i l ∙ get_or_default kept i [] this l ∙ e))

    pub hold-new : (blank : List ℤ) (gs : List (List ℤ)) → drop n blank ≡ no_states t.folds → length t.groups < room → gs ≡ t.groups ++ with_row n t.folds blank row ∷ [] → TookRow true (record t { groups = gs }) rows row
    hold-new blank gs b l e =
        let less : length kept < room = omega (arith, l, groups-long) in
        let absent : is_among (keys_of n rows) this ≡ false = ap (λ ks. is_among ks this) (sym (all_kept n room rows row less)) ∙ not_kept in
        record {
          holds = record {
            groups = e ∙ ap₂ (λ g k. g ++ k ∷ []) (h.groups ∙ sym (others not_kept)) (sym (words-first n t.folds rows row wide blank b absent)) ∙ sym (map_push new kept this) ∙ ap (map new) (sym (kept-new n room rows row not_kept less));
            widths = widths;
          };
          beyond = beyond-new n room rows row not_kept less ∙ sym (append-nil (rows_beyond n room rows));
        }

    pub hold-full : (gs : List (List ℤ)) → room ≤ length t.groups → gs ≡ t.groups → TookRow false (record t { groups = gs }) rows row
    hold-full gs l e =
        let full : room ≤ length kept = omega (arith, l, groups-long) in
        record {
          holds = record { groups = e ∙ h.groups ∙ sym (others not_kept) ∙ ap (map new) (sym (kept-full n room rows row not_kept full)); widths = widths };
          beyond = beyond-full n room rows row not_kept full;
        }
