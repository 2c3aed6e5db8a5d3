-- What a scanner of fragments gives, in the words of the step that it scans for.
use Rattle.std.proofs.Common.{◌≡◌, ℕ, zero, suc, ◌+◌, ◌<◌, ◌≤◌, ◌⊎◌, inl, inr, List, [], ◌∷◌, ◌++◌, ◌&&◌, Bool, true, false, cond, refl, sym, ap, ap₂, ◌∙◌, subst, arith, length, get_or, map, filter, flat_map, ℤ, length-append}
use Rattle.std.specs.Prelude.{Option, None, Some, pos, slice_get}
use Rattle.std.specs.List.{range_with_len}
use Rattle.std.proofs.lemmas.List.{append-nil, get_or_append_left, get_or_push, length-map, map-append, map-id}
use Rattle.std.proofs.lemmas.List.FromFn.{map-range_with_len_more}
use Rattle.std.proofs.lemmas.List.Elements.{filter_agree, filter-append}
use Rattle.std.proofs.lemmas.List.Folds.{flat_map-map}
use Rattle.std.proofs.lemmas.Option.{get_or_from_slice_get}
use Rattle.std.proofs.Math.ListN.{get_or-map}
use Rattle.pdq_schema.specs.Fragments.{fragment_count}
use Rattle.pdq_schema.specs.Schemas.{CutView, rounds}
use Rattle.pdq_base.specs.Words.{null_word}
use Rattle.pdq_query.specs.declared.query.At.{At}
use Rattle.pdq_query.specs.declared.query.Filter.{Filter}
use Rattle.pdq_exchange.specs.Roles.{Coming}
use Rattle.pdq_exchange.specs.declared.lane.Lane.{Lane}
use Rattle.pdq_eval.specs.declared.picks.Pick.{Pick}
use Rattle.pdq_eval.specs.declared.picks.Pick.TheVariants.{Word, Zero}
use Rattle.pdq_eval.specs.Picks.{picked, picked_word}
use Rattle.pdq_eval.specs.Scanning.{kept_words, scanned_rows, word_kept, word_of_column}
use Rattle.pdq_scan.specs.declared.word_tests.WordTest.{WordTest}
use Rattle.pdq_scan.specs.Lanes.{AreFresh, IsFresh, given, given_width}
use Rattle.pdq_scan.specs.Scans.{column_of, column_pick, columns_for, left_rows, scanned, word_or, words_or}
use Rattle.pdq_scan.specs.WordTests.{AreTestsOf, all_passed}
use Rattle.pdq_scan.proofs.Scanning.{left-all}

module _ (texts : List (List ℕ)) (kept : List At) where
  -- the word of the column of a kept word is that word
  column-word : (w : List ℤ) (ks : List At) (place : ℕ) → word_or null_word w (column_of (slice_get ks place)) ≡ get_or (map (λ (a : At). word_of_column a.column w) ks) place (pos 0)
  column-word w [] place = refl
  column-word w (a ∷ ks) zero = refl
  column-word w (a ∷ ks) (suc place) = column-word w ks place

  column-pick : (w : List ℤ) (pick : Pick) → word_or null_word w (column_pick kept pick) ≡ picked_word (kept_words texts kept w) pick
  column-pick w (Word place) = column-word w kept place
  column-pick w Zero = refl

  picks-row : (w : List ℤ) (picks : List Pick) → words_or null_word (map (column_pick kept) picks) w ≡ picked picks (kept_words texts kept w)
  picks-row w [] = refl
  picks-row w (pick ∷ picks) = ap₂ (λ (a : ℤ) (l : List ℤ). a ∷ l) (column-pick w pick) (picks-row w picks)

  kept-row : (w : List ℤ) (ks : List At) → words_or null_word (map (λ (a : At). Word a.column) ks) w ≡ map (λ (a : At). word_of_column a.column w) ks
  kept-row w [] = refl
  kept-row w (a ∷ ks) = ap (λ (l : List ℤ). word_of_column a.column w ∷ l) (kept-row w ks)

  columns-given : (picks : Option (List Pick)) (rows : List (List ℤ)) → map (words_or null_word (columns_for kept picks)) rows ≡ given picks (map (kept_words texts kept) rows)
  columns-given None [] = refl
  columns-given None (w ∷ rows) = ap₂ (λ (a : List ℤ) (l : List (List ℤ)). a ∷ l) (kept-row w kept) (columns-given None rows)
  columns-given (Some picks) [] = refl
  columns-given (Some picks) (w ∷ rows) = ap₂ (λ (a : List ℤ) (l : List (List ℤ)). a ∷ l) (picks-row w picks) (columns-given (Some picks) rows)

-- so many columns as words are given
pub columns-width : (kept : List At) (picks : Option (List Pick)) → length (columns_for kept picks) ≡ given_width picks (length kept)
columns-width kept None = length-map kept (λ (a : At). Word a.column)
columns-width kept (Some picks) = length-map picks (column_pick kept)

-- the tests of filters pass a row exactly where it meets the filters
pub tests-pass : (texts : List (List ℕ)) (filters : List Filter) (tests : List WordTest) → AreTestsOf texts filters tests → (w : List ℤ) → all_passed tests w ≡ word_kept texts filters w
tests-pass texts [] [] h w = refl
tests-pass texts [] (t ∷ tests) h w = absurd h
tests-pass texts (f ∷ filters) [] h w = absurd h
tests-pass texts (f ∷ filters) (t ∷ tests) h w = ap₂ (λ (a b : Bool). a && b) (h.0 w) (tests-pass texts filters tests h.1 w)

-- what a scanner of some fragments gives from the first row on
pub scanner-left : (texts : List (List ℕ)) (filters : List Filter) (kept : List At) (picks : Option (List Pick)) (coded : ℕ → List (List ℤ)) (fs : List ℕ) (tests : List WordTest) (columns : List Pick) (fragments : List (List (List ℤ))) →
    AreTestsOf texts filters tests → columns ≡ columns_for kept picks → fragments ≡ map coded fs →
    left_rows tests columns fragments 0 0 ≡ given picks (scanned_rows texts filters kept (flat_map coded fs))
scanner-left texts filters kept picks coded fs tests columns fragments passes are from =
    left-all tests columns fragments
    ∙ (ap₂ (λ (cs : List Pick) (rows : List (List ℤ)). scanned tests cs rows) are (ap (λ (l : List (List (List ℤ))). flat_map (λ (rows : List (List ℤ)). rows) l) from ∙ flat_map-map (λ (rows : List (List ℤ)). rows) coded fs)
    ∙ (ap (map (words_or null_word (columns_for kept picks))) (filter_agree (all_passed tests) (word_kept texts filters) (tests-pass texts filters tests passes) (flat_map coded fs))
    ∙ columns-given texts kept picks (filter (word_kept texts filters) (flat_map coded fs))))

-- one fragment more
range-next : (n : ℕ) → range_with_len 0 (n + 1) ≡ range_with_len 0 n ++ n ∷ []
range-next n = sym (map-id (range_with_len 0 (n + 1))) ∙ (map-range_with_len_more (λ (k : ℕ). k) 0 n n (omega arith) ∙ ap (λ (l : List ℕ). l ++ n ∷ []) (map-id (range_with_len 0 n)))

one-kept : (rows : ℕ → List (List ℤ)) (p q : ℕ → Bool) (n : ℕ) (x y : Bool) → q n ≡ x → p n ≡ y → map rows (filter p (filter q (n ∷ []))) ≡ cond (x && y) (rows n ∷ []) []
one-kept rows p q n true y f g = ap (λ (b : Bool). map rows (filter p (cond b (n ∷ []) []))) f ∙ (ap (λ (b : Bool). map rows (cond b (n ∷ []) [])) g ∙ by y)
  where
    by : (b : Bool) → map rows (cond b (n ∷ []) []) ≡ cond b (rows n ∷ []) []
    by true = refl
    by false = refl
one-kept rows p q n false y f g = ap (λ (b : Bool). map rows (filter p (cond b (n ∷ []) []))) f

pub fragments_more : (rows : ℕ → List (List ℤ)) (p q : ℕ → Bool) (n : ℕ) → map rows (filter p (filter q (range_with_len 0 (n + 1)))) ≡ map rows (filter p (filter q (range_with_len 0 n))) ++ cond (q n && p n) (rows n ∷ []) []
fragments_more rows p q n =
    ap (λ (l : List ℕ). map rows (filter p (filter q l))) (range-next n)
    ∙ (ap (λ (l : List ℕ). map rows (filter p l)) (filter-append q (range_with_len 0 n) (n ∷ []))
    ∙ (ap (map rows) (filter-append p (filter q (range_with_len 0 n)) (filter q (n ∷ [])))
    ∙ (map-append rows (filter p (filter q (range_with_len 0 n))) (filter p (filter q (n ∷ [])))
    ∙ ap (λ (l : List (List (List ℤ))). map rows (filter p (filter q (range_with_len 0 n))) ++ l) (one-kept rows p q n (q n) (p n) refl refl))))

-- one fragment more is read, or not
pub kept_more : (rows : ℕ → List (List ℤ)) (p q : ℕ → Bool) (n : ℕ) (b : Bool) (before now : List (List (List ℤ))) → before ≡ map rows (filter p (filter q (range_with_len 0 n))) → b ≡ (q n && p n) → now ≡ before ++ cond b (rows n ∷ []) [] → now ≡ map rows (filter p (filter q (range_with_len 0 (n + 1))))
kept_more rows p q n b before now e f is =
    is ∙ (ap₂ (λ (l : List (List (List ℤ))) (x : Bool). l ++ cond x (rows n ∷ []) []) e f ∙ sym (fragments_more rows p q n))

pub push-read : {X : Type 0} (rows : X → List (List ℤ)) (old now : List X) (x : X) (r : List (List ℤ)) (b : Bool) → now ≡ old ++ x ∷ [] → rows x ≡ r → b ≡ true → map rows now ≡ map rows old ++ cond b (r ∷ []) []
push-read rows old now x r b e f g =
    ap (map rows) e
    ∙ (map-append rows old (x ∷ [])
    ∙ (ap (λ (z : List (List ℤ)). map rows old ++ z ∷ []) f ∙ sym (ap (λ (c : Bool). map rows old ++ cond c (r ∷ []) []) g)))

pub pass-read : {X : Type 0} (rows : X → List (List ℤ)) (old now : List X) (r : List (List ℤ)) (b : Bool) → now ≡ old → b ≡ false → map rows now ≡ map rows old ++ cond b (r ∷ []) []
pass-read rows old now r b e g = ap (map rows) e ∙ (sym (append-nil (map rows old)) ∙ sym (ap (λ (c : Bool). map rows old ++ cond c (r ∷ []) []) g))

-- how many fragments a table has
pub fragment_counts : (cuts : List CutView) (table n : ℕ) → slice_get (map fragment_count cuts) table ≡ Some n → fragment_count (get_or cuts table (rounds 1)) ≡ n
fragment_counts cuts table n e = sym (get_or-map fragment_count cuts table (rounds 1)) ∙ get_or_from_slice_get (map fragment_count cuts) table n (fragment_count (rounds 1)) e

-- one lane more
pub fresh-more : {S : Type 0} (left : S → Coming) (width : S → ℕ) (w n : ℕ) (comings : ℕ → Coming) (lanes : List (Lane S)) (lane : Lane S) → AreFresh left width w n comings lanes → IsFresh left width w (comings n) lane → AreFresh left width w (n + 1) comings (lanes ++ lane ∷ [])
fresh-more {S} left width w n comings lanes lane h one = record {
  count = length-append lanes (lane ∷ []) ∙ ap (λ (m : ℕ). m + 1) h.count;
  each = λ i d l. by i d l (lt_or_eq i);
}
  where
    lt_or_eq : (i : ℕ) → (i < n) ⊎ (n ≤ i)
    lt_or_eq i = search arith

    by : (i : ℕ) (d : Lane S) → i < n + 1 → (i < n) ⊎ (n ≤ i) → IsFresh left width w (comings i) (get_or (lanes ++ lane ∷ []) i d)
    by i d l (inl m) = subst (IsFresh left width w (comings i)) (sym (get_or_append_left lanes (lane ∷ []) d i (omega (arith, h.count)))) (h.each i d m)
    by i d l (inr m) =
        let e : n ≡ i = omega arith in
        subst (IsFresh left width w (comings i)) (sym (get_or_push lanes lane d i (h.count ∙ e))) (subst (λ (k : ℕ). IsFresh left width w (comings k) lane) e one)
