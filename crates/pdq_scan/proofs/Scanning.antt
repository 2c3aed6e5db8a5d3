-- One row more of some fragments.
use Rattle.std.proofs.Common.{◌≡◌, ℕ, ◌+◌, ◌<◌, ◌≤◌, List, [], ◌∷◌, ◌++◌, length, get_or, take, drop, set, refl, sym, ap, ap₂, ◌∙◌, subst, arith, map, filter, flat_map, Bool, true, false, cond, ℤ, append_assoc, length-append}
use Rattle.std.specs.Prelude.{Some, slice_get}
use Rattle.std.proofs.lemmas.List.{get_or-map, drop_all, drop_more, map-append, map_more, take_more_set}
use Rattle.std.proofs.lemmas.List.Elements.{filter-append}
use Rattle.std.proofs.lemmas.Option.{get_or_from_slice_get}
use Rattle.pdq_exchange.specs.Roles.{Gave}
use Rattle.pdq_base.specs.Words.{null_word}
use Rattle.pdq_eval.specs.declared.picks.Pick.{Pick}
use Rattle.pdq_eval.specs.declared.picks.Pick.TheVariants.{Zero}
use Rattle.pdq_scan.specs.declared.word_tests.WordTest.{WordTest}
use Rattle.pdq_scan.specs.Lanes.{all_told}
use Rattle.pdq_scan.specs.Scans.{IsPassing, left_rows, rows_from, scanned, word_or, words_or}
use Rattle.pdq_scan.specs.WordTests.{all_passed}

none_past : {X : Type 0} (xs : List X) (n : ℕ) → length xs ≤ n → drop n xs ≡ []
none_past xs n l = drop_all n xs l

-- a row that does not pass is passed over
pub skip-row : (p : List ℤ → Bool) (rows : List (List ℤ)) (i : ℕ) (row : List ℤ) → i < length rows → get_or rows i [] ≡ row → p row ≡ false → filter p (drop i rows) ≡ filter p (drop (i + 1) rows)
skip-row p rows i row l is e =
    ap (filter p) (drop_more rows i [] l ∙ ap (λ (x : List ℤ). x ∷ drop (i + 1) rows) is)
    ∙ ap (λ (b : Bool). cond b (row ∷ filter p (drop (i + 1) rows)) (filter p (drop (i + 1) rows))) e

-- one that passes is the next
pub next-row : (p : List ℤ → Bool) (rows : List (List ℤ)) (i : ℕ) (row : List ℤ) → i < length rows → get_or rows i [] ≡ row → p row ≡ true → filter p (drop i rows) ≡ row ∷ filter p (drop (i + 1) rows)
next-row p rows i row l is e =
    ap (filter p) (drop_more rows i [] l ∙ ap (λ (x : List ℤ). x ∷ drop (i + 1) rows) is)
    ∙ ap (λ (b : Bool). cond b (row ∷ filter p (drop (i + 1) rows)) (filter p (drop (i + 1) rows))) e

module _ (tests : List WordTest) (columns : List Pick) where
  abbrev Scanned : List (List ℤ) → List (List ℤ)
  Scanned = scanned tests columns

  abbrev Together : List (List (List ℤ)) → List (List ℤ)
  Together fragments = flat_map (λ (rows : List (List ℤ)). rows) fragments

  scanned-append : (us vs : List (List ℤ)) → Scanned (us ++ vs) ≡ Scanned us ++ Scanned vs
  scanned-append us vs = ap (map (words_or null_word columns)) (filter-append (all_passed tests) us vs) ∙ map-append (words_or null_word columns) (filter (all_passed tests) us) (filter (all_passed tests) vs)

  from-first : (fragments : List (List (List ℤ))) → rows_from fragments 0 ≡ Together fragments
  from-first [] = refl
  from-first (rows ∷ more) = refl

  module _ (fragments : List (List (List ℤ))) where
    -- what is left within a fragment, and behind it
    left-at : (at row : ℕ) → at < length fragments → left_rows tests columns fragments at row ≡ Scanned (drop row (get_or fragments at [])) ++ Scanned (Together (drop (at + 1) fragments))
    unfolding left_rows
    left-at at row l =
        ap (λ (fs : List (List (List ℤ))). Scanned (rows_from fs row)) (drop_more fragments at [] l)
        ∙ scanned-append (drop row (get_or fragments at [])) (Together (drop (at + 1) fragments))

    -- a search within a fragment leaves what is left
    pub left-within : (at row now : ℕ) → at < length fragments → filter (all_passed tests) (drop now (get_or fragments at [])) ≡ filter (all_passed tests) (drop row (get_or fragments at [])) → left_rows tests columns fragments at now ≡ left_rows tests columns fragments at row
    left-within at row now l e = left-at at now l ∙ (ap (λ (rows : List (List ℤ)). map (words_or null_word columns) rows ++ Scanned (Together (drop (at + 1) fragments))) e ∙ sym (left-at at row l))

    -- all of a fragment is given
    pub left-behind : (at row : ℕ) → at < length fragments → length (get_or fragments at []) ≤ row → left_rows tests columns fragments (at + 1) 0 ≡ left_rows tests columns fragments at row
    unfolding left_rows
    left-behind at row l past =
        ap Scanned (from-first (drop (at + 1) fragments))
        ∙ sym (left-at at row l ∙ ap (λ (rows : List (List ℤ)). Scanned rows ++ Scanned (Together (drop (at + 1) fragments))) (none_past (get_or fragments at []) row past))

    -- all is given
    pub left-none : (at row : ℕ) → length fragments ≤ at → left_rows tests columns fragments at row ≡ []
    unfolding left_rows
    left-none at row l = ap (λ (fs : List (List (List ℤ))). Scanned (rows_from fs row)) (none_past fragments at l)

    -- the row that was found is the next
    pub left-next : (at row : ℕ) → IsPassing tests fragments at row → left_rows tests columns fragments at row ≡ words_or null_word columns (get_or (get_or fragments at []) row []) ∷ left_rows tests columns fragments at (row + 1)
    left-next at row h =
        let rows = get_or fragments at [] in
        left-at at row h.fragment
        ∙ (ap (λ (rs : List (List ℤ)). map (words_or null_word columns) rs ++ Scanned (Together (drop (at + 1) fragments))) (next-row (all_passed tests) rows row (get_or rows row []) h.within refl h.passes)
        ∙ ap (λ (rs : List (List ℤ)). words_or null_word columns (get_or rows row []) ∷ rs) (sym (left-at at (row + 1) h.fragment)))

    -- from the first row of the first fragment on, it is what is scanned of all fragments
    pub left-all : left_rows tests columns fragments 0 0 ≡ Scanned (Together fragments)
    unfolding left_rows
    left-all = ap Scanned (from-first fragments)

-- a fragment among some
pub piece-at : {X : Type 0} (rows : X → List (List ℤ)) (fragments : List X) (at : ℕ) (fragment : X) → at < length fragments → fragment ≡ get_or fragments at fragment → get_or (map rows fragments) at [] ≡ rows fragment
piece-at rows fragments at fragment l is = get_or-map rows fragments at fragment [] l ∙ ap rows (sym is)

-- a search in a fragment, with these tests, came to this row
module _ (tests asked : List WordTest) (same : asked ≡ tests) (columns : List Pick) (fragments : List (List (List ℤ))) (rows : List (List ℤ)) (at row now : ℕ) (l : at < length fragments) (is : get_or fragments at [] ≡ rows) where
  pub seek-within : filter (all_passed asked) (drop now rows) ≡ filter (all_passed asked) (drop row rows) → left_rows tests columns fragments at now ≡ left_rows tests columns fragments at row
  seek-within e = left-within tests columns fragments at row now l
      (subst (λ (ts : List WordTest). filter (all_passed ts) (drop now (get_or fragments at [])) ≡ filter (all_passed ts) (drop row (get_or fragments at []))) same
      (subst (λ (rs : List (List ℤ)). filter (all_passed asked) (drop now rs) ≡ filter (all_passed asked) (drop row rs)) (sym is) e))

  pub seek-found : now < length rows → all_passed asked (get_or rows now []) ≡ true → IsPassing tests fragments at now
  seek-found m e = record {
    fragment = l;
    within = subst (λ (rs : List (List ℤ)). now < length rs) (sym is) m;
    passes = subst (λ (rs : List (List ℤ)). all_passed tests (get_or rs now []) ≡ true) (sym is) (subst (λ (ts : List WordTest). all_passed ts (get_or rows now []) ≡ true) same e);
  }

  pub seek-behind : length rows ≤ now → left_rows tests columns fragments (at + 1) 0 ≡ left_rows tests columns fragments at now
  seek-behind m = left-behind tests columns fragments at now l (subst (λ (rs : List (List ℤ)). length rs ≤ now) (sym is) m)

-- the row that was found was made into another
pub put-found : (tests : List WordTest) (columns columns_now : List Pick) (fragments : List (List (List ℤ))) (at row : ℕ) (rows : List (List ℤ)) (word made : List ℤ) (missing : ℤ) → IsPassing tests fragments at row → get_or fragments at [] ≡ rows → slice_get rows row ≡ Some word → made ≡ words_or missing columns word → missing ≡ null_word → columns_now ≡ columns →
    left_rows tests columns fragments at row ≡ made ∷ left_rows tests columns_now fragments at (row + 1)
put-found tests columns columns_now fragments at row rows word made missing h is there made_is nulls same =
    left-next tests columns fragments at row h
    ∙ ap₂ (λ (a : List ℤ) (l : List (List ℤ)). a ∷ l)
    (ap (words_or null_word columns) (ap (λ (rs : List (List ℤ)). get_or rs row []) is ∙ get_or_from_slice_get rows row word [] there) ∙ (ap (λ (m : ℤ). words_or m columns word) (sym nulls) ∙ sym made_is))
    (ap (λ (cs : List Pick). left_rows tests cs fragments at (row + 1)) (sym same))

-- where a row was found some are left
pub some-left : (tests : List WordTest) (columns : List Pick) (fragments : List (List (List ℤ))) (at row : ℕ) → IsPassing tests fragments at row → 0 < length (left_rows tests columns fragments at row)
some-left tests columns fragments at row h = subst (λ (l : List (List ℤ)). 0 < length l) (sym (left-next tests columns fragments at row h)) (omega arith)

-- one word more was picked
pub pick-more : (missing : ℤ) (picks : List Pick) (row into now : List ℤ) (i : ℕ) (word : ℤ) → i < length picks → length into ≡ length picks → take i into ≡ words_or missing (take i picks) row → now ≡ set into i word → word ≡ word_or missing row (get_or picks i Zero) → take (i + 1) now ≡ words_or missing (take (i + 1) picks) row
pick-more missing picks row into now i word l n before e w =
    ap (take (i + 1)) e ∙ (take_more_set into i word (omega (arith, n, l)) ∙ (ap₂ (λ (a : List ℤ) (b : ℤ). a ++ b ∷ []) before w ∙ sym (map_more (word_or missing row) picks i Zero l)))

-- a row was given
pub gave-row : (before rows left now : List (List ℤ)) (row : List ℤ) → before ≡ rows ++ left → left ≡ row ∷ now → before ≡ (rows ++ row ∷ []) ++ now
gave-row before rows left now row e f = e ∙ (ap (λ (l : List (List ℤ)). rows ++ l) f ∙ sym (append_assoc rows (row ∷ []) now))

pub gave-these : (before rows left : List (List ℤ)) → before ≡ rows ++ left → Gave (all_told before) rows (all_told left)
gave-these before rows left e = record { count = ap (λ (l : List (List ℤ)). length l) e ∙ length-append rows left; told = ap (λ (l : List (List ℤ)). Some l) e }
