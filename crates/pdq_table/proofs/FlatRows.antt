-- Rows in one flat list of words.
use Rattle.std.proofs.Common.{ℕ, zero, suc, ◌≡◌, ◌<◌, ◌≤◌, ◌+◌, ◌*◌, ◌∙◌, List, [], ◌∷◌, ◌++◌, length, map, take, drop, refl, ap, ap₂, sym, arith, suc-mul, zero-mul, ℤ, Some, add-one, length-append, length-drop}
use Rattle.std.specs.Prelude.{slice_get}
use Rattle.std.proofs.lemmas.List.{drop-append-le, drop-drop, drop-map, take-append-le, take-map, take_all}
use Rattle.pdq_value.specs.PlainTable.{most_rows}
use Rattle.pdq_table.specs.Words.{AreWordsOf, FragmentView, fragment_view, rows_of_words, with_row, with_words}

pub length-rows_of_words : (width count : ℕ) (words : List ℤ) → length (rows_of_words width count words) ≡ count
length-rows_of_words width zero words = refl
length-rows_of_words width (suc count) words = omega (arith, length-rows_of_words width count (drop width words))

-- a fragment has as many rows as are counted
pub count_of_rows : (width count : ℕ) (words : List ℤ) → count ≡ length (rows_of_words width count words)
count_of_rows width count words = sym (length-rows_of_words width count words)

-- one row more
pub rows_of_words-more : (width count : ℕ) (words row : List ℤ) → length words ≡ count * width → length row ≡ width →
    rows_of_words width (suc count) (words ++ row) ≡ rows_of_words width count words ++ row ∷ []
rows_of_words-more width zero [] row whole same = ap (λ (r : List ℤ). r ∷ []) (take_all width row (omega (arith, same)))
rows_of_words-more width zero (w ∷ words) row whole same = absurd (omega (arith, whole, zero-mul width))
rows_of_words-more width (suc count) words row whole same =
    let room : width ≤ length words = omega (arith, whole, suc-mul count width) in
    let left : length (drop width words) ≡ count * width = omega (arith, length-drop width words, whole, suc-mul count width) in
    ap₂ (λ (first : List ℤ) (rest : List (List ℤ)). first ∷ rest) (take-append-le width words row room)
    (ap (rows_of_words width (suc count)) (drop-append-le width words row room) ∙ rows_of_words-more width count (drop width words) row left same)

-- the row at a place
pub slice_get-rows_of_words : (width count : ℕ) (words : List ℤ) (i : ℕ) → i < count → slice_get (rows_of_words width count words) i ≡ Some (take width (drop (i * width) words))
slice_get-rows_of_words width zero words i less = absurd (omega (arith, less))
slice_get-rows_of_words width (suc count) words zero less = ap (λ (n : ℕ). Some (take width (drop n words))) (sym (zero-mul width))
slice_get-rows_of_words width (suc count) words (suc i) less =
    let within : i < count = omega (arith, less) in
    let place : width + i * width ≡ suc i * width = omega (arith, suc-mul i width) in
    slice_get-rows_of_words width count (drop width words) i within
    ∙ ap (λ (ws : List ℤ). Some (take width ws)) (drop-drop (i * width) width words ∙ ap (λ (n : ℕ). drop n words) place)

-- the words of a row lie within the list
pub row_within : (width count size i : ℕ) → size ≡ count * width → i < count → i * width + width ≤ size
row_within width zero size i whole less = absurd (omega (arith, less))
row_within width (suc count) size zero whole less = omega (arith, whole, suc-mul count width, zero-mul width)
row_within width (suc count) size (suc i) whole less =
    omega (arith, whole, suc-mul count width, suc-mul i width, row_within width count (count * width) i refl (omega (arith, less)))

-- other words in place of each
pub rows_of_words-map : (g : ℤ → ℤ) (width count : ℕ) (words : List ℤ) → rows_of_words width count (map g words) ≡ map (map g) (rows_of_words width count words)
rows_of_words-map g width zero words = refl
rows_of_words-map g width (suc count) words =
    ap₂ (λ (first : List ℤ) (rest : List (List ℤ)). first ∷ rest) (take-map g width words)
    (ap (rows_of_words width count) (drop-map g width words) ∙ rows_of_words-map g width count (drop width words))

one_more : (n m : ℕ) → n * m + m ≡ (n + 1) * m
one_more n m = grind arith

abbrev rows_of_width : ℕ → List (List ℤ) → FragmentView
rows_of_width width rows = record { width = width; rows = rows }

module _ (width count : ℕ) (words : List ℤ) (f : FragmentView) (are : AreWordsOf width count words) (is : fragment_view width count words ≡ f) where
  row_inside : (i : ℕ) → i < length f.rows → i < count
  row_inside i less = omega (arith, ap (λ (g : FragmentView). length g.rows) is, length-rows_of_words width count words, less)

  -- a row of a fragment lies within its words
  pub row_ends : (i : ℕ) → i < length f.rows → i * width + width ≤ length words
  row_ends i less = row_within width count (length words) i are.whole (row_inside i less)

  -- and is these of them
  pub row_is : (i : ℕ) → i < length f.rows → slice_get f.rows i ≡ Some (take width (drop (i * width) words))
  row_is i less = ap (λ (g : FragmentView). slice_get g.rows i) (sym is) ∙ slice_get-rows_of_words width count words i (row_inside i less)

  -- the fragment with one row more
  module _ (row new : List ℤ) (same : length row ≡ f.width) (pushed : new ≡ words ++ row) where
    as_wide : length row ≡ width
    as_wide = same ∙ sym (ap (λ (g : FragmentView). g.width) is)

    pub fragment_view-more : fragment_view width (count + 1) new ≡ with_row f row
    fragment_view-more =
        ap (fragment_view width (count + 1)) pushed ∙ ap (λ (k : ℕ). fragment_view width k (words ++ row)) (add-one count)
        ∙ ap (rows_of_width width) (rows_of_words-more width count words row are.whole as_wide) ∙ ap (λ (g : FragmentView). with_row g row) is

    pub words_of-more : length f.rows < most_rows → AreWordsOf width (count + 1) new
    words_of-more few = record {
      whole = omega (arith, ap length pushed, length-append words row, are.whole, as_wide, one_more count width);
      few = omega (arith, few, ap (λ (g : FragmentView). length g.rows) is, length-rows_of_words width count words);
    }

  -- the fragment with another word for each
  pub fragment_view-map : (g : ℤ → ℤ) (new : List ℤ) → new ≡ map g words → fragment_view width count new ≡ with_words g f
  fragment_view-map g new mapped = ap (fragment_view width count) mapped ∙ ap (rows_of_width width) (rows_of_words-map g width count words) ∙ ap (with_words g) is
