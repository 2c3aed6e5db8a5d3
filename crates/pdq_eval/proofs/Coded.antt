-- What is asked of cells may be asked of their words.
use Rattle.std.proofs.Common.{All, zero, suc, ◌-◌, ◌+ℤ◌, ◌≡◌, ℕ, ◌<◌, ◌≤◌, ◌^◌, List, [], ◌∷◌, ◌++◌, Bool, true, false, not, ◌&&◌, cond, refl, sym, ap, ap₂, ◌∙◌, arith, length, get_or, ℤ, pos, negsuc, nat_abs, Option, None, Some, is_some, unwrap_or, map, filter, fold, subst, true≢false, nat_lt, int_cmp, int_lt, nat_cmp, is_eq, is_lt}
use Rattle.std.specs.Int.{int_min, int_max}
use Rattle.std.specs.Ordering.{int_eq, ordering_then}
use Rattle.std.specs.declared.cmp.Ordering.{Ordering}
use Rattle.std.specs.declared.cmp.Ordering.TheVariants.{Less, Equal, Greater}
use Rattle.std.specs.List.{AllZip}
use Rattle.std.proofs.lemmas.Bool.Decides.{Decides-int_eq, nat_tests, same_from_decides}
use Rattle.std.proofs.lemmas.Int.{ints}
use Rattle.std.proofs.lemmas.List.{get_or_append_left, get_or_at, length-append, map_push}
use Rattle.std.proofs.lemmas.List.Elements.{All-head, All-tail}
use Rattle.std.proofs.lemmas.List.Sorted.{All-permutation}
use Rattle.std.proofs.lemmas.List.Sums.{fold_push}
use Rattle.std.specs.Cmp.{int_cmp_is}
use Rattle.std.proofs.lemmas.Cmp.{tied_itself, nat_cmp_total}
use Rattle.pdq_base.specs.Sorting.{in_order}
use Rattle.pdq_base.specs.Words.{is_null, is_value, null_word}
use Rattle.pdq_base.proofs.InOrder.{in_order-IsPermutation}
use Rattle.pdq_value.specs.declared.cells.Cell.{Cell}
use Rattle.pdq_value.specs.declared.cells.Cell.TheVariants.{Nothing, Number, Words}
use Rattle.pdq_value.specs.declared.shapes.Kind.{Kind}
use Rattle.pdq_value.specs.declared.shapes.Kind.TheVariants as kind
use Rattle.pdq_value.specs.declared.shapes.Value.{Value}
use Rattle.pdq_value.specs.declared.shapes.Value.TheVariants as value
use Rattle.pdq_value.specs.Cells.{cell_cmp, number_of, scale_of}
use Rattle.pdq_value.specs.Tables.{IsValueOf}
use Rattle.pdq_value.proofs.Orders.{cell_cmp-IsLinearOrder}
use Rattle.pdq_dict.specs.Coding.{IsCoded, cell_of_word, word_of}
use Rattle.pdq_dict.specs.Dictionary.{code_of, place_of}
use Rattle.pdq_dict.specs.Texts.{text_cmp}
use Rattle.pdq_dict.proofs.Rising.{Rises}
use Rattle.pdq_dict.proofs.CodedCells.{cells_are_read_back, equal_words_are_equal_cells, words_compare_as_cells}
use Rattle.pdq_dict.proofs.Codes.{codes_compare_as_texts, codes_below_a_place}
use Rattle.pdq_dict.proofs.TextOrder.{text_cmp-IsLinearOrder}
use Rattle.pdq_query.specs.declared.query.Compare.{Compare}
use Rattle.pdq_query.specs.Conditions.{are_equal, compares, holds, is_something}
use Rattle.pdq_query.specs.Folds.{greatest_of, is_row, least_of, scale_in, total_of}
use Rattle.pdq_mean.proofs.Extremes.{comes_before, greatest-one, greatest_step, least-one, least_step}
use Rattle.pdq_group.specs.Groups.{is_same}
use Rattle.pdq_group.specs.Words.{greatest_of as greatest_word, least_of as least_word, total_of as word_total, values}
use Rattle.pdq_group.proofs.Keys.{same_is}
use Rattle.pdq_group.proofs.Lists.{by_last}
use Rattle.pdq_eval.specs.Scanning.{absent_cmp, are_same, text_word_cmp, word_compares}
use Rattle.pdq_eval.proofs.Keys.{same_row}

small_below : (z : ℤ) → nat_abs z < 10 ^ 18 → int_cmp z null_word ≡ Greater
small_below (pos n) h = refl
small_below (negsuc n) h = sym (int_cmp_is (negsuc n) null_word Greater (omega (arith, ints)))

pub small_value : (z : ℤ) → nat_abs z < 10 ^ 18 → is_value z ≡ true
small_value z h = ap (λ o. not (is_eq o)) (small_below z h)

codes_cmp : (m n : ℕ) → int_cmp (pos m) (pos n) ≡ nat_cmp m n
codes_cmp m n = grind (arith, nat_tests)

lt_test : (a b : Bool) → is_lt (cond a Less (cond b Greater Equal)) ≡ a
lt_test true b = refl
lt_test false true = refl
lt_test false false = refl

abbrev first_word : List ℤ → ℤ
first_word [] = null_word
first_word (w ∷ ws) = w

abbrev later_words : List ℤ → List ℤ
later_words [] = []
later_words (w ∷ ws) = ws

then_equal : (o p : Ordering) → p ≡ Equal → ordering_then o p ≡ o
then_equal Less p e = refl
then_equal Equal p e = e
then_equal Greater p e = refl

module _ {X Y : Type 0} (f : X → Y) (P : X → Type 0) where
  -- the images of those that pass are those of the images that pass
  pub kept_images : (p : X → Bool) (r : Y → Bool) → ((x : X) → P x → p x ≡ r (f x)) → (xs : List X) → All P xs → map f (filter p xs) ≡ filter r (map f xs)
  kept_images p r h [] k = refl
  kept_images p r h (x ∷ xs) k = by (p x) (r (f x)) (h x (All-head P x xs k)) (kept_images p r h xs (All-tail P x xs k))
    where
      by : (a b : Bool) → a ≡ b → map f (filter p xs) ≡ filter r (map f xs) → map f (cond a (x ∷ filter p xs) (filter p xs)) ≡ cond b (f x ∷ filter r (map f xs)) (filter r (map f xs))
      by true b e g = ap (λ l. f x ∷ l) g ∙ ap (λ c. cond c (f x ∷ filter r (map f xs)) (filter r (map f xs))) e
      by false b e g = g ∙ ap (λ c. cond c (f x ∷ filter r (map f xs)) (filter r (map f xs))) e

module _ (texts : List (List ℕ)) (rises : Rises texts) where
  pub something : (k : Kind) (a : Cell) → IsCoded texts k a → is_something a ≡ is_value (word_of texts a)
  something k Nothing h = refl
  something (kind.Number s) (Number z t) h = sym (small_value z h.1)
  something (kind.Number s) (Words t) h = absurd h
  something kind.Words (Number z t) h = absurd h
  something kind.Words (Words t) h = refl

  same_and_there : (x y m : Bool) → (m ≡ true → x ≡ y) → ((x && y) && m) ≡ (m && x)
  same_and_there true true true h = refl
  same_and_there true true false h = refl
  same_and_there true false true h = absurd (true≢false (h refl))
  same_and_there true false false h = refl
  same_and_there false y true h = refl
  same_and_there false y false h = refl

  -- an equality of two columns is that of their words
  pub are_equal-words : (k : Kind) (a b : Cell) → IsCoded texts k a → IsCoded texts k b → are_equal a b ≡ are_same (word_of texts a) (word_of texts b)
  are_equal-words k a b h g =
      ap₂ (λ x o. x && is_eq o) (ap₂ (λ x y. x && y) (something k a h) (something k b g)) (words_compare_as_cells texts rises k a b h g)
      ∙ same_and_there (is_value (word_of texts a)) (is_value (word_of texts b)) (int_eq (word_of texts a) (word_of texts b)) (λ e. ap is_value ((Decides-int_eq (word_of texts a) (word_of texts b)).0 e))

  absent : (s t : List ℕ) (i : ℕ) → code_of texts s ≡ Some i → code_of texts t ≡ None → text_cmp s t ≡ absent_cmp (pos i) (place_of texts t)
  absent s t i e f = by (nat_lt i (place_of texts t)) refl (text_cmp s t) refl
    where
      below : (i < place_of texts t) → text_cmp s t ≡ Less
      below p = (codes_below_a_place texts rises s t i e).0 p

      by : (b : Bool) → nat_lt i (place_of texts t) ≡ b → (o : Ordering) → text_cmp s t ≡ o → text_cmp s t ≡ cond b Less Greater
      by true p o q = below (grind (arith, nat_tests))
      by false p Less q = absurd (let r : i < place_of texts t = (codes_below_a_place texts rises s t i e).1 q in let u : place_of texts t ≤ i = grind (arith, nat_tests) in omega arith)
      by false p Equal q = absurd (true≢false (ap is_some (sym e ∙ ap (code_of texts) (text_cmp-IsLinearOrder.same s t q) ∙ f)))
      by false p Greater q = q

  texts_cmp : (s t : List ℕ) (i : ℕ) → code_of texts s ≡ Some i → (o : Option ℕ) → code_of texts t ≡ o → text_cmp s t ≡ text_word_cmp texts (pos i) t o
  texts_cmp s t i e None f = absent s t i e f
  texts_cmp s t i e (Some j) f = sym (codes_compare_as_texts texts rises s t i j e f) ∙ sym (codes_cmp i j)

  text_order : (s t : List ℕ) → cell_cmp (Words s) (Words t) ≡ text_cmp s t
  unfolding cell_cmp
  text_order s t = refl

  number_order : (y z : ℤ) (s : ℕ) → cell_cmp (Number y s) (Number z s) ≡ int_cmp y z
  unfolding cell_cmp
  number_order y z s = then_equal (int_cmp y z) _ (ap (λ o. ordering_then o Equal) (tied_itself nat_cmp_total s))

  null_compares : (x m : Bool) → ((x && false) && m) ≡ false
  null_compares true m = refl
  null_compares false m = refl

  -- a comparison with a literal is that of the word with the literal's code, or with its place where it is not in the dictionary
  pub compares-words : (test : Compare) (k : Kind) (a : Cell) (v : Value) → IsCoded texts k a → IsValueOf k v → compares test a v ≡ word_compares texts test (word_of texts a) v
  compares-words test k a value.Null h g = null_compares (is_something a) _
  compares-words test k Nothing (value.Number z) h g = refl
  compares-words test k Nothing (value.Words t) h g = refl
  compares-words test (kind.Number s) (Number y t) (value.Number z) h g = ap₂ (λ x o. x && holds test o) (sym (small_value y h.1)) (number_order y z t)
  compares-words test (kind.Number s) (Number y t) (value.Words u) h g = absurd g
  compares-words test (kind.Number s) (Words t) (value.Number z) h g = absurd h
  compares-words test (kind.Number s) (Words t) (value.Words u) h g = absurd h
  compares-words test kind.Words (Number y t) (value.Number z) h g = absurd h
  compares-words test kind.Words (Number y t) (value.Words u) h g = absurd h
  compares-words test kind.Words (Words s) (value.Number z) h g = absurd g
  compares-words test kind.Words (Words s) (value.Words t) h g =
      ap (holds test) (text_order s t ∙ texts_cmp s t h.0 h.1 (code_of texts t) refl ∙ ap (λ c. text_word_cmp texts (pos (unwrap_or c 0)) t (code_of texts t)) (sym h.1))

  -- a row of cells of these kinds
  abbrev pub AreCoded : List Kind → List Cell → Type 0
  AreCoded = AllZip (IsCoded texts)

  same_cells : (ks : List Kind) (a b : List Cell) → AreCoded ks a → AreCoded ks b → map (word_of texts) a ≡ map (word_of texts) b → a ≡ b
  same_cells [] [] [] h g e = refl
  same_cells [] [] (y ∷ b) h g e = absurd g
  same_cells [] (x ∷ a) b h g e = absurd h
  same_cells (k ∷ ks) [] b h g e = absurd h
  same_cells (k ∷ ks) (x ∷ a) [] h g e = absurd g
  same_cells (k ∷ ks) (x ∷ a) (y ∷ b) h g e =
      ap₂ (λ c l. c ∷ l) (equal_words_are_equal_cells texts rises k x y h.0 g.0 (ap first_word e)) (same_cells ks a b h.1 g.1 (ap later_words e))

  -- keys are the same where their words are
  pub is_row-words : (ks : List Kind) (a b : List Cell) → AreCoded ks a → AreCoded ks b → is_row a b ≡ is_same (map (word_of texts) a) (map (word_of texts) b)
  is_row-words ks a b h g =
      let words = same_is (map (word_of texts) a) (map (word_of texts) b) in
      same_from_decides (is_row a b) (is_same (map (word_of texts) a) (map (word_of texts) b)) (same_row a b) ((λ e. same_cells ks a b h g (words.0 e)), (λ e. words.1 (ap (map (word_of texts)) e)))

  module _ (k : Kind) where
    coded_at : (xs : List Cell) (i : ℕ) → All (IsCoded texts k) xs → IsCoded texts k (get_or xs i Nothing)
    coded_at [] i h = tt
    coded_at (x ∷ xs) zero h = All-head (IsCoded texts k) x xs h
    coded_at (x ∷ xs) (suc i) h = coded_at xs i (All-tail (IsCoded texts k) x xs h)

    coded_in_order : (xs : List Cell) (i : ℕ) → All (IsCoded texts k) xs → IsCoded texts k (get_or (in_order cell_cmp xs) i Nothing)
    coded_in_order xs i h = coded_at (in_order cell_cmp xs) i (All-permutation (IsCoded texts k) xs (in_order cell_cmp xs) (in_order-IsPermutation cell_cmp-IsLinearOrder xs) h)

    before_words : (a b : Cell) → IsCoded texts k a → IsCoded texts k b → comes_before a b ≡ int_lt (word_of texts a) (word_of texts b)
    before_words a b h g = ap is_lt (words_compare_as_cells texts rises k a b h g) ∙ lt_test (int_lt (word_of texts a) (word_of texts b)) (int_lt (word_of texts b) (word_of texts a))

    word_of_choice : (b : Bool) (x y : Cell) → word_of texts (cond b x y) ≡ cond b (word_of texts x) (word_of texts y)
    word_of_choice true x y = refl
    word_of_choice false x y = refl

    All-front : (xs : List Cell) (x : Cell) → All (IsCoded texts k) (xs ++ x ∷ []) → All (IsCoded texts k) xs
    All-front xs x h i d p = subst (IsCoded texts k) (get_or_append_left xs (x ∷ []) d i p) (h i d (omega (arith, p, length-append xs (x ∷ []))))

    All-last : (xs : List Cell) (x : Cell) → All (IsCoded texts k) (xs ++ x ∷ []) → IsCoded texts k x
    All-last xs x h = subst (IsCoded texts k) (get_or_at xs x [] Nothing (length xs) refl) (h (length xs) Nothing (omega (arith, length-append xs (x ∷ []))))

    abbrev IsLeastWord : List Cell → Type 0
    IsLeastWord xs = All (IsCoded texts k) xs → word_of texts (least_of xs) ≡ least_word (map (word_of texts) xs)

    least_next : (xs : List Cell) (x : Cell) → IsLeastWord xs → IsLeastWord (xs ++ x ∷ [])
    least_next [] x h g = ap (word_of texts) (sym (least-one x))
    least_next (y ∷ ys) x h g =
        let xs = y ∷ ys in
        let l = least_of xs in
        let c = coded_in_order xs 0 (All-front xs x g) in
        let e = h (All-front xs x g) in
        ap (word_of texts) (least_step xs x (omega arith)) ∙ word_of_choice (comes_before x l) x l
        ∙ ap₂ (λ b w. cond b (word_of texts x) w) (before_words x l (All-last xs x g) c ∙ ap (int_lt (word_of texts x)) e) e
        ∙ sym (fold_push int_min (word_of texts y) (map (word_of texts) ys) (word_of texts x)) ∙ ap (fold int_min (word_of texts y)) (sym (map_push (word_of texts) ys x))

    least_none : IsLeastWord []
    unfolding in_order
    least_none h = refl

    least_words : (xs : List Cell) → IsLeastWord xs
    least_words = by_last IsLeastWord least_none least_next

    abbrev IsGreatestWord : List Cell → Type 0
    IsGreatestWord xs = All (IsCoded texts k) xs → word_of texts (greatest_of xs) ≡ greatest_word (map (word_of texts) xs)

    greatest_next : (xs : List Cell) (x : Cell) → IsGreatestWord xs → IsGreatestWord (xs ++ x ∷ [])
    greatest_next [] x h g = ap (word_of texts) (sym (greatest-one x))
    greatest_next (y ∷ ys) x h g =
        let xs = y ∷ ys in
        let l = greatest_of xs in
        let c = coded_in_order xs (length xs - 1) (All-front xs x g) in
        let e = h (All-front xs x g) in
        ap (word_of texts) (greatest_step xs x (omega arith)) ∙ word_of_choice (comes_before x l) l x
        ∙ ap₂ (λ b w. cond b w (word_of texts x)) (before_words x l (All-last xs x g) c ∙ ap (int_lt (word_of texts x)) e) e
        ∙ sym (fold_push int_max (word_of texts y) (map (word_of texts) ys) (word_of texts x)) ∙ ap (fold int_max (word_of texts y)) (sym (map_push (word_of texts) ys x))

    greatest_none : IsGreatestWord []
    unfolding in_order
    greatest_none h = refl

    greatest_words : (xs : List Cell) → IsGreatestWord xs
    greatest_words = by_last IsGreatestWord greatest_none greatest_next

    -- the least cell is that of the least word, and the greatest that of the greatest
    pub least_of-words : (xs : List Cell) → All (IsCoded texts k) xs → cell_of_word texts k (least_word (map (word_of texts) xs)) ≡ least_of xs
    least_of-words xs h = ap (cell_of_word texts k) (sym (least_words xs h)) ∙ cells_are_read_back texts rises k (least_of xs) (coded_in_order xs 0 h)

    pub greatest_of-words : (xs : List Cell) → All (IsCoded texts k) xs → cell_of_word texts k (greatest_word (map (word_of texts) xs)) ≡ greatest_of xs
    greatest_of-words xs h = ap (cell_of_word texts k) (sym (greatest_words xs h)) ∙ cells_are_read_back texts rises k (greatest_of xs) (coded_in_order xs (length xs - 1) h)

    -- the words that are values are those of the cells that are there
    pub values-words : (xs : List Cell) → All (IsCoded texts k) xs → values (map (word_of texts) xs) ≡ map (word_of texts) (filter is_something xs)
    values-words xs h = sym (kept_images (word_of texts) (IsCoded texts k) is_something (λ w. not (is_null w)) (something k) xs h)

  abbrev pub IsNumberCell : ℕ → Cell → Type 0
  IsNumberCell s c = IsCoded texts (kind.Number s) c × (is_something c ≡ true)

  pub number_word : (s : ℕ) (c : Cell) → IsNumberCell s c → (number_of c ≡ word_of texts c) × (nat_abs (word_of texts c) < 10 ^ 18)
  number_word s Nothing h = absurd (true≢false (sym h.1))
  number_word s (Number z t) h = (refl, h.0.1)
  number_word s (Words t) h = absurd h.0

  sums_from : (s : ℕ) (a : ℤ) (xs : List Cell) → All (IsNumberCell s) xs → fold ◌+ℤ◌ a (map (word_of texts) xs) ≡ a +ℤ total_of xs
  sums_from s a [] h = omega (arith, ints)
  sums_from s a (c ∷ xs) h =
      let e = (number_word s c (All-head (IsNumberCell s) c xs h)).0 in
      let t = total_of xs in
      let n = number_of c in
      sums_from s (a +ℤ word_of texts c) xs (All-tail (IsNumberCell s) c xs h) ∙ ap (λ w. (a +ℤ w) +ℤ t) (sym e) ∙ add a n t
    where
      add : (x y z : ℤ) → (x +ℤ y) +ℤ z ≡ x +ℤ (y +ℤ z)
      add x y z = omega (arith, ints)

  -- the sum of some numbers is that of their words
  pub total_of-words : (s : ℕ) (xs : List Cell) → All (IsNumberCell s) xs → word_total (map (word_of texts) xs) ≡ total_of xs
  total_of-words s xs h = sums_from s (pos 0) xs h ∙ zero_left (total_of xs)
    where
      zero_left : (z : ℤ) → pos 0 +ℤ z ≡ z
      zero_left z = omega (arith, ints)

  pub scale_in-words : (s : ℕ) (xs : List Cell) → 0 < length xs → All (IsNumberCell s) xs → scale_in xs ≡ s
  scale_in-words s [] p h = absurd (omega arith)
  scale_in-words s (c ∷ xs) p h = scales s c xs (All-head (IsNumberCell s) c xs h) (All-tail (IsNumberCell s) c xs h)
    where
      one_scale : (s : ℕ) (c : Cell) → IsNumberCell s c → scale_of c ≡ s
      one_scale s Nothing h = absurd (true≢false (sym h.1))
      one_scale s (Number z t) h = h.0.0
      one_scale s (Words t) h = absurd h.0

      at_most : (s : ℕ) (xs : List Cell) → All (IsNumberCell s) xs → scale_in xs ≤ s
      at_most s [] h = omega arith
      at_most s (c ∷ xs) h = let e = one_scale s c (All-head (IsNumberCell s) c xs h) in let r = at_most s xs (All-tail (IsNumberCell s) c xs h) in omega arith

      scales : (s : ℕ) (c : Cell) (xs : List Cell) → IsNumberCell s c → All (IsNumberCell s) xs → scale_in (c ∷ xs) ≡ s
      scales s c xs h g = let e = one_scale s c h in let r = at_most s xs g in omega arith
