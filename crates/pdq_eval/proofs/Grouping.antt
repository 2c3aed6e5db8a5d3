-- What the groupers put, decoded, are the groups of the choices.
use Rattle.std.proofs.Common.{All, suc, ◌≡◌, ℕ, ◌+◌, ◌<◌, ◌≤◌, ◌⊎◌, inl, inr, List, [], ◌∷◌, ◌++◌, Bool, true, false, not, ◌||◌, cond, refl, sym, ap, ap₂, ◌∙◌, subst, arith, length, get_or, ℤ, pos, map, filter, flat_map, take, true≢false, IsPermutation, IsSorted, Contains, append_assoc, nat_lt, None, Some, ⊎_elim}
use Rattle.std.specs.List.{AllZip, dedup, list_any, position, position_or_len}
use Rattle.std.specs.Option.{unwrap_or}
use Rattle.std.proofs.lemmas.Bool.{lt-ltb}
use Rattle.std.proofs.lemmas.Bool.Decides.{nat_tests}
use Rattle.std.proofs.lemmas.List.{get_or_default, length-map, take_at, drop_at, length-append, get_or_at}
use Rattle.std.proofs.lemmas.List.Elements.{All-head, All-tail, All-cons, All-filter, All-map, All-weaker}
use Rattle.std.proofs.lemmas.List.Folds.{list_any-append}
use Rattle.std.proofs.lemmas.List.Sorted.{IsPermutation-refl, IsPermutation-trans, IsPermutation-map, length_permutation}
use Rattle.pdq_base.specs.Sorting.{in_order}
use Rattle.pdq_base.specs.Words.{word_at}
use Rattle.pdq_value.specs.declared.cells.Cell.{Cell}
use Rattle.pdq_value.specs.declared.cells.Cell.TheVariants.{Nothing, Number}
use Rattle.pdq_value.specs.declared.shapes.Kind.{Kind}
use Rattle.pdq_value.specs.declared.shapes.Kind.TheVariants as kind
use Rattle.pdq_value.specs.Cells.{cell_at, row_cmp}
use Rattle.pdq_value.specs.Tables.{ShapeView, TableView}
use Rattle.pdq_dict.specs.Coding.{IsCoded, cell_of_word, word_of}
use Rattle.pdq_dict.proofs.CodedCells.{cells_are_read_back}
use Rattle.pdq_dict.proofs.Rising.{Rises}
use Rattle.pdq_query.specs.declared.query.At.{At}
use Rattle.pdq_query.specs.declared.query.Item.{Item}
use Rattle.pdq_query.specs.declared.query.Item.TheVariants as item
use Rattle.pdq_query.specs.Queries.{QueryView}
use Rattle.pdq_query.specs.Conditions.{Choice, cell_in, is_something}
use Rattle.pdq_query.specs.Fits.{Fits, HasKind, IsColumn, IsPlainInGroups, ItemFits}
use Rattle.pdq_query.specs.Folds.{average_cell, greatest_of, group_rows, is_column, is_grouped, is_row, item_of_group, key_of, keys_of, least_of, sum_of}
use Rattle.pdq_query.specs.Answer.{answer, answer_cmp, choices, places, projected, row_limit, rows_at, rows_of}
use Rattle.pdq_query.proofs.Planning as planning
use Rattle.pdq_plan.specs.Lists.{once}
use Rattle.pdq_plan.specs.PlanSteps.{column_place, item_columns, join_columns, plan_steps, run_columns}
use Rattle.pdq_group.specs.declared.shape.Fold.TheVariants as fold
use Rattle.pdq_group.specs.Folds.{average_words, fold_words, folded_from, sum_words}
use Rattle.pdq_group.specs.Groups.{grouped_words, is_same, keys_of as word_keys_of}
use Rattle.pdq_group.specs.Words.{greatest_of as greatest_word, least_of as least_word}
use Rattle.pdq_eval.specs.Results.{folds, folds_of, group_answer_row, group_cells, group_input, input_of_item, item_of_nothing, key_words, kind_at, scale_of_kind}
use Rattle.pdq_eval.specs.Running.{no_words, run_words, words_in}
use Rattle.pdq_eval.proofs.Matched.{of_key}
use Rattle.pdq_eval.proofs.Coded.{IsNumberCell, greatest_of-words, is_row-words, kept_images, least_of-words, values-words}
use Rattle.pdq_eval.proofs.Wide.{average_of-words, sum_of-words}
use Rattle.pdq_eval.proofs.Keys.{keys_of-once, length-keys_of}
use Rattle.pdq_eval.proofs.KeysOnce.{grouped_words-grouped, keys_of-once as word_keys_of-once, row_of_key}
use Rattle.pdq_eval.proofs.Running.{IsCodedChoice, IsCodedRow, get_or-column_place, has_column, has_flat_map, is_column-itself, is_used, or_left, or_right}
use Rattle.pdq_eval.proofs.Staging.{All-passing, map-agree}
use Rattle.pdq_eval.proofs.Results as results

module _ {X Y : Type 0} (f : X → Y) (P : X → Type 0) where
  All-once : (is_same : X → X → Bool) (xs : List X) → All P xs → All P (once is_same xs)
  All-once is_same [] h = h
  All-once is_same (x ∷ xs) h = All-cons P x _ (All-head P x xs h) (All-filter (λ y. not (is_same x y)) P (once is_same xs) (All-once is_same xs (All-tail P x xs h)))

  -- each image once is the image of each once
  pub once-map : (same_x : X → X → Bool) (same_y : Y → Y → Bool) → ((x z : X) → P x → P z → same_x x z ≡ same_y (f x) (f z)) → (xs : List X) → All P xs → map f (once same_x xs) ≡ once same_y (map f xs)
  once-map same_x same_y h [] k = refl
  once-map same_x same_y h (x ∷ xs) k =
      let rest = All-tail P x xs k in
      ap (λ l. f x ∷ l) (kept_images f P (λ z. not (same_x x z)) (λ z. not (same_y (f x) z)) (λ z pz. ap not (h x z (All-head P x xs k) pz)) (once same_x xs) (All-once same_x xs rest)
      ∙ ap (filter (λ z. not (same_y (f x) z))) (once-map same_x same_y h xs rest))

position-found : {X : Type 0} (p : X → Bool) (xs : List X) → list_any p xs ≡ true → position_or_len p xs < length xs
position-found p [] h = absurd (true≢false (sym h))
position-found p (x ∷ xs) h = by (p x) refl (position-found p xs)
  where
    by : (b : Bool) → p x ≡ b → (list_any p xs ≡ true → position_or_len p xs < length xs) → cond (not b) (1 + position_or_len p xs) 0 < length (x ∷ xs)
    by true e r = omega arith
    by false e r = let s = r (sym (ap (λ b. b || list_any p xs) e) ∙ h) in omega arith

position-is : {X : Type 0} (p : X → Bool) (xs : List X) → list_any p xs ≡ true → unwrap_or (position p xs) 0 ≡ position_or_len p xs
position-is p xs h = ap (λ c. unwrap_or (cond c (Some (position_or_len p xs)) None) 0) (lt-ltb (position_or_len p xs) (length xs) (position-found p xs h))

pub filter-shorter : {X : Type 0} (p : X → Bool) (xs : List X) → length (filter p xs) ≤ length xs
filter-shorter p [] = omega arith
filter-shorter p (x ∷ xs) = by (p x) (filter-shorter p xs)
  where
    by : (b : Bool) → length (filter p xs) ≤ length xs → length (cond b (x ∷ filter p xs) (filter p xs)) ≤ length (x ∷ xs)
    by true h = omega (arith, h)
    by false h = omega (arith, h)

module _ (texts : List (List ℕ)) (rises : Rises texts) (shapes : List ShapeView) (tables : List TableView) (q : QueryView) (fits : Fits shapes q)
    (coded_rows : (place : ℕ) → All (IsCodedRow texts rises shapes q place) (rows_at tables q place))
    (order : List ℕ) (moved : IsPermutation (places q) order) where
  abbrev Cols : List At
  Cols = run_columns q order

  abbrev W : Choice → List ℤ
  W = words_in texts Cols

  used_groups : All (λ (a : At). IsColumn shapes q.tables a × is_used q a) q.groups
  used_groups k d p =
      let a = get_or q.groups k d in
      let here : get_or q.groups k a ≡ a = get_or_default q.groups k a d p in (
        fits.groups k d p,
        list_any-append (is_column a) (flat_map item_columns q.items) _ ∙ or_right (has_column (flat_map item_columns q.items) a) _ (list_any-append (is_column a) (flat_map join_columns q.joins) q.groups ∙ or_right (has_column (flat_map join_columns q.joins) a) _
            (subst (λ l. has_column l a ≡ true) (singles q.groups) (has_flat_map (λ (b : At). b ∷ []) a a q.groups k p here (or_left (is_column a a) _ (is_column-itself a))))),
      )
    where
      singles : (cols : List At) → flat_map (λ (b : At). b ∷ []) cols ≡ cols
      singles [] = refl
      singles (c ∷ cols) = ap (λ l. c ∷ l) (singles cols)

  word_of_column : (a : At) (k : Kind) → HasKind shapes q.tables a k → is_used q a → (c : Choice) → word_at (column_place Cols a) (W c) ≡ word_of texts (cell_in c a)
  word_of_column a k h u c = results.word_of_column texts rises shapes tables q fits coded_rows order moved a k h u c

  -- the key in words
  key_words-W : (c : Choice) → key_words Cols q.groups (W c) ≡ map (word_of texts) (key_of q c)
  key_words-W c = map-agree (λ (a : At). IsColumn shapes q.tables a × is_used q a) _ (λ a. word_of texts (cell_in c a)) (λ a h. word_of_column a h.0.0 h.0.1 h.1 c) q.groups used_groups ∙ sym (results.map-map (word_of texts) (cell_in c) q.groups)

  abbrev Kinds : List At → List Kind
  Kinds = map (kind_at shapes q)

  coded_key : (c : Choice) → IsCodedChoice texts rises shapes q c → (groups : List At) → All (IsColumn shapes q.tables) groups → AllZip (IsCoded texts) (Kinds groups) (map (cell_in c) groups)
  coded_key c coded [] h = tt
  coded_key c coded (a ∷ groups) h =
      let here = All-head (IsColumn shapes q.tables) a groups h in
      (subst (λ k. IsCoded texts k (cell_in c a)) (sym (results.has_kind-kind_at texts rises shapes tables q fits coded_rows order moved a here.0 here.1)) (coded a here.0 here.1), coded_key c coded groups (All-tail (IsColumn shapes q.tables) a groups h))

  abbrev IsCodedKey : List Cell → Type 0
  IsCodedKey = AllZip (IsCoded texts) (Kinds q.groups)

  same_key : (k l : List Cell) → IsCodedKey k → IsCodedKey l → is_row k l ≡ is_same (map (word_of texts) k) (map (word_of texts) l)
  same_key k l h g = is_row-words texts rises (Kinds q.groups) k l h g

  -- the words that a running row hands to the grouper
  abbrev Input : Choice → List ℤ
  Input c = group_input Cols q (W c)

  key_of_input : (c : Choice) → take (length q.groups) (Input c) ≡ map (word_of texts) (key_of q c)
  key_of_input c = take_at (key_words Cols q.groups (W c)) _ (length q.groups) (length-map q.groups _) ∙ key_words-W c

  abbrev IsInGroups : Item → Type 0
  IsInGroups = IsPlainInGroups q.groups

  abbrev IsUsedItem : Item → Type 0
  IsUsedItem i = ItemFits shapes q.tables i × ((a : At) → has_column (item_columns i) a ≡ true → is_used q a)

  itself : (a : At) → has_column (a ∷ []) a ≡ true
  itself a = ap (λ b. b || false) (is_column-itself a)

  -- a word of the inputs of some choices
  column_words : (j : ℕ) (pre : Choice → List ℤ) (w : Choice → ℤ) (rest : Choice → List ℤ) (f : Choice → ℤ) (inputs : Choice → List ℤ) → ((c : Choice) → inputs c ≡ pre c ++ (w c ∷ [] ++ rest c)) → ((c : Choice) → length (pre c) ≡ j) → ((c : Choice) → w c ≡ f c) → (cs : List Choice) →
      map (word_at j) (map inputs cs) ≡ map f cs
  column_words j pre w rest f inputs is long same [] = refl
  column_words j pre w rest f inputs is long same (c ∷ cs) = ap₂ (λ a l. a ∷ l) (ap (word_at j) (is c) ∙ get_or_at (pre c) (w c) (rest c) (pos 0) j (long c) ∙ same c) (column_words j pre w rest f inputs is long same cs)

  module _ (cs : List Choice) (few : length cs ≤ 20000000) (coded : All (IsCodedChoice texts rises shapes q) cs) (c0 : Choice) (coded0 : IsCodedChoice texts rises shapes q c0) where
    abbrev Key : List Cell
    Key = key_of q c0

    abbrev KeyWords : List ℤ
    KeyWords = map (word_of texts) Key

    abbrev CellsOf : At → List Cell
    CellsOf a = map (λ c. cell_in c a) cs

    -- those that are there
    abbrev Values : At → List Cell
    Values a = filter is_something (CellsOf a)

    coded_cells : (a : At) (k : Kind) → HasKind shapes q.tables a k → All (IsCoded texts k) (CellsOf a)
    coded_cells a k h = All-map (IsCoded texts k) (λ (c : Choice). cell_in c a) cs (λ i d p. coded i d p a k h)

    coded_values : (a : At) (k : Kind) → HasKind shapes q.tables a k → All (IsCoded texts k) (Values a)
    coded_values a k h = All-filter is_something (IsCoded texts k) (CellsOf a) (coded_cells a k h)

    number_cells : (a : At) (s : ℕ) → HasKind shapes q.tables a (kind.Number s) → All (IsNumberCell texts rises s) (Values a)
    number_cells a s h i d p = (coded_values a (kind.Number s) h i d p, All-passing is_something (CellsOf a) i d p)

    few_values : (a : At) → length (Values a) ≤ 20000000
    few_values a = let m = length-map cs (λ c. cell_in c a) in let f = filter-shorter is_something (CellsOf a) in omega (arith, few, m, f)

    kind_is : (a : At) (k : Kind) → HasKind shapes q.tables a k → kind_at shapes q a ≡ k
    kind_is a k h = results.has_kind-kind_at texts rises shapes tables q fits coded_rows order moved a k h

    -- the words in one place of the inputs are those of a column's cells
    words_of_column : (a : At) (k : Kind) → HasKind shapes q.tables a k → is_used q a → (j : ℕ) (pre rest inputs : Choice → List ℤ) → ((c : Choice) → inputs c ≡ pre c ++ (word_at (column_place Cols a) (W c) ∷ [] ++ rest c)) → ((c : Choice) → length (pre c) ≡ j) →
        map (word_at j) (map inputs cs) ≡ map (word_of texts) (CellsOf a)
    words_of_column a k h u j pre rest inputs is long = column_words j pre (λ c. word_at (column_place Cols a) (W c)) rest (λ c. word_of texts (cell_in c a)) inputs is long (λ c. word_of_column a k h u c) cs ∙ sym (results.map-map (word_of texts) (λ c. cell_in c a) cs)

    plain_item : (a : At) → IsColumn shapes q.tables a → Contains q.groups a → cell_of_word texts (kind_at shapes q a) (word_at (column_place q.groups a) KeyWords) ≡ cell_at (unwrap_or (position (is_column a) q.groups) 0) Key
    plain_item a h in_groups =
        let has : has_column q.groups a ≡ true = subst (λ l. has_column l a ≡ true) (singles q.groups) (has_flat_map (λ (b : At). b ∷ []) a a q.groups in_groups.0 in_groups.1 in_groups.2 (itself a)) in
        ap₂ (cell_of_word texts) (kind_is a h.0 h.1) (ap (word_at (column_place q.groups a)) (results.map-map (word_of texts) (cell_in c0) q.groups) ∙ get_or-column_place (λ b. word_of texts (cell_in c0 b)) q.groups a (pos 0) has)
        ∙ cells_are_read_back texts rises h.0 (cell_in c0 a) (coded0 a h.0 h.1)
        ∙ sym (ap (λ n. cell_at n Key) (position-is (is_column a) q.groups has) ∙ get_or-column_place (cell_in c0) q.groups a Nothing has)
      where
        singles : (cols : List At) → flat_map (λ (b : At). b ∷ []) cols ≡ cols
        singles [] = refl
        singles (c ∷ cols) = ap (λ l. c ∷ l) (singles cols)

    abbrev Decoded : List Item → List ℤ → List Cell
    Decoded items ws = group_cells texts shapes q items KeyWords ws

    abbrev Folded : List Item → ℕ → (Choice → List ℤ) → List ℤ
    Folded items j inputs = folded_from (folds_of items) j (map inputs cs)

    abbrev Reads : List Item → (Choice → List ℤ) → (Choice → List ℤ) → Type 0
    Reads items pre inputs = (c : Choice) → inputs c ≡ pre c ++ flat_map (input_of_item Cols (W c)) items

    -- one word more was read
    next_read : (w : Choice → ℤ) (is : List Item) (pre inputs : Choice → List ℤ) → ((c : Choice) → inputs c ≡ pre c ++ (w c ∷ [] ++ flat_map (input_of_item Cols (W c)) is)) → Reads is (λ c. pre c ++ w c ∷ []) inputs
    next_read w is pre inputs h c = h c ∙ sym (append_assoc (pre c) (w c ∷ []) _)

    next_long : (w : Choice → ℤ) (pre : Choice → List ℤ) (j : ℕ) → ((c : Choice) → length (pre c) ≡ j) → (c : Choice) → length (pre c ++ w c ∷ []) ≡ suc j
    next_long w pre j h c = let e = h c in omega (arith, length-append (pre c) (w c ∷ []))

    -- the cell of a fold, before those of the items behind it
    sum_item : (a : At) (s : ℕ) → HasKind shapes q.tables a (kind.Number s) → (is : List Item) (rest : List ℤ) → Decoded (item.Sum a ∷ is) (fold_words fold.Sum (map (word_of texts) (CellsOf a)) ++ rest) ≡ sum_of (Values a) ∷ Decoded is rest
    unfolding fold_words
    sum_item a s h is rest =
        ap (λ vs. Decoded (item.Sum a ∷ is) (sum_words vs ++ rest)) (values-words texts rises (kind.Number s) (CellsOf a) (coded_cells a (kind.Number s) h))
        ∙ sum_of-words texts rises shapes q a is KeyWords rest s (ap scale_of_kind (kind_is a (kind.Number s) h)) (Values a) (number_cells a s h) (few_values a)

    average_item : (a : At) (s : ℕ) → HasKind shapes q.tables a (kind.Number s) → (is : List Item) (rest : List ℤ) → Decoded (item.Avg a ∷ is) (fold_words fold.Avg (map (word_of texts) (CellsOf a)) ++ rest) ≡ average_cell (Values a) ∷ Decoded is rest
    unfolding fold_words
    average_item a s h is rest =
        ap (λ vs. Decoded (item.Avg a ∷ is) (average_words vs ++ rest)) (values-words texts rises (kind.Number s) (CellsOf a) (coded_cells a (kind.Number s) h))
        ∙ average_of-words texts rises shapes q a is KeyWords rest s (ap scale_of_kind (kind_is a (kind.Number s) h)) (Values a) (number_cells a s h) (few_values a)

    least_item : (a : At) (k : Kind) → HasKind shapes q.tables a k → (is : List Item) (rest : List ℤ) → Decoded (item.Min a ∷ is) (fold_words fold.Min (map (word_of texts) (CellsOf a)) ++ rest) ≡ least_of (Values a) ∷ Decoded is rest
    unfolding fold_words
    least_item a k h is rest =
        ap (λ vs. Decoded (item.Min a ∷ is) (least_word vs ∷ rest)) (values-words texts rises k (CellsOf a) (coded_cells a k h))
        ∙ ap (λ c. c ∷ Decoded is rest) (ap (λ l. cell_of_word texts l (least_word (map (word_of texts) (Values a)))) (kind_is a k h) ∙ least_of-words texts rises k (Values a) (coded_values a k h))

    greatest_item : (a : At) (k : Kind) → HasKind shapes q.tables a k → (is : List Item) (rest : List ℤ) → Decoded (item.Max a ∷ is) (fold_words fold.Max (map (word_of texts) (CellsOf a)) ++ rest) ≡ greatest_of (Values a) ∷ Decoded is rest
    unfolding fold_words
    greatest_item a k h is rest =
        ap (λ vs. Decoded (item.Max a ∷ is) (greatest_word vs ∷ rest)) (values-words texts rises k (CellsOf a) (coded_cells a k h))
        ∙ ap (λ c. c ∷ Decoded is rest) (ap (λ l. cell_of_word texts l (greatest_word (map (word_of texts) (Values a)))) (kind_is a k h) ∙ greatest_of-words texts rises k (Values a) (coded_values a k h))

    count_item : (ws : List ℤ) (is : List Item) (rest : List ℤ) → length ws ≡ length cs → Decoded (item.Count ∷ is) (fold_words fold.Count ws ++ rest) ≡ Number (pos (length cs)) 0 ∷ Decoded is rest
    unfolding fold_words
    count_item ws is rest e = ap (λ n. Number (pos n) 0 ∷ Decoded is rest) e

    pub group_items : (items : List Item) → All IsUsedItem items → All IsInGroups items → (j : ℕ) (pre inputs : Choice → List ℤ) → Reads items pre inputs → ((c : Choice) → length (pre c) ≡ j) →
        Decoded items (Folded items j inputs) ≡ map (item_of_group q Key cs) items
    unfolding item_of_group
    group_items [] h g j pre inputs reads long = refl
    group_items (item.Plain a ∷ is) h g j pre inputs reads long =
        ap₂ (λ x l. x ∷ l) (plain_item a (All-head IsUsedItem (item.Plain a) is h).0 (All-head IsInGroups (item.Plain a) is g))
        (group_items is (All-tail IsUsedItem (item.Plain a) is h) (All-tail IsInGroups (item.Plain a) is g) j pre inputs reads long)
    group_items (item.Sum a ∷ is) h g j pre inputs reads long =
        let here = All-head IsUsedItem (item.Sum a) is h in
        let rest = Folded is (suc j) inputs in
        ap (λ ws. Decoded (item.Sum a ∷ is) (fold_words fold.Sum ws ++ rest)) (words_of_column a (kind.Number here.0.0) here.0.1 (here.1 a (itself a)) j pre (λ c. flat_map (input_of_item Cols (W c)) is) inputs reads long)
        ∙ sum_item a here.0.0 here.0.1 is rest
        ∙ ap (λ l. sum_of (Values a) ∷ l) (group_items is (All-tail IsUsedItem (item.Sum a) is h) (All-tail IsInGroups (item.Sum a) is g) (suc j) (λ c. pre c ++ word_at (column_place Cols a) (W c) ∷ []) inputs (next_read (λ c. word_at (column_place Cols a) (W c)) is pre inputs reads) (next_long (λ c. word_at (column_place Cols a) (W c)) pre j long))
    group_items (item.Avg a ∷ is) h g j pre inputs reads long =
        let here = All-head IsUsedItem (item.Avg a) is h in
        let rest = Folded is (suc j) inputs in
        ap (λ ws. Decoded (item.Avg a ∷ is) (fold_words fold.Avg ws ++ rest)) (words_of_column a (kind.Number here.0.0) here.0.1 (here.1 a (itself a)) j pre (λ c. flat_map (input_of_item Cols (W c)) is) inputs reads long)
        ∙ average_item a here.0.0 here.0.1 is rest
        ∙ ap (λ l. average_cell (Values a) ∷ l) (group_items is (All-tail IsUsedItem (item.Avg a) is h) (All-tail IsInGroups (item.Avg a) is g) (suc j) (λ c. pre c ++ word_at (column_place Cols a) (W c) ∷ []) inputs (next_read (λ c. word_at (column_place Cols a) (W c)) is pre inputs reads) (next_long (λ c. word_at (column_place Cols a) (W c)) pre j long))
    group_items (item.Min a ∷ is) h g j pre inputs reads long =
        let here = All-head IsUsedItem (item.Min a) is h in
        let rest = Folded is (suc j) inputs in
        ap (λ ws. Decoded (item.Min a ∷ is) (fold_words fold.Min ws ++ rest)) (words_of_column a here.0.0 here.0.1 (here.1 a (itself a)) j pre (λ c. flat_map (input_of_item Cols (W c)) is) inputs reads long)
        ∙ least_item a here.0.0 here.0.1 is rest
        ∙ ap (λ l. least_of (Values a) ∷ l) (group_items is (All-tail IsUsedItem (item.Min a) is h) (All-tail IsInGroups (item.Min a) is g) (suc j) (λ c. pre c ++ word_at (column_place Cols a) (W c) ∷ []) inputs (next_read (λ c. word_at (column_place Cols a) (W c)) is pre inputs reads) (next_long (λ c. word_at (column_place Cols a) (W c)) pre j long))
    group_items (item.Max a ∷ is) h g j pre inputs reads long =
        let here = All-head IsUsedItem (item.Max a) is h in
        let rest = Folded is (suc j) inputs in
        ap (λ ws. Decoded (item.Max a ∷ is) (fold_words fold.Max ws ++ rest)) (words_of_column a here.0.0 here.0.1 (here.1 a (itself a)) j pre (λ c. flat_map (input_of_item Cols (W c)) is) inputs reads long)
        ∙ greatest_item a here.0.0 here.0.1 is rest
        ∙ ap (λ l. greatest_of (Values a) ∷ l) (group_items is (All-tail IsUsedItem (item.Max a) is h) (All-tail IsInGroups (item.Max a) is g) (suc j) (λ c. pre c ++ word_at (column_place Cols a) (W c) ∷ []) inputs (next_read (λ c. word_at (column_place Cols a) (W c)) is pre inputs reads) (next_long (λ c. word_at (column_place Cols a) (W c)) pre j long))
    group_items (item.Count ∷ is) h g j pre inputs reads long =
        count_item (map (word_at j) (map inputs cs)) is (Folded is (suc j) inputs) (length-map (map inputs cs) (word_at j) ∙ length-map cs inputs)
        ∙ ap (λ l. Number (pos (length cs)) 0 ∷ l) (group_items is (All-tail IsUsedItem item.Count is h) (All-tail IsInGroups item.Count is g) (suc j) (λ c. pre c ++ pos 0 ∷ []) inputs (next_read (λ c. pos 0) is pre inputs reads) (next_long (λ c. pos 0) pre j long))

  module _ (cs : List Choice) (few : length cs ≤ 20000000) (coded : All (IsCodedChoice texts rises shapes q) cs) where
    abbrev OfKey : List Cell → List Choice
    OfKey k = filter (λ c. is_row (key_of q c) k) cs

    pub record HasChoice (k : List Cell) : Type 0 where
      pub choice : Choice
      pub coded_choice : IsCodedChoice texts rises shapes q choice
      pub key : k ≡ key_of q choice

    has_choices : All HasChoice (map (key_of q) cs)
    has_choices = All-map HasChoice (key_of q) cs (λ i d p. record { choice = get_or cs i d; coded_choice = coded i d p; key = refl })

    coded_of : (k : List Cell) → HasChoice k → IsCodedKey k
    coded_of k h = subst IsCodedKey (sym h.key) (coded_key h.choice h.coded_choice q.groups fits.groups)

    inputs_of_key : (k : List Cell) → IsCodedKey k → of_key is_same (take (length q.groups)) (row_of_key (length q.groups) (folds_of q.items)) (map (word_of texts) k) (map Input cs) ≡ map Input (OfKey k)
    inputs_of_key k h = sym (kept_images Input (IsCodedChoice texts rises shapes q) (λ c. is_row (key_of q c) k) (λ x. is_same (take (length q.groups) x) (map (word_of texts) k))
        (λ c w. same_key (key_of q c) k (coded_key c w q.groups fits.groups) h ∙ ap (λ v. is_same v (map (word_of texts) k)) (sym (key_of_input c))) cs coded)

    in_groups : folds q ≡ true → All IsInGroups q.items
    in_groups e = fits.grouped e

    few_of : (k : List Cell) → length (OfKey k) ≤ 20000000
    few_of k = let f = filter-shorter (λ c. is_row (key_of q c) k) cs in omega (arith, few, f)

    -- the row of a key
    row_of_one : folds q ≡ true → (k : List Cell) → HasChoice k →
        group_answer_row texts shapes q (row_of_key (length q.groups) (folds_of q.items) (map (word_of texts) k) (map Input (OfKey k))) ≡ map (item_of_group q k (OfKey k)) q.items
    row_of_one e k h =
        let long : length (map (word_of texts) k) ≡ length q.groups = length-map k (word_of texts) ∙ ap length h.key ∙ length-map q.groups (cell_in h.choice) in
        let rest = folded_from (folds_of q.items) (length q.groups) (map Input (OfKey k)) in
        ap₂ (group_cells texts shapes q q.items) (take_at (map (word_of texts) k) rest (length q.groups) long ∙ ap (map (word_of texts)) h.key) (drop_at (map (word_of texts) k) rest (length q.groups) long)
        ∙ group_items (OfKey k) (few_of k) (All-filter (λ c. is_row (key_of q c) k) (IsCodedChoice texts rises shapes q) cs coded) h.choice h.coded_choice q.items used (in_groups e) (length q.groups) (λ c. key_words Cols q.groups (W c)) Input (λ c. refl) (λ c. length-map q.groups _)
        ∙ ap (λ key. map (item_of_group q key (OfKey k)) q.items) (sym h.key)
      where
        used : All IsUsedItem q.items
        used = results.used_items texts rises shapes tables q fits coded_rows order moved

    -- the keys in words are those of the choices
    pub input_keys : once is_same (map (take (length q.groups)) (map Input cs)) ≡ map (map (word_of texts)) (once is_row (map (key_of q) cs))
    input_keys =
        ap (once is_same) (results.map-map (take (length q.groups)) Input cs ∙ map-agree (IsCodedChoice texts rises shapes q) (λ c. take (length q.groups) (Input c)) (λ c. map (word_of texts) (key_of q c)) (λ c w. key_of_input c) cs coded ∙ sym (results.map-map (map (word_of texts)) (key_of q) cs))
        ∙ sym (once-map (map (word_of texts)) IsCodedKey is_row is_same same_key (map (key_of q) cs) (All-weaker HasChoice IsCodedKey coded_of (map (key_of q) cs) has_choices))

    -- what the groupers put, decoded, is one row for each key, in the order in which the keys come first
    pub decoded_groups : folds q ≡ true →
        map (group_answer_row texts shapes q) (grouped_words (length q.groups) (folds_of q.items) (map Input cs)) ≡ map (λ k. map (item_of_group q k (OfKey k)) q.items) (once is_row (map (key_of q) cs))
    decoded_groups e =
        ap (map (group_answer_row texts shapes q)) (grouped_words-grouped (length q.groups) (folds_of q.items) (map Input cs))
        ∙ ap (λ ks. map (group_answer_row texts shapes q) (map (λ k. row_of_key (length q.groups) (folds_of q.items) k (of_key is_same (take (length q.groups)) (row_of_key (length q.groups) (folds_of q.items)) k (map Input cs))) ks)) input_keys
        ∙ results.map-map (group_answer_row texts shapes q) _ (map (map (word_of texts)) (once is_row (map (key_of q) cs)))
        ∙ results.map-map _ (map (word_of texts)) (once is_row (map (key_of q) cs))
        ∙ map-agree HasChoice _ _ (λ k h. ap (λ xs. group_answer_row texts shapes q (row_of_key (length q.groups) (folds_of q.items) (map (word_of texts) k) xs)) (inputs_of_key k (coded_of k h)) ∙ row_of_one e k h) (once is_row (map (key_of q) cs)) (All-once (λ x. x) HasChoice is_row (map (key_of q) cs) has_choices)

  once_nil : (ks : List (List Cell)) → All (λ k. k ≡ []) ks → 0 < length ks → once is_row ks ≡ [] ∷ []
  once_nil [] h p = absurd (omega arith)
  once_nil (k ∷ ks) h p = ap₂ (λ x l. x ∷ filter (λ y. not (is_row x y)) l) here refl ∙ ap (λ l. [] ∷ l) (none (once is_row ks) (All-once (λ x. x) (λ k. k ≡ []) is_row ks (All-tail (λ k. k ≡ []) k ks h)))
    where
      here : k ≡ []
      here = All-head (λ k. k ≡ []) k ks h

      none : (ls : List (List Cell)) → All (λ k. k ≡ []) ls → filter (λ y. not (is_row [] y)) ls ≡ []
      none [] h = refl
      none (l ∷ ls) h = ap (λ x. cond (not (is_row [] x)) (l ∷ filter (λ y. not (is_row [] y)) ls) (filter (λ y. not (is_row [] y)) ls)) (All-head (λ k. k ≡ []) l ls h) ∙ none ls (All-tail (λ k. k ≡ []) l ls h)

  no_groups : (gs : List At) → nat_lt 0 (length gs) ≡ false → gs ≡ []
  no_groups [] e = refl
  no_groups (g ∷ gs) e = absurd (true≢false (sym (lt-ltb 0 (length (g ∷ gs)) (omega arith)) ∙ e))

  -- the keys, each once, where there is a group column or a choice
  keys_are : (cs : List Choice) → (is_grouped q ≡ true) ⊎ (0 < length cs) → IsPermutation (keys_of q cs) (once is_row (map (key_of q) cs))
  unfolding keys_of
  keys_are cs h = by (is_grouped q) refl h
    where
      ungrouped : is_grouped q ≡ false → keys_of q cs ≡ [] ∷ []
      ungrouped e = ap (λ b. cond b (dedup is_row (in_order row_cmp (map (key_of q) cs))) ([] ∷ [])) e

      by : (b : Bool) → is_grouped q ≡ b → (is_grouped q ≡ true) ⊎ (0 < length cs) → IsPermutation (keys_of q cs) (once is_row (map (key_of q) cs))
      by true e h = keys_of-once q cs e
      by false e (inl f) = absurd (true≢false (sym f ∙ e))
      by false e (inr p) = subst (IsPermutation (keys_of q cs)) (ungrouped e ∙ sym (once_nil (map (key_of q) cs) (All-map (λ k. k ≡ []) (key_of q) cs (λ i d w. ap (map (cell_in (get_or cs i d))) (no_groups q.groups e))) (rw length-map p))) (IsPermutation-refl (keys_of q cs))

  group_rows-keys : (cs : List Choice) → IsPermutation (keys_of q cs) (once is_row (map (key_of q) cs)) → IsPermutation (group_rows q cs) (map (λ k. map (item_of_group q k (filter (λ c. is_row (key_of q c) k) cs)) q.items) (once is_row (map (key_of q) cs)))
  unfolding group_rows
  group_rows-keys cs h = IsPermutation-map (λ k. map (item_of_group q k (filter (λ c. is_row (key_of q c) k) cs)) q.items) _ _ h

  module _ (folding : folds q ≡ true) (ws : List (List ℤ)) (run : IsPermutation (run_words texts (rows_at tables q) (plan_steps q [] order) no_words) ws) where
    stand : results.StandFor texts rises shapes tables q fits coded_rows order moved ws
    stand = results.running_rows texts rises shapes tables q fits coded_rows order moved ws run

    rows_are : (cs : List Choice) → rows_of q cs ≡ group_rows q cs
    unfolding rows_of
    rows_are cs = ap (λ b. cond b (group_rows q cs) (map (λ c. map (projected c) q.items) cs)) folding

    same_number : length stand.choices ≡ length ws
    same_number = sym (length-map stand.choices W) ∙ ap length (sym stand.are)

    -- with GROUP BY or with a running row, and within the limit: the groupers' rows, decoded and sorted, are the answer
    group_answer_few : length ws ≤ row_limit → (is_grouped q ≡ true) ⊎ (0 < length ws) → (out : List (List ℤ)) → IsPermutation (grouped_words (length q.groups) (folds_of q.items) (map (group_input Cols q) ws)) out →
        (rows : List (List Cell)) → IsPermutation (map (group_answer_row texts shapes q) out) rows → IsSorted (answer_cmp q.keys) rows → answer tables q ≡ (cond (nat_lt row_limit (length ws)) None (Some rows))
    group_answer_few few some out grouped_out rows made sorted =
        let cs = stand.choices in
        let inputs : map (group_input Cols q) ws ≡ map Input cs = ap (map (group_input Cols q)) stand.are ∙ results.map-map (group_input Cols q) W cs in
        let decoded = IsPermutation-map (group_answer_row texts shapes q) _ out grouped_out in
        let by_keys : IsPermutation (map (λ k. map (item_of_group q k (filter (λ c. is_row (key_of q c) k) cs)) q.items) (once is_row (map (key_of q) cs))) (map (group_answer_row texts shapes q) out) =
        subst (λ l. IsPermutation l (map (group_answer_row texts shapes q) out)) (ap (λ xs. map (group_answer_row texts shapes q) (grouped_words (length q.groups) (folds_of q.items) xs)) inputs ∙ decoded_groups cs (omega (arith, few, same_number)) stand.coded folding) decoded in
        let here : (is_grouped q ≡ true) ⊎ (0 < length cs) = ⊎_elim (λ e. inl e) (λ p. inr (subst (λ n. 0 < n) (sym same_number) p)) some in
        let all : IsPermutation (rows_of q cs) rows = subst (λ l. IsPermutation l rows) (sym (rows_are cs)) (IsPermutation-trans _ _ _ (group_rows-keys cs (keys_are cs here)) (IsPermutation-trans _ _ _ by_keys made)) in
        planning.plans_answer shapes tables q fits order cs stand.gathers rows all sorted ∙ ap (λ n. cond (nat_lt row_limit n) None (Some rows)) same_number

    -- the same within the limit and above it
    pub group_answer : (is_grouped q ≡ true) ⊎ (0 < length ws) → (out : List (List ℤ)) → IsPermutation (grouped_words (length q.groups) (folds_of q.items) (map (group_input Cols q) ws)) out →
        (rows : List (List Cell)) → IsPermutation (map (group_answer_row texts shapes q) out) rows → IsSorted (answer_cmp q.keys) rows → answer tables q ≡ (cond (nat_lt row_limit (length ws)) None (Some rows))
    group_answer some out grouped_out rows made sorted = by (nat_lt row_limit (length ws)) refl
      where
        within : nat_lt row_limit (length ws) ≡ false → length ws ≤ row_limit
        within e = grind (arith, nat_tests)

        above : nat_lt row_limit (length ws) ≡ true → row_limit < length ws
        above e = grind (arith, nat_tests)

        by : (b : Bool) → nat_lt row_limit (length ws) ≡ b → answer tables q ≡ (cond (nat_lt row_limit (length ws)) None (Some rows))
        by true e = results.too_many texts rises shapes tables q fits coded_rows order moved ws run (above e) ∙ sym (ap (λ b. cond b None (Some rows)) e)
        by false e = group_answer_few (within e) some out grouped_out rows made sorted

    ungrouped : (cs : List Choice) → is_grouped q ≡ false → keys_of q cs ≡ [] ∷ []
    unfolding keys_of
    ungrouped cs e = ap (λ b. cond b (dedup is_row (in_order row_cmp (map (key_of q) cs))) ([] ∷ [])) e

    -- the keys of what is handed to the groupers are as many as those of the choices
    pub number_of_keys : (is_grouped q ≡ true) ⊎ (0 < length ws) → length ws ≤ row_limit → length (word_keys_of (length q.groups) (map (group_input Cols q) ws)) ≡ length (keys_of q (choices tables q))
    number_of_keys some few =
        let cs = stand.choices in
        let inputs : map (group_input Cols q) ws ≡ map Input cs = ap (map (group_input Cols q)) stand.are ∙ results.map-map (group_input Cols q) W cs in
        ap (λ xs. length (word_keys_of (length q.groups) xs)) inputs ∙ ap length (word_keys_of-once (length q.groups) (map Input cs) ∙ input_keys cs (omega (arith, few, same_number)) stand.coded)
        ∙ length-map (once is_row (map (key_of q) cs)) (map (word_of texts)) ∙ by (is_grouped q) refl some
      where
        same : IsPermutation (choices tables q) stand.choices
        same = planning.plans_gather_the_choices shapes tables q fits order stand.choices stand.gathers

        by : (b : Bool) → is_grouped q ≡ b → (is_grouped q ≡ true) ⊎ (0 < length ws) → length (once is_row (map (key_of q) stand.choices)) ≡ length (keys_of q (choices tables q))
        by true e h = sym (length-keys_of q (choices tables q) stand.choices e same)
        by false e (inl f) = absurd (true≢false (sym f ∙ e))
        by false e (inr p) = length_permutation (keys_of q stand.choices) _ (keys_are stand.choices (inr (subst (λ n. 0 < n) (sym same_number) p))) ∙ ap length (ungrouped stand.choices e ∙ sym (ungrouped (choices tables q) e))

    nothing_item : (i : Item) → IsInGroups i → q.groups ≡ [] → item_of_group q [] [] i ≡ item_of_nothing i
    unfolding item_of_group in_order
    nothing_item (item.Plain a) h e = absurd (let r : h.0 < length q.groups = h.1 in let z : length q.groups ≡ 0 = ap length e in omega arith)
    nothing_item (item.Sum a) h e = refl
    nothing_item (item.Avg a) h e = refl
    nothing_item (item.Min a) h e = refl
    nothing_item (item.Max a) h e = refl
    nothing_item item.Count h e = refl

    empty : (cs : List Choice) → length cs ≡ 0 → cs ≡ []
    empty [] e = refl
    empty (c ∷ cs) e = absurd (omega (arith, e))

    -- without GROUP BY and without a running row the answer is one row
    pub no_choice_answer : is_grouped q ≡ false → length ws ≡ 0 → answer tables q ≡ Some (map item_of_nothing q.items ∷ [])
    unfolding keys_of group_rows
    no_choice_answer e none =
        let cs = stand.choices in
        let nil : cs ≡ [] = empty cs (same_number ∙ none) in
        let groups : q.groups ≡ [] = no_groups q.groups e in
        let one : rows_of q cs ≡ map item_of_nothing q.items ∷ [] =
        rows_are cs ∙ ap (group_rows q) nil ∙ ap (λ b. map (λ key. map (item_of_group q key (filter (λ c. is_row (key_of q c) key) [])) q.items) (cond b (dedup is_row (in_order row_cmp [])) ([] ∷ []))) e
        ∙ ap (λ r. r ∷ []) (map-agree IsInGroups (item_of_group q [] []) item_of_nothing (λ i h. nothing_item i h groups) q.items (fits.grouped folding)) in
        planning.plans_answer shapes tables q fits order cs stand.gathers (map item_of_nothing q.items ∷ []) (subst (λ l. IsPermutation l (map item_of_nothing q.items ∷ [])) (sym one) (IsPermutation-refl _)) (λ k d p w. absurd (omega (arith, w)))
        ∙ ap (λ n. cond (nat_lt row_limit n) None (Some (map item_of_nothing q.items ∷ []))) (same_number ∙ none)
