-- The cells that are read of a row are those of the answer's row.
use Rattle.std.proofs.Common.{All, ◌≡◌, ℕ, zero, suc, ◌+◌, ◌-◌, ◌<◌, List, [], ◌∷◌, Bool, true, false, true≢false, not, ◌||◌, cond, refl, sym, ap, ap₂, ◌∙◌, subst, arith, length, get_or, map, take, drop, nat_lt, ℤ, pos, lt-ltb, le-ltb}
use Rattle.std.proofs.lemmas.List.{get_or-drop, get_or-take, length-drop, drop-drop}
use Rattle.std.proofs.lemmas.List.Elements.{All-head, All-tail}
use Rattle.pdq_base.specs.Words.{word_at}
use Rattle.pdq_value.specs.declared.cells.Cell.{Cell}
use Rattle.pdq_value.specs.declared.cells.Cell.TheVariants.{Number}
use Rattle.pdq_value.specs.Tables.{ShapeView}
use Rattle.pdq_dict.specs.Coding.{cell_of_word}
use Rattle.pdq_query.specs.declared.query.At.{At}
use Rattle.pdq_query.specs.declared.query.Item.{Item}
use Rattle.pdq_query.specs.declared.query.Item.TheVariants as item
use Rattle.pdq_query.specs.Queries.{QueryView}
use Rattle.pdq_query.specs.Fits.{IsPlainInGroups}
use Rattle.pdq_query.specs.Folds.{is_column}
use Rattle.pdq_plan.specs.PlanSteps.{column_place}
use Rattle.pdq_eval.specs.Results.{group_cells, kind_at, plain_cell, scale_of_kind, wide_cell}
use Rattle.pdq_eval.proofs.Running.{has_column, is_column-itself, or_left, or_right}
use Rattle.pdq_result.specs.Sources.{cells_from, group_sources, plain_source}

module _ (texts : List (List ℕ)) (shapes : List ShapeView) (q : QueryView) where
  -- of a running row
  pub cells_from-plain : (cols : List At) (row : List ℤ) (items : List Item) → cells_from texts (map (plain_source shapes q cols) items) row ≡ map (plain_cell texts shapes q cols row) items
  cells_from-plain cols row [] = refl
  cells_from-plain cols row (item.Plain a ∷ is) = ap (λ l. plain_cell texts shapes q cols row (item.Plain a) ∷ l) (cells_from-plain cols row is)
  cells_from-plain cols row (item.Sum a ∷ is) = ap (λ l. plain_cell texts shapes q cols row (item.Sum a) ∷ l) (cells_from-plain cols row is)
  cells_from-plain cols row (item.Avg a ∷ is) = ap (λ l. plain_cell texts shapes q cols row (item.Avg a) ∷ l) (cells_from-plain cols row is)
  cells_from-plain cols row (item.Min a ∷ is) = ap (λ l. plain_cell texts shapes q cols row (item.Min a) ∷ l) (cells_from-plain cols row is)
  cells_from-plain cols row (item.Max a ∷ is) = ap (λ l. plain_cell texts shapes q cols row (item.Max a) ∷ l) (cells_from-plain cols row is)
  cells_from-plain cols row (item.Count ∷ is) = ap (λ l. plain_cell texts shapes q cols row item.Count ∷ l) (cells_from-plain cols row is)

-- the word at a place of a row
first_word : (row : List ℤ) (p : ℕ) (w : ℤ) (ws : List ℤ) → drop p row ≡ w ∷ ws → word_at p row ≡ w
first_word row p w ws e =
    let same : p + 0 ≡ p = omega arith in
    ap (λ n. get_or row n (pos 0)) (sym same) ∙ sym (get_or-drop p row 0 (pos 0)) ∙ ap (λ l. get_or l 0 (pos 0)) e

second_word : (row : List ℤ) (p : ℕ) (w v : ℤ) (ws : List ℤ) → drop p row ≡ w ∷ v ∷ ws → word_at (p + 1) row ≡ v
second_word row p w v ws e = sym (get_or-drop p row 1 (pos 0)) ∙ ap (λ l. get_or l 1 (pos 0)) e

long_as : (row : List ℤ) (p n : ℕ) (ws : List ℤ) → drop p row ≡ ws → length ws ≡ n → length row - p ≡ n
long_as row p n ws e l = sym (length-drop p row) ∙ ap length e ∙ l

-- what is read of one word that a row may have, and of two
abbrev one_of : (ℤ → Cell) → (List ℤ → List Cell) → List ℤ → List Cell
one_of cell of [] = []
one_of cell of (w ∷ ws) = cell w ∷ of ws

abbrev two_of : (ℤ → ℤ → Cell) → (List ℤ → List Cell) → List ℤ → List Cell
two_of cell of [] = []
two_of cell of (l ∷ []) = []
two_of cell of (l ∷ h ∷ ws) = cell l h ∷ of ws

read_one : (row : List ℤ) (p : ℕ) (cell : ℤ → Cell) (of : List ℤ → List Cell) (rest : List Cell) → rest ≡ of (drop (p + 1) row) → (seen : List ℤ) → drop p row ≡ seen → cond (nat_lt p (length row)) (cell (word_at p row) ∷ rest) [] ≡ one_of cell of seen
read_one row p cell of rest h [] e = let n = long_as row p 0 [] e refl in ap (λ b. cond b (cell (word_at p row) ∷ rest) []) (le-ltb p (length row) (omega (arith, n)))
read_one row p cell of rest h (w ∷ ws) e =
    let n = long_as row p (suc (length ws)) (w ∷ ws) e refl in
    let behind : drop (p + 1) row ≡ ws = sym (drop-drop 1 p row) ∙ ap (drop 1) e in
    ap (λ b. cond b (cell (word_at p row) ∷ rest) []) (lt-ltb p (length row) (omega (arith, n))) ∙ ap₂ (λ x l. cell x ∷ l) (first_word row p w ws e) (h ∙ ap of behind)

read_two : (row : List ℤ) (p : ℕ) (cell : ℤ → ℤ → Cell) (of : List ℤ → List Cell) (rest : List Cell) → rest ≡ of (drop (p + 2) row) → (seen : List ℤ) → drop p row ≡ seen → cond (nat_lt (p + 1) (length row)) (cell (word_at p row) (word_at (p + 1) row) ∷ rest) [] ≡ two_of cell of seen
read_two row p cell of rest h [] e = let n = long_as row p 0 [] e refl in ap (λ b. cond b (cell (word_at p row) (word_at (p + 1) row) ∷ rest) []) (le-ltb (p + 1) (length row) (omega (arith, n)))
read_two row p cell of rest h (l ∷ []) e = let n = long_as row p 1 (l ∷ []) e refl in ap (λ b. cond b (cell (word_at p row) (word_at (p + 1) row) ∷ rest) []) (le-ltb (p + 1) (length row) (omega (arith, n)))
read_two row p cell of rest h (l ∷ m ∷ ws) e =
    let n = long_as row p (suc (suc (length ws))) (l ∷ m ∷ ws) e refl in
    let behind : drop (p + 2) row ≡ ws = sym (drop-drop 2 p row) ∙ ap (drop 2) e in
    ap (λ b. cond b (cell (word_at p row) (word_at (p + 1) row) ∷ rest) []) (lt-ltb (p + 1) (length row) (omega (arith, n)))
    ∙ ap₂ (λ x c. x ∷ c) (ap₂ cell (first_word row p l (m ∷ ws) e) (second_word row p l m ws e)) (h ∙ ap of behind)

-- a column that is among others stands before their end
place_there : (b : Bool) (a : At) (cols : List At) → (b || has_column cols a) ≡ true → (has_column cols a ≡ true → column_place cols a < length cols) → cond (not b) (1 + column_place cols a) 0 < suc (length cols)
place_there true a cols h rest = omega arith
place_there false a cols h rest = let r = rest h in omega arith

has_place : (cols : List At) (a : At) → has_column cols a ≡ true → column_place cols a < length cols
has_place [] a h = absurd (true≢false (sym h))
has_place (c ∷ cols) a h = place_there (is_column a c) a cols h (λ g. has_place cols a g)

has_one : (cols : List At) (a : At) (i : ℕ) → i < length cols → get_or cols i a ≡ a → has_column cols a ≡ true
has_one [] a i p e = absurd (omega arith)
has_one (c ∷ cols) a zero p e = or_left (is_column a c) (has_column cols a) (subst (λ b. is_column a b ≡ true) (sym e) (is_column-itself a))
has_one (c ∷ cols) a (suc i) p e = or_right (is_column a c) (has_column cols a) (has_one cols a i (omega arith) e)

module _ (texts : List (List ℕ)) (shapes : List ShapeView) (q : QueryView) (row : List ℤ) where
  abbrev Keys : List ℤ
  Keys = take (length q.groups) row

  abbrev Behind : List Item → List ℤ → List Cell
  Behind is ws = group_cells texts shapes q is Keys ws

  abbrev Read : List Item → ℕ → List Cell
  Read is p = cells_from texts (group_sources shapes q is p) row

  wide_item : (scale : ℕ) (is : List Item) (i : Item) → ((ws : List ℤ) → two_of (wide_cell scale) (Behind is) ws ≡ Behind (i ∷ is) ws) → (p : ℕ) → Read is (p + 2) ≡ Behind is (drop (p + 2) row) →
      cond (nat_lt (p + 1) (length row)) (wide_cell scale (word_at p row) (word_at (p + 1) row) ∷ Read is (p + 2)) [] ≡ Behind (i ∷ is) (drop p row)
  wide_item scale is i same p rest = read_two row p (wide_cell scale) (Behind is) (Read is (p + 2)) rest (drop p row) refl ∙ same (drop p row)

  one_item : (cell : ℤ → Cell) (is : List Item) (i : Item) → ((ws : List ℤ) → one_of cell (Behind is) ws ≡ Behind (i ∷ is) ws) → (p : ℕ) → Read is (p + 1) ≡ Behind is (drop (p + 1) row) →
      cond (nat_lt p (length row)) (cell (word_at p row) ∷ Read is (p + 1)) [] ≡ Behind (i ∷ is) (drop p row)
  one_item cell is i same p rest = read_one row p cell (Behind is) (Read is (p + 1)) rest (drop p row) refl ∙ same (drop p row)

  sum_words : (a : At) (is : List Item) (ws : List ℤ) → two_of (wide_cell (scale_of_kind (kind_at shapes q a))) (Behind is) ws ≡ Behind (item.Sum a ∷ is) ws
  sum_words a is [] = refl
  sum_words a is (l ∷ []) = refl
  sum_words a is (l ∷ h ∷ ws) = refl

  average_words : (a : At) (is : List Item) (ws : List ℤ) → two_of (wide_cell (scale_of_kind (kind_at shapes q a) + 2)) (Behind is) ws ≡ Behind (item.Avg a ∷ is) ws
  average_words a is [] = refl
  average_words a is (l ∷ []) = refl
  average_words a is (l ∷ h ∷ ws) = refl

  least_word : (a : At) (is : List Item) (ws : List ℤ) → one_of (cell_of_word texts (kind_at shapes q a)) (Behind is) ws ≡ Behind (item.Min a ∷ is) ws
  least_word a is [] = refl
  least_word a is (w ∷ ws) = refl

  greatest_word : (a : At) (is : List Item) (ws : List ℤ) → one_of (cell_of_word texts (kind_at shapes q a)) (Behind is) ws ≡ Behind (item.Max a ∷ is) ws
  greatest_word a is [] = refl
  greatest_word a is (w ∷ ws) = refl

  count_word : (is : List Item) (ws : List ℤ) → one_of (λ w. Number w 0) (Behind is) ws ≡ Behind (item.Count ∷ is) ws
  count_word is [] = refl
  count_word is (w ∷ ws) = refl

  abbrev IsInGroups : Item → Type 0
  IsInGroups = IsPlainInGroups q.groups

  read_key : (a : At) (is : List Item) (p : ℕ) → IsInGroups (item.Plain a) → Read is p ≡ Behind is (drop p row) → Read (item.Plain a ∷ is) p ≡ Behind (item.Plain a ∷ is) (drop p row)
  read_key a is p found rest =
      let below = has_place q.groups a (has_one q.groups a found.0 found.1 found.2) in
      let here : p + 0 ≡ p = omega arith in
      ap₂ (λ w l. cell_of_word texts (kind_at shapes q a) w ∷ l) (sym (get_or-take (length q.groups) row (column_place q.groups a) (pos 0) below)) (ap (Read is) here ∙ rest)

  -- of a group's row
  pub cells_from-group : (items : List Item) → All IsInGroups items → (p : ℕ) → Read items p ≡ Behind items (drop p row)
  cells_from-group [] h p = refl
  cells_from-group (item.Plain a ∷ is) h p = read_key a is p (All-head IsInGroups (item.Plain a) is h) (cells_from-group is (All-tail IsInGroups (item.Plain a) is h) p)
  cells_from-group (item.Sum a ∷ is) h p = wide_item (scale_of_kind (kind_at shapes q a)) is (item.Sum a) (sum_words a is) p (cells_from-group is (All-tail IsInGroups (item.Sum a) is h) (p + 2))
  cells_from-group (item.Avg a ∷ is) h p = wide_item (scale_of_kind (kind_at shapes q a) + 2) is (item.Avg a) (average_words a is) p (cells_from-group is (All-tail IsInGroups (item.Avg a) is h) (p + 2))
  cells_from-group (item.Min a ∷ is) h p = one_item (cell_of_word texts (kind_at shapes q a)) is (item.Min a) (least_word a is) p (cells_from-group is (All-tail IsInGroups (item.Min a) is h) (p + 1))
  cells_from-group (item.Max a ∷ is) h p = one_item (cell_of_word texts (kind_at shapes q a)) is (item.Max a) (greatest_word a is) p (cells_from-group is (All-tail IsInGroups (item.Max a) is h) (p + 1))
  cells_from-group (item.Count ∷ is) h p = one_item (λ w. Number w 0) is item.Count (count_word is) p (cells_from-group is (All-tail IsInGroups item.Count is h) (p + 1))
