-- What one more byte changes in the cutting of a row line and in the text of a raw cell.
use Rattle.std.proofs.Common.{◌≡◌, ◌≢◌, ℕ, ◌+◌, ◌<◌, ◌≤◌, Bool, true, false, ◌==◌, List, [], ◌∷◌, ◌++◌, length, get_or, take, drop, refl, sym, ap, ◌∙◌, cond, Option, None, Some, add-one, append_assoc, append-nil}
use Rattle.std.specs.Prelude.{option_map}
use Rattle.std.proofs.Math.Seq.{drop-cons}
use Rattle.std.proofs.lemmas.Bool.{eq-eqb, ne_eqb}
use Rattle.std.proofs.lemmas.List.{drop_all, take_all, take_more}
use Rattle.pdq_value.specs.RowLines.{before_first, before_text, escaped_byte, plain_text, plain_text_after, raw_cells, raw_cells_after}

-- the cells with these bytes at the beginning of the first
abbrev pub before_all : List ℕ → List (List ℕ) → List (List ℕ)
before_all [] cells = cells
before_all (b ∷ bytes) cells = before_first b (before_all bytes cells)

pub before_all-append : (xs ys : List ℕ) (cells : List (List ℕ)) → before_all (xs ++ ys) cells ≡ before_all xs (before_all ys cells)
before_all-append [] ys cells = refl
before_all-append (x ∷ xs) ys cells = ap (before_first x) (before_all-append xs ys cells)

pub before_all-empty : (xs : List ℕ) (cells : List (List ℕ)) → before_all xs ([] ∷ cells) ≡ xs ∷ cells
before_all-empty [] cells = refl
before_all-empty (x ∷ xs) cells = ap (before_first x) (before_all-empty xs cells)

-- the cells of a line in terms of what follows its first i bytes
abbrev pub CutsAt : List ℕ → ℕ → Bool → Type 0
CutsAt line i taken = raw_cells line ≡ before_all (take i line) (raw_cells_after taken (drop i line))

one_more : (line : List ℕ) (i : ℕ) (cells : List (List ℕ)) → i < length line → before_all (take i line) (before_first (get_or line i 0) cells) ≡ before_all (take (i + 1) line) cells
one_more line i cells p = sym (before_all-append (take i line) (get_or line i 0 ∷ []) cells) ∙ ap (λ xs. before_all xs cells) (sym (take_more line i 0 p))

rest_at : (line : List ℕ) (i : ℕ) → i < length line → drop i line ≡ get_or line i 0 ∷ drop (i + 1) line
rest_at line i p = rw (add-one, drop-cons line i 0)

pub not_bar : (b : ℕ) (bytes : List ℕ) → b ≢ 124 → raw_cells_after false (b ∷ bytes) ≡ before_first b (raw_cells_after (b == 92) bytes)
unfolding raw_cells_after
not_bar b bytes h = ap (λ t. cond t ([] ∷ raw_cells_after false bytes) (before_first b (raw_cells_after (b == 92) bytes))) (ne_eqb b 124 h)

pub at_bar : (b : ℕ) (bytes : List ℕ) → b ≡ 124 → raw_cells_after false (b ∷ bytes) ≡ [] ∷ raw_cells_after false bytes
unfolding raw_cells_after
at_bar b bytes h = ap (λ t. cond t ([] ∷ raw_cells_after false bytes) (before_first b (raw_cells_after (b == 92) bytes))) (eq-eqb b 124 h)

pub at_taken : (b : ℕ) (bytes : List ℕ) → raw_cells_after true (b ∷ bytes) ≡ before_first b (raw_cells_after false bytes)
unfolding raw_cells_after
at_taken b bytes = refl

pub nothing_left : (taken : Bool) → raw_cells_after taken [] ≡ [] ∷ []
unfolding raw_cells_after
nothing_left true = refl
nothing_left false = refl

pub CutsAt-taken : (line : List ℕ) (i : ℕ) → CutsAt line i true → i < length line → CutsAt line (i + 1) false
CutsAt-taken line i h p = h ∙ ap (λ r. before_all (take i line) (raw_cells_after true r)) (rest_at line i p) ∙ ap (before_all (take i line)) (at_taken _ _) ∙ one_more line i _ p

pub CutsAt-plain : (line : List ℕ) (i : ℕ) → CutsAt line i false → i < length line → get_or line i 0 ≢ 124 → CutsAt line (i + 1) (get_or line i 0 == 92)
CutsAt-plain line i h p ne = h ∙ ap (λ r. before_all (take i line) (raw_cells_after false r)) (rest_at line i p) ∙ ap (before_all (take i line)) (not_bar _ _ ne) ∙ one_more line i _ p

pub CutsAt-bar : (line : List ℕ) (i : ℕ) → CutsAt line i false → i < length line → get_or line i 0 ≡ 124 → raw_cells line ≡ take i line ∷ raw_cells (drop (i + 1) line)
CutsAt-bar line i h p e = h ∙ ap (λ r. before_all (take i line) (raw_cells_after false r)) (rest_at line i p) ∙ ap (before_all (take i line)) (at_bar _ _ e) ∙ before_all-empty (take i line) _

pub CutsAt-end : (line : List ℕ) (i : ℕ) (taken : Bool) → CutsAt line i taken → length line ≤ i → raw_cells line ≡ line ∷ []
CutsAt-end line i taken h p = h ∙ ap (λ r. before_all (take i line) (raw_cells_after taken r)) (drop_all i line p) ∙ ap (before_all (take i line)) (nothing_left taken) ∙ before_all-empty (take i line) [] ∙ ap (λ xs. xs ∷ []) (take_all i line p)

-- the text of a raw cell in terms of what its first i bytes say
abbrev pub SaysAt : List ℕ → ℕ → Bool → List ℕ → Type 0
SaysAt cell i taken text = plain_text cell ≡ option_map (λ rest. text ++ rest) (plain_text_after taken (drop i cell))

grown : (text : List ℕ) (b : ℕ) (rest : Option (List ℕ)) → option_map (λ r. text ++ r) (before_text (Some b) rest) ≡ option_map (λ r. (text ++ b ∷ []) ++ r) rest
grown text b None = refl
grown text b (Some rest) = ap Some (sym (append_assoc text (b ∷ []) rest))

after_backslash : (b : ℕ) (bytes : List ℕ) → plain_text_after true (b ∷ bytes) ≡ before_text (escaped_byte b) (plain_text_after false bytes)
unfolding plain_text_after
after_backslash b bytes = refl

backslash_at : (b : ℕ) (bytes : List ℕ) → b ≡ 92 → plain_text_after false (b ∷ bytes) ≡ plain_text_after true bytes
unfolding plain_text_after
backslash_at b bytes h = ap (λ t. cond t (plain_text_after true bytes) (before_text (Some b) (plain_text_after false bytes))) (eq-eqb b 92 h)

pub no_backslash : (b : ℕ) (bytes : List ℕ) → b ≢ 92 → plain_text_after false (b ∷ bytes) ≡ before_text (Some b) (plain_text_after false bytes)
unfolding plain_text_after
no_backslash b bytes h = ap (λ t. cond t (plain_text_after true bytes) (before_text (Some b) (plain_text_after false bytes))) (ne_eqb b 92 h)

pub SaysAt-start : (cell : List ℕ) → SaysAt cell 0 false []
SaysAt-start cell = sym (unchanged (plain_text cell)) where
  unchanged : (o : Option (List ℕ)) → option_map (λ rest. [] ++ rest) o ≡ o
  unchanged None = refl
  unchanged (Some x) = refl

module _ (cell : List ℕ) (i : ℕ) (text : List ℕ) (p : i < length cell) where
  pub SaysAt-escaped : (b : ℕ) → SaysAt cell i true text → escaped_byte (get_or cell i 0) ≡ Some b → SaysAt cell (i + 1) false (text ++ b ∷ [])
  SaysAt-escaped b h e = h ∙ ap (λ r. option_map (λ rest. text ++ rest) (plain_text_after true r)) (rest_at cell i p) ∙ ap (option_map (λ rest. text ++ rest)) (after_backslash _ _ ∙ ap (λ o. before_text o (plain_text_after false (drop (i + 1) cell))) e) ∙ grown text b _

  pub SaysAt-wrong : SaysAt cell i true text → escaped_byte (get_or cell i 0) ≡ None → plain_text cell ≡ None
  SaysAt-wrong h e = h ∙ ap (λ r. option_map (λ rest. text ++ rest) (plain_text_after true r)) (rest_at cell i p) ∙ ap (option_map (λ rest. text ++ rest)) (after_backslash _ _ ∙ ap (λ o. before_text o (plain_text_after false (drop (i + 1) cell))) e)

  pub SaysAt-backslash : SaysAt cell i false text → get_or cell i 0 ≡ 92 → SaysAt cell (i + 1) true text
  SaysAt-backslash h e = h ∙ ap (λ r. option_map (λ rest. text ++ rest) (plain_text_after false r)) (rest_at cell i p) ∙ ap (option_map (λ rest. text ++ rest)) (backslash_at _ _ e)

  pub SaysAt-plain : SaysAt cell i false text → get_or cell i 0 ≢ 92 → SaysAt cell (i + 1) false (text ++ get_or cell i 0 ∷ [])
  SaysAt-plain h e = h ∙ ap (λ r. option_map (λ rest. text ++ rest) (plain_text_after false r)) (rest_at cell i p) ∙ ap (option_map (λ rest. text ++ rest)) (no_backslash _ _ e) ∙ grown text _ _

nothing_after : plain_text_after true [] ≡ None
unfolding plain_text_after
nothing_after = refl

pub nothing_more : plain_text_after false [] ≡ Some []
unfolding plain_text_after
nothing_more = refl

pub SaysAt-end : (cell : List ℕ) (i : ℕ) (text : List ℕ) → SaysAt cell i false text → length cell ≤ i → plain_text cell ≡ Some text
SaysAt-end cell i text h p = h ∙ ap (λ r. option_map (λ rest. text ++ rest) (plain_text_after false r)) (drop_all i cell p) ∙ ap (option_map (λ rest. text ++ rest)) nothing_more ∙ ap Some (append-nil text)

pub SaysAt-cut_off : (cell : List ℕ) (i : ℕ) (text : List ℕ) → SaysAt cell i true text → length cell ≤ i → plain_text cell ≡ None
SaysAt-cut_off cell i text h p = h ∙ ap (λ r. option_map (λ rest. text ++ rest) (plain_text_after true r)) (drop_all i cell p) ∙ ap (option_map (λ rest. text ++ rest)) nothing_after
