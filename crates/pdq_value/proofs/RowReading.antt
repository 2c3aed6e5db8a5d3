-- A row line that was printed is cut into the texts of its cells, and each of them says its cell.
use Rattle.std.proofs.Common.{◌≡◌, ◌≢◌, ℕ, ◌<◌, ◌≤◌, ◌^◌, true, false, List, [], ◌∷◌, ◌++◌, length, refl, sym, ap, ◌∙◌, arith, subst, map, append_assoc, All}
use Rattle.std.specs.Prelude.{◌==◌, None, Some, option_map, option_and_then, ℤ, nat_abs}
use Rattle.std.specs.Str.{bytes_eq}
use Rattle.std.proofs.lemmas.Bool.{cond_both, eqb-true, ne_eqb, eqb-false}
use Rattle.std.proofs.lemmas.List.{append-nil}
use Rattle.std.proofs.lemmas.Slice.Eq.{bytes_eq-Decides}
use Rattle.std.proofs.lemmas.List.Elements.{All-head, All-tail}
use Rattle.pdq_value.specs.declared.cells.Cell.{Cell}
use Rattle.pdq_value.specs.declared.cells.Cell.TheVariants.{Nothing, Number, Words}
use Rattle.pdq_value.specs.declared.shapes.Kind.{Kind}
use Rattle.pdq_value.specs.declared.shapes.Kind.TheVariants as kind
use Rattle.pdq_value.specs.Numbers.{number_of_text, number_text}
use Rattle.pdq_value.specs.RowLines.{before_first, before_text, nothing_text, plain_text, plain_text_after, raw_cells, raw_cells_after}
use Rattle.pdq_value.specs.RowText.{AreCellsOf, IsCellOf, cell_of_text, cell_read, cell_text, cells_read, escaped, escaped_text, row_read, row_text}
use Rattle.pdq_value.proofs.NumberReading.{number_of_text-number_text, number_text-low}
use Rattle.pdq_value.proofs.RowLineSteps.{before_all, before_all-append, before_all-empty, not_bar, at_bar, no_backslash, nothing_left, nothing_more}

-- no bar of these bytes ends a cell, and they take no byte that follows
record IsWhole (xs : List ℕ) : Type 0 where
  cut : (ys : List ℕ) → raw_cells_after false (xs ++ ys) ≡ before_all xs (raw_cells_after false ys)

whole-nil : IsWhole []
whole-nil = record { cut = λ ys. refl }

whole-append : (xs ys : List ℕ) → IsWhole xs → IsWhole ys → IsWhole (xs ++ ys)
whole-append xs ys h k = record { cut = λ zs. ap (raw_cells_after false) (append_assoc xs ys zs) ∙ h.cut (ys ++ zs) ∙ ap (before_all xs) (k.cut zs) ∙ sym (before_all-append xs ys _) }

-- a byte that is neither a backslash nor a bar
plain_cut : (b : ℕ) (bytes : List ℕ) → b ≢ 124 → b ≢ 92 → raw_cells_after false (b ∷ bytes) ≡ before_first b (raw_cells_after false bytes)
plain_cut b bytes h k = not_bar b bytes h ∙ ap (λ t. before_first b (raw_cells_after t bytes)) (ne_eqb b 92 k)

whole-plain : (b : ℕ) → b ≢ 124 → b ≢ 92 → IsWhole (b ∷ [])
whole-plain b h k = record { cut = λ ys. plain_cut b ys h k }

-- what stands for a byte
record StandsFor (b : ℕ) (xs : List ℕ) : Type 0 where
  whole : IsWhole xs
  plain : (ys : List ℕ) → plain_text_after false (xs ++ ys) ≡ before_text (Some b) (plain_text_after false ys)

stands_backslash : StandsFor 92 (92 ∷ 92 ∷ [])
unfolding raw_cells_after plain_text_after
stands_backslash = record { whole = record { cut = λ ys. refl }; plain = λ ys. refl }

stands_bar : StandsFor 124 (92 ∷ 124 ∷ [])
unfolding raw_cells_after plain_text_after
stands_bar = record { whole = record { cut = λ ys. refl }; plain = λ ys. refl }

stands_line_end : StandsFor 10 (92 ∷ 110 ∷ [])
unfolding raw_cells_after plain_text_after
stands_line_end = record { whole = record { cut = λ ys. refl }; plain = λ ys. refl }

stands_return : StandsFor 13 (92 ∷ 114 ∷ [])
unfolding raw_cells_after plain_text_after
stands_return = record { whole = record { cut = λ ys. refl }; plain = λ ys. refl }

stands_plain : (b : ℕ) → b ≢ 124 → b ≢ 92 → StandsFor b (b ∷ [])
stands_plain b h k = record { whole = whole-plain b h k; plain = λ ys. no_backslash b ys k }

stands_as : (b n : ℕ) (xs : List ℕ) → StandsFor n xs → (b == n) ≡ true → StandsFor b xs
stands_as b n xs h e = subst (λ m. StandsFor m xs) (sym (eqb-true b n e)) h

escaped-StandsFor : (b : ℕ) → StandsFor b (escaped b)
escaped-StandsFor b =
    cond_both (b == 92) _ _ (StandsFor b) (stands_as b 92 _ stands_backslash)
    (λ k. cond_both (b == 124) _ _ (StandsFor b) (stands_as b 124 _ stands_bar)
    (λ h. cond_both (b == 10) _ _ (StandsFor b) (stands_as b 10 _ stands_line_end)
    (λ _. cond_both (b == 13) _ _ (StandsFor b) (stands_as b 13 _ stands_return)
    (λ _. stands_plain b (eqb-false b 124 h) (eqb-false b 92 k)))))

escaped_text-whole : (text : List ℕ) → IsWhole (escaped_text text)
escaped_text-whole [] = whole-nil
escaped_text-whole (b ∷ text) = let s = escaped-StandsFor b in whole-append (escaped b) (escaped_text text) s.whole (escaped_text-whole text)

pub plain_text-escaped_text : (text : List ℕ) → plain_text (escaped_text text) ≡ Some text
plain_text-escaped_text [] = nothing_more
plain_text-escaped_text (b ∷ text) = let s = escaped-StandsFor b in s.plain (escaped_text text) ∙ ap (before_text (Some b)) (plain_text-escaped_text text)

-- bytes below 92 stand for themselves
low-whole : (bytes : List ℕ) → All (λ b. b < 92) bytes → IsWhole bytes
low-whole [] h = whole-nil
low-whole (b ∷ bytes) h =
    let p = All-head (λ b. b < 92) b bytes h in
    whole-append (b ∷ []) bytes (whole-plain b (λ e. omega (arith, p, e)) (λ e. omega (arith, p, e))) (low-whole bytes (All-tail (λ b. b < 92) b bytes h))

pub plain_text-low : (bytes : List ℕ) → All (λ b. b < 92) bytes → plain_text bytes ≡ Some bytes
plain_text-low [] h = nothing_more
plain_text-low (b ∷ bytes) h =
    let p = All-head (λ b. b < 92) b bytes h in
    no_backslash b bytes (λ e. omega (arith, p, e)) ∙ ap (before_text (Some b)) (plain_text-low bytes (All-tail (λ b. b < 92) b bytes h))

nothing_text-whole : IsWhole nothing_text
unfolding raw_cells_after
nothing_text-whole = record { cut = λ ys. refl }

pub nothing_text-no_text : plain_text nothing_text ≡ None
unfolding plain_text_after
nothing_text-no_text = refl

-- a raw cell that says a text is not `\N`
cell_read-text : (k : Kind) (raw text : List ℕ) → plain_text raw ≡ Some text → cell_read k raw ≡ cell_of_text k text
unfolding cell_read
cell_read-text k raw text e =
    cond_both (bytes_eq raw nothing_text) (Some Nothing) (option_and_then (cell_of_text k) (plain_text raw)) (λ o. o ≡ cell_of_text k text)
    (λ t. let d = bytes_eq-Decides raw nothing_text in let n : plain_text raw ≡ None = ap plain_text (d.0 t) ∙ nothing_text-no_text in absurd (let c : ⊥ = cc in c))
    (λ t. ap (option_and_then (cell_of_text k)) e)

cell_read-nothing : (k : Kind) → cell_read k nothing_text ≡ Some Nothing
unfolding cell_read
cell_read-nothing k = refl

cell_text-whole : (k : Kind) (c : Cell) → IsCellOf k c → IsWhole (cell_text c)
unfolding cell_text
cell_text-whole k Nothing h = nothing_text-whole
cell_text-whole (kind.Number scale) (Number number s) h = low-whole (number_text number s) (number_text-low number s h.1)
cell_text-whole kind.Words (Number number s) h = absurd h
cell_text-whole k (Words text) h = escaped_text-whole text

number_again : (scale s : ℕ) (number : ℤ) → s ≡ scale → nat_abs number < 2 ^ 128 → option_map (λ n. Number n scale) (number_of_text scale (number_text number s)) ≡ Some (Number number s)
number_again scale s number e p = ap (λ k. option_map (λ n. Number n k) (number_of_text k (number_text number s))) (sym e) ∙ ap (option_map (λ n. Number n s)) (number_of_text-number_text number s p)

cell_read-cell_text : (k : Kind) (c : Cell) → IsCellOf k c → cell_read k (cell_text c) ≡ Some c
unfolding cell_text
cell_read-cell_text k Nothing h = cell_read-nothing k
cell_read-cell_text (kind.Number scale) (Number number s) h = cell_read-text (kind.Number scale) (number_text number s) (number_text number s) (plain_text-low (number_text number s) (number_text-low number s h.1)) ∙ number_again scale s number h.0 h.1
cell_read-cell_text kind.Words (Number number s) h = absurd h
cell_read-cell_text (kind.Number scale) (Words text) h = absurd h
cell_read-cell_text kind.Words (Words text) h = cell_read-text kind.Words (escaped_text text) text (plain_text-escaped_text text)

one_cell : (xs : List ℕ) → IsWhole xs → raw_cells xs ≡ xs ∷ []
one_cell xs h = ap raw_cells (sym (append-nil xs)) ∙ h.cut [] ∙ ap (before_all xs) (nothing_left false) ∙ before_all-empty xs []

next_cell : (xs ys : List ℕ) → IsWhole xs → raw_cells (xs ++ 124 ∷ ys) ≡ xs ∷ raw_cells ys
next_cell xs ys h = h.cut (124 ∷ ys) ∙ ap (before_all xs) (at_bar 124 ys refl) ∙ before_all-empty xs (raw_cells ys)

pub raw_cells-row_text : (k : Kind) (ks : List Kind) (c : Cell) (cs : List Cell) → AreCellsOf (k ∷ ks) (c ∷ cs) → raw_cells (row_text (c ∷ cs)) ≡ map cell_text (c ∷ cs)
raw_cells-row_text k [] c [] h = one_cell (cell_text c) (cell_text-whole k c h.0)
raw_cells-row_text k [] c (d ∷ cs) h = absurd h.1
raw_cells-row_text k (l ∷ ks) c [] h = absurd h.1
raw_cells-row_text k (l ∷ ks) c (d ∷ cs) h = next_cell (cell_text c) (row_text (d ∷ cs)) (cell_text-whole k c h.0) ∙ ap (λ r. cell_text c ∷ r) (raw_cells-row_text l ks d cs h.1)

cells_read-texts : (ks : List Kind) (cs : List Cell) → AreCellsOf ks cs → cells_read ks (map cell_text cs) ≡ Some cs
unfolding cells_read
cells_read-texts [] [] h = refl
cells_read-texts [] (c ∷ cs) h = absurd h
cells_read-texts (k ∷ ks) [] h = absurd h
cells_read-texts (k ∷ ks) (c ∷ cs) h = rw (cell_read-cell_text k c h.0, cells_read-texts ks cs h.1) refl

pub row_read-row_text : (kinds : List Kind) (cells : List Cell) → 1 ≤ length cells → AreCellsOf kinds cells → row_read kinds (row_text cells) ≡ Some cells
row_read-row_text kinds [] p h = absurd (omega (arith, p))
row_read-row_text [] (c ∷ cs) p h = absurd h
row_read-row_text (k ∷ ks) (c ∷ cs) p h = ap (cells_read (k ∷ ks)) (raw_cells-row_text k ks c cs h) ∙ cells_read-texts (k ∷ ks) (c ∷ cs) h
