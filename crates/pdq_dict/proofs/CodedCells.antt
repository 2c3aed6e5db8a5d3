-- Words read back give what they stand for, and compare as it does.
use Rattle.std.proofs.Common.{zero, suc, ◌≡◌, ℕ, ◌<◌, ◌^◌, List, [], ◌∷◌, ◌++◌, cond, refl, sym, ap, ap₂, ◌∙◌, subst, arith, length, get_or, ℤ, pos, negsuc, nat_abs, Some, unwrap_or, int_cmp, nat_cmp, is_eq, flat_map, Contains}
use Rattle.std.specs.Ordering.{ordering_then}
use Rattle.std.specs.declared.cmp.Ordering.{Ordering}
use Rattle.std.specs.declared.cmp.Ordering.TheVariants.{Less, Equal, Greater}
use Rattle.std.proofs.lemmas.Int.{ints}
use Rattle.std.specs.Cmp.{int_cmp_is}
use Rattle.std.proofs.lemmas.Cmp.{tied_itself, nat_cmp_total}
use Rattle.std.proofs.lemmas.Bool.Decides.{nat_tests}
use Rattle.std.proofs.lemmas.List.Elements.{Contains-append_left, Contains-append_right, Contains-get_or}
use Rattle.std.proofs.lemmas.Option.{slice_get-get_or}
use Rattle.pdq_value.specs.declared.cells.Cell.TheVariants as cell
use Rattle.pdq_value.specs.declared.shapes.Kind.TheVariants as kind
use Rattle.pdq_value.specs.declared.shapes.Value.{Value}
use Rattle.pdq_value.specs.declared.shapes.Value.TheVariants as value
use Rattle.pdq_value.specs.Cells.{cell_cmp}
use Rattle.pdq_dict.specs.Dictionary.{code_of, dictionary_of, texts_of, texts_of_row, texts_of_table, texts_of_value}
use Rattle.pdq_base.specs.Words.{is_null, null_word}
use Rattle.pdq_dict.specs.Coding.{HasCode, cell_of_word}
use Rattle.pdq_dict.specs.CodingLaws.{CellsAreReadBack, EqualWordsAreEqualCells, ValuesAreReadBack, ValuesHaveWordsOfCells, ValuesOfTablesHaveCodes, WordsCompareAsCells}
use Rattle.pdq_dict.proofs.Codes.{at_code, code_of-slice_get, codes_compare_as_texts}
use Rattle.pdq_dict.proofs.Dictionaries.{dictionaries_hold_the_texts, dictionaries_rise}

small_above : (z : ℤ) → nat_abs z < 10 ^ 18 → int_cmp null_word z ≡ Less
small_above (pos n) h = refl
small_above (negsuc n) h = sym (int_cmp_is null_word (negsuc n) Less (omega (arith, ints)))

small_below : (z : ℤ) → nat_abs z < 10 ^ 18 → int_cmp z null_word ≡ Greater
small_below (pos n) h = refl
small_below (negsuc n) h = sym (int_cmp_is (negsuc n) null_word Greater (omega (arith, ints)))

codes_cmp : (m n : ℕ) → int_cmp (pos m) (pos n) ≡ nat_cmp m n
codes_cmp m n = grind (arith, nat_tests)

then_equal : (o p : Ordering) → p ≡ Equal → ordering_then o p ≡ o
then_equal Less p e = refl
then_equal Equal p e = e
then_equal Greater p e = refl

pub words_compare_as_cells : WordsCompareAsCells
unfolding cell_cmp
words_compare_as_cells texts rises k cell.Nothing cell.Nothing h g = refl
words_compare_as_cells texts rises (kind.Number s) cell.Nothing (cell.Number z t) h g = sym (small_above z g.1)
words_compare_as_cells texts rises (kind.Number s) (cell.Number z t) cell.Nothing h g = sym (small_below z h.1)
words_compare_as_cells texts rises (kind.Number s) (cell.Number z t) (cell.Number y u) h g =
    then_equal (int_cmp z y) _ (ap₂ (λ m n. ordering_then (nat_cmp m n) Equal) h.0 g.0 ∙ ap (λ o. ordering_then o Equal) (tied_itself nat_cmp_total s))
words_compare_as_cells texts rises (kind.Number s) cell.Nothing (cell.Words t) h g = absurd g
words_compare_as_cells texts rises (kind.Number s) (cell.Number z t) (cell.Words u) h g = absurd g
words_compare_as_cells texts rises (kind.Number s) (cell.Words t) b h g = absurd h
words_compare_as_cells texts rises kind.Words cell.Nothing (cell.Number z t) h g = absurd g
words_compare_as_cells texts rises kind.Words (cell.Number z t) b h g = absurd h
words_compare_as_cells texts rises kind.Words (cell.Words t) (cell.Number z u) h g = absurd g
words_compare_as_cells texts rises kind.Words cell.Nothing (cell.Words t) h g = refl
words_compare_as_cells texts rises kind.Words (cell.Words t) cell.Nothing h g = refl
words_compare_as_cells texts rises kind.Words (cell.Words t) (cell.Words u) h g =
    sym (ap₂ (λ m n. int_cmp (pos (unwrap_or m 0)) (pos (unwrap_or n 0))) h.1 g.1 ∙ codes_cmp h.0 g.0 ∙ codes_compare_as_texts texts rises t u h.0 g.0 h.1 g.1)

decode_text : (texts : List (List ℕ)) (t : List ℕ) (i : ℕ) → code_of texts t ≡ Some i → get_or texts i [] ≡ t
decode_text texts t i e = (at_code texts t i e).1

pub cells_are_read_back : CellsAreReadBack
cells_are_read_back texts rises (kind.Number s) cell.Nothing h = refl
cells_are_read_back texts rises kind.Words cell.Nothing h = refl
cells_are_read_back texts rises (kind.Number s) (cell.Number z t) h = ap₂ (λ o u. cond (is_eq o) cell.Nothing (cell.Number z u)) (small_below z h.1) (sym h.0)
cells_are_read_back texts rises (kind.Number s) (cell.Words t) h = absurd h
cells_are_read_back texts rises kind.Words (cell.Number z t) h = absurd h
cells_are_read_back texts rises kind.Words (cell.Words t) h =
    ap (λ c. cond (is_null (pos (unwrap_or c 0))) cell.Nothing (cell.Words (get_or texts (nat_abs (pos (unwrap_or c 0))) []))) h.1 ∙ ap cell.Words (decode_text texts t h.0 h.1)

pub equal_words_are_equal_cells : EqualWordsAreEqualCells
equal_words_are_equal_cells texts rises k a b h g e = sym (cells_are_read_back texts rises k a h) ∙ ap (cell_of_word texts k) e ∙ cells_are_read_back texts rises k b g

pub values_are_read_back : ValuesAreReadBack
values_are_read_back texts rises (kind.Number s) value.Null h g = refl
values_are_read_back texts rises kind.Words value.Null h g = refl
values_are_read_back texts rises (kind.Number s) (value.Number z) h g = ap (λ o. cond (is_eq o) value.Null (value.Number z)) (small_below z h)
values_are_read_back texts rises (kind.Number s) (value.Words t) h g = absurd h
values_are_read_back texts rises kind.Words (value.Number z) h g = absurd h
values_are_read_back texts rises kind.Words (value.Words t) h g =
    ap (λ c. cond (is_null (pos (unwrap_or c 0))) value.Null (value.Words (get_or texts (nat_abs (pos (unwrap_or c 0))) []))) g.1 ∙ ap value.Words (decode_text texts t g.0 g.1)

pub values_have_words_of_cells : ValuesHaveWordsOfCells
values_have_words_of_cells texts (kind.Number s) value.Null h g = record { coded = tt; word = refl }
values_have_words_of_cells texts kind.Words value.Null h g = record { coded = tt; word = refl }
values_have_words_of_cells texts (kind.Number s) (value.Number z) h g = record { coded = (refl, h); word = refl }
values_have_words_of_cells texts (kind.Number s) (value.Words t) h g = absurd h
values_have_words_of_cells texts kind.Words (value.Number z) h g = absurd h
values_have_words_of_cells texts kind.Words (value.Words t) h g = record { coded = g; word = refl }

module _ {X Y : Type 0} (f : X → List Y) where
  contains_flat_map : (xs : List X) (x : X) (y : Y) → Contains xs x → Contains (f x) y → Contains (flat_map f xs) y
  contains_flat_map [] x y h g = absurd (let p : h.0 < 0 = h.1 in omega arith)
  contains_flat_map (z ∷ xs) x y h g = by h.0 h.1 h.2 (λ k p e. contains_flat_map xs x y (k, p, e) g)
    where
      by : (k : ℕ) → k < length (z ∷ xs) → get_or (z ∷ xs) k x ≡ x → ((k : ℕ) → k < length xs → get_or xs k x ≡ x → Contains (flat_map f xs) y) → Contains (f z ++ flat_map f xs) y
      by zero p e rest = Contains-append_left (f z) (flat_map f xs) y (subst (λ w. Contains (f w) y) (sym e) g)
      by (suc k) p e rest = Contains-append_right (f z) (flat_map f xs) y (rest k (omega arith) e)

contains_itself : {X : Type 0} (xs : List X) (k : ℕ) (d : X) → k < length xs → Contains xs (get_or xs k d)
contains_itself xs k d p = Contains-get_or xs k d p

pub values_of_tables_have_codes : ValuesOfTablesHaveCodes
values_of_tables_have_codes tables i t p j r u k v w =
    let table = get_or tables i t in
    let row = get_or table.rows j r in
    let here = get_or row k v in
    one here (λ text e. contains_flat_map texts_of_table tables table text (contains_itself tables i t p) (contains_flat_map texts_of_row table.rows row text (contains_itself table.rows j r u) (contains_flat_map texts_of_value row here text (contains_itself row k v w) e)))
  where
    one : (v : Value) → ((text : List ℕ) → Contains (texts_of_value v) text → Contains (texts_of tables) text) → HasCode (dictionary_of tables) v
    one value.Null h = tt
    one (value.Number z) h = tt
    one (value.Words text) h =
        let c = (dictionaries_hold_the_texts tables text).1 (h text (0, omega arith, refl)) in
        (c.0, code_of-slice_get (dictionary_of tables) text c.0 (dictionaries_rise tables) (slice_get-get_or (dictionary_of tables) c.0 text c.1 ∙ ap Some c.2))
