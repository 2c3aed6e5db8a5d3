-- A row of a table that is printed is read back as the row.
use Rattle.std.proofs.Common.{◌≡◌, ℕ, suc, ◌+◌, ◌<◌, ◌≤◌, true, cond, List, [], ◌∷◌, ◌++◌, length, refl, sym, ap, ◌∙◌, arith, subst, map, All, ◌⊎◌, inl, inr, Some, None, Ok, Err}
use Rattle.std.specs.Prelude.{◌^◌, ◌==◌, ℤ, nat_abs}
use Rattle.std.specs.Str.{IsUtf8, bytes_eq, is_utf8}
use Rattle.std.proofs.Math.Utf8.{encode, encodes, scalar, scalars}
use Rattle.std.proofs.lemmas.Bool.{cases_lt, cond_both, eq-eqb}
use Rattle.std.proofs.lemmas.List.{append-nil, length-map}
use Rattle.std.proofs.lemmas.List.Concat.{flat_map-append}
use Rattle.std.proofs.lemmas.List.Elements.{All-head, All-tail}
use Rattle.std.proofs.lemmas.Slice.Eq.{bytes_eq-Decides}
use Rattle.std.proofs.lemmas.Str.{IsUtf8-append, IsUtf8-from_is_utf8, IsUtf8-nil, encode_ascii, is_utf8-from_IsUtf8}
use Rattle.pdq_value.specs.declared.loading.LoadWhy.TheVariants.{WrongFields}
use Rattle.pdq_value.specs.declared.shapes.Column.{Column}
use Rattle.pdq_value.specs.declared.shapes.Kind.{Kind}
use Rattle.pdq_value.specs.declared.shapes.Kind.TheVariants as kind
use Rattle.pdq_value.specs.declared.shapes.Value.{Value}
use Rattle.pdq_value.specs.declared.shapes.Value.TheVariants as value
use Rattle.pdq_value.specs.Cells.{cell_of}
use Rattle.pdq_value.specs.Numbers.{bad_place, number_of_text, number_text}
use Rattle.pdq_value.specs.PlainTable.{fault, has_fields, is_one_text, is_words, not_utf8_at, row_of, row_where, value_of, value_of_number, value_of_text, values_of}
use Rattle.pdq_value.specs.RowLines.{backslash, bar, nothing_text, plain_text, raw_cells, raw_cells_after}
use Rattle.pdq_value.specs.RowText.{AreCellsOf, IsCellOf, RowsAreReadBack, cell_text, escaped, escaped_text, row_text}
use Rattle.pdq_value.specs.Tables.{IsRowOf, IsValueOf, cells_of}
use Rattle.pdq_value.proofs.NumberReading.{number_of_text-number_text, number_text-low}
use Rattle.pdq_value.proofs.NumberReads.{number_texts_read_back}
use Rattle.pdq_value.proofs.RowReading.{nothing_text-no_text, plain_text-escaped_text, plain_text-low, raw_cells-row_text}
use Rattle.pdq_value.proofs.Utf8Texts.{AreHigh, high_bytes, is_other, one_byte, one_char, scalar_head}

-- ---- what is printed is UTF-8

low_utf8 : (bytes : List ℕ) → All (λ b. b < 92) bytes → IsUtf8 bytes
low_utf8 [] h = IsUtf8-nil
low_utf8 (b ∷ bytes) h = let p = All-head (λ c. c < 92) b bytes h in IsUtf8-append (b ∷ []) bytes (one_byte b (omega (arith, p))) (low_utf8 bytes (All-tail (λ c. c < 92) b bytes h))

two_bytes : (a b : ℕ) → a < 128 → b < 128 → IsUtf8 (a ∷ b ∷ [])
two_bytes a b p q = IsUtf8-append (a ∷ []) (b ∷ []) (one_byte a p) (one_byte b q)

escaped_low : (b : ℕ) → b < 128 → IsUtf8 (escaped b)
escaped_low b p =
    cond_both (b == backslash) _ _ IsUtf8 (λ _. two_bytes 92 92 (omega arith) (omega arith))
    (λ _. cond_both (b == bar) _ _ IsUtf8 (λ _. two_bytes 92 124 (omega arith) (omega arith))
    (λ _. cond_both (b == 10) _ _ IsUtf8 (λ _. two_bytes 92 110 (omega arith) (omega arith))
    (λ _. cond_both (b == 13) _ _ IsUtf8 (λ _. two_bytes 92 114 (omega arith) (omega arith)) (λ _. one_byte b p))))

escaped_high : (b : ℕ) → 128 ≤ b → escaped b ≡ b ∷ []
escaped_high b high = rw (is_other b backslash (omega arith) high, is_other b bar (omega arith) high, is_other b 10 (omega arith) high, is_other b 13 (omega arith) high) refl

escaped_text-high : (bytes : List ℕ) → AreHigh bytes → escaped_text bytes ≡ bytes
escaped_text-high [] h = refl
escaped_text-high (b ∷ bytes) h = ap (λ t. t ++ escaped_text bytes) (escaped_high b h.0) ∙ ap (λ t. b ∷ t) (escaped_text-high bytes h.1)

escaped_char : (c : ℕ) → scalar c ≡ true → (c < 128) ⊎ (128 ≤ c) → IsUtf8 (escaped_text (encode c))
escaped_char c is_scalar (inl low) = subst (λ bytes. IsUtf8 (escaped_text bytes)) (sym (encode_ascii c low)) (subst IsUtf8 (sym (append-nil (escaped c))) (escaped_low c low))
escaped_char c is_scalar (inr high) = subst IsUtf8 (sym (escaped_text-high (encode c) (high_bytes c high))) (one_char c is_scalar)

escaped_chars : (cs : List ℕ) → scalars cs ≡ true → IsUtf8 (escaped_text (encodes cs))
escaped_chars [] h = IsUtf8-nil
escaped_chars (c ∷ cs) h =
    let t = scalar_head (scalar c) (scalars cs) h in
    subst IsUtf8 (sym (flat_map-append escaped (encode c) (encodes cs))) (IsUtf8-append (escaped_text (encode c)) (escaped_text (encodes cs)) (escaped_char c t.0 (cases_lt c 128)) (escaped_chars cs t.1))

escaped_text-IsUtf8 : (text : List ℕ) → is_utf8 text ≡ true → IsUtf8 (escaped_text text)
escaped_text-IsUtf8 text h = let u = IsUtf8-from_is_utf8 text h in subst (λ bytes. IsUtf8 (escaped_text bytes)) u.1.1 (escaped_chars u.0 u.1.0)

-- a value's number is one of 128 bits
wide : (z : ℤ) → nat_abs z < 10 ^ 18 → nat_abs z < 2 ^ 128
wide z h = omega (arith, h)

abbrev text_of : Kind → Value → List ℕ
text_of k v = cell_text (cell_of k v)

nothing_utf8 : is_utf8 nothing_text ≡ true
nothing_utf8 = is_utf8-from_IsUtf8 nothing_text (two_bytes 92 78 (omega arith) (omega arith))

text_utf8 : (k : Kind) (v : Value) → IsValueOf k v → is_utf8 (text_of k v) ≡ true
unfolding cell_text
text_utf8 (kind.Number s) value.Null h = nothing_utf8
text_utf8 kind.Words value.Null h = nothing_utf8
text_utf8 (kind.Number s) (value.Number z) h = is_utf8-from_IsUtf8 (number_text z s) (low_utf8 (number_text z s) (number_text-low z s (wide z h)))
text_utf8 kind.Words (value.Words t) h = is_utf8-from_IsUtf8 (escaped_text t) (escaped_text-IsUtf8 t h)
text_utf8 (kind.Number s) (value.Words t) h = absurd h
text_utf8 kind.Words (value.Number z) h = absurd h

texts_utf8 : (columns : List Column) (values : List Value) (n : ℕ) → IsRowOf columns values → not_utf8_at n (map cell_text (cells_of columns values)) ≡ None
texts_utf8 [] [] n h = refl
texts_utf8 [] (v ∷ vs) n h = absurd h
texts_utf8 (c ∷ cs) [] n h = absurd h
texts_utf8 (c ∷ cs) (v ∷ vs) n h = ap (λ t. cond t (not_utf8_at (n + 1) (map cell_text (cells_of cs vs))) (Some n)) (text_utf8 c.kind v h.0) ∙ texts_utf8 cs vs (n + 1) h.1

-- ---- it is cut into as many cells as there are columns

are_cells : (columns : List Column) (values : List Value) → IsRowOf columns values → AreCellsOf (map (λ (c : Column). c.kind) columns) (cells_of columns values)
are_cells [] [] h = tt
are_cells [] (v ∷ vs) h = absurd h
are_cells (c ∷ cs) [] h = absurd h
are_cells (c ∷ cs) (v ∷ vs) h = (is_cell c.kind v h.0, are_cells cs vs h.1)
  where
    is_cell : (k : Kind) (v : Value) → IsValueOf k v → IsCellOf k (cell_of k v)
    is_cell (kind.Number s) value.Null h = tt
    is_cell kind.Words value.Null h = tt
    is_cell (kind.Number s) (value.Number z) h = (refl, wide z h)
    is_cell (kind.Number s) (value.Words t) h = absurd h
    is_cell kind.Words (value.Number z) h = absurd h
    is_cell kind.Words (value.Words t) h = tt

length-cells_of : (columns : List Column) (values : List Value) → IsRowOf columns values → length (cells_of columns values) ≡ length columns
length-cells_of [] [] h = refl
length-cells_of [] (v ∷ vs) h = absurd h
length-cells_of (c ∷ cs) [] h = absurd h
length-cells_of (c ∷ cs) (v ∷ vs) h = ap suc (length-cells_of cs vs h.1)

cuts : (columns : List Column) (values : List Value) → 1 ≤ length columns → IsRowOf columns values → raw_cells (row_text (cells_of columns values)) ≡ map cell_text (cells_of columns values)
cuts [] values p h = absurd (omega (arith, p))
cuts (c ∷ cs) [] p h = absurd h
cuts (c ∷ cs) (v ∷ vs) p h = raw_cells-row_text c.kind (map (λ (d : Column). d.kind) cs) (cell_of c.kind v) (cells_of cs vs) (are_cells (c ∷ cs) (v ∷ vs) h)

-- a number is printed with some byte
no_empty_number : (s : ℕ) → number_of_text s [] ≡ None
unfolding bad_place
no_empty_number s = refl

some_byte : (z : ℤ) (s : ℕ) → nat_abs z < 10 ^ 18 → number_text z s ≡ [] → ⊥
some_byte z s h e =
    let f = sym (no_empty_number s) ∙ sym (ap (number_of_text s) e) ∙ number_of_text-number_text z s (wide z h) in
    cc

empty_is_text : (k : Kind) (v : Value) → IsValueOf k v → text_of k v ≡ [] → is_words k ≡ true
unfolding cell_text
empty_is_text kind.Words v h e = refl
empty_is_text (kind.Number s) value.Null h e = absurd (omega (arith, ap length e))
empty_is_text (kind.Number s) (value.Number z) h e = absurd (some_byte z s h e)
empty_is_text (kind.Number s) (value.Words t) h e = absurd h

fields : (columns : List Column) (values : List Value) → 1 ≤ length columns → IsRowOf columns values → has_fields columns (row_text (cells_of columns values)) ≡ true
unfolding raw_cells_after
fields columns values p h = by (row_text (cells_of columns values)) refl
  where
    size : (line : List ℕ) → row_text (cells_of columns values) ≡ line → length (raw_cells line) ≡ length columns
    size line e = sym (ap (λ l. length (raw_cells l)) e) ∙ ap length (cuts columns values p h) ∙ length-map (cells_of columns values) cell_text ∙ length-cells_of columns values h

    alone : (cs : List Column) (vs : List Value) → length cs ≡ 1 → IsRowOf cs vs → row_text (cells_of cs vs) ≡ [] → is_one_text cs ≡ true
    alone [] vs n k e = absurd (omega (arith, n))
    alone (c ∷ d ∷ cs) vs n k e = absurd (omega (arith, n))
    alone (c ∷ []) [] n k e = absurd k
    alone (c ∷ []) (v ∷ w ∷ vs) n k e = absurd k.1
    alone (c ∷ []) (v ∷ []) n k e = empty_is_text c.kind v k.0 e

    by : (line : List ℕ) → row_text (cells_of columns values) ≡ line → has_fields columns line ≡ true
    by [] e = alone columns values (sym (size [] e)) h e
    by (b ∷ line) e = eq-eqb (length (raw_cells (b ∷ line))) (length columns) (size (b ∷ line) e)

-- ---- each cell is read as its value

-- a raw cell that says a text is not `\N`
value_of-text : (k : Kind) (row column : ℕ) (raw text : List ℕ) → plain_text raw ≡ Some text → value_of k row column raw ≡ value_of_text k row column (Some text)
unfolding value_of
value_of-text k row column raw text e =
    cond_both (bytes_eq raw nothing_text) (Ok value.Null) (value_of_text k row column (plain_text raw)) (λ o. o ≡ value_of_text k row column (Some text))
    (λ t. let d = bytes_eq-Decides raw nothing_text in let n : plain_text raw ≡ None = ap plain_text (d.0 t) ∙ nothing_text-no_text in absurd (let c : ⊥ = cc in c))
    (λ t. ap (value_of_text k row column) e)

value_of-nothing : (k : Kind) (row column : ℕ) → value_of k row column nothing_text ≡ Ok value.Null
unfolding value_of
value_of-nothing k row column = refl

value_again : (k : Kind) (v : Value) (row column : ℕ) → IsValueOf k v → value_of k row column (text_of k v) ≡ Ok v
unfolding cell_text
value_again (kind.Number s) value.Null row column h = value_of-nothing (kind.Number s) row column
value_again kind.Words value.Null row column h = value_of-nothing kind.Words row column
value_again (kind.Number s) (value.Number z) row column h =
    value_of-text (kind.Number s) row column (number_text z s) (number_text z s) (plain_text-low (number_text z s) (number_text-low z s (wide z h)))
    ∙ ap (value_of_number row column) (number_texts_read_back z s h)
value_again kind.Words (value.Words t) row column h = value_of-text kind.Words row column (escaped_text t) t (plain_text-escaped_text t)
value_again (kind.Number s) (value.Words t) row column h = absurd h
value_again kind.Words (value.Number z) row column h = absurd h

values_again : (columns : List Column) (values : List Value) (row column : ℕ) → IsRowOf columns values → values_of columns row column (map cell_text (cells_of columns values)) ≡ Ok values
values_again [] [] row column h = refl
values_again [] (v ∷ vs) row column h = absurd h
values_again (c ∷ cs) [] row column h = absurd h
values_again (c ∷ cs) (v ∷ vs) row column h = rw (value_again c.kind v row column h.0, values_again cs vs row (column + 1) h.1) refl

pub rows_are_read_back : RowsAreReadBack
unfolding row_of
rows_are_read_back columns row values p h =
    let line = row_text (cells_of columns values) in
    let cut = cuts columns values p h in
    ap (λ o. row_where o columns row line) (ap (not_utf8_at 1) cut ∙ texts_utf8 columns values 1 h)
    ∙ ap (λ t. cond t (values_of columns row 1 (raw_cells line)) (Err (fault WrongFields row 0))) (fields columns values p h)
    ∙ ap (values_of columns row 1) cut ∙ values_again columns values row 1 h
