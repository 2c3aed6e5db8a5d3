-- Rows laid out as words and as bytes, and read again.
use Rattle.std.proofs.Common.{◌≡◌, ℕ, zero, suc, ◌+◌, ◌-◌, ◌*◌, ◌/◌, ◌^◌, ◌<◌, ◌≤◌, List, [], ◌∷◌, ◌++◌, length, get_or, take, drop, refl, sym, ap, ap₂, ◌∙◌, arith, replicate}
use Rattle.std.specs.Prelude.{ℤ, pos, Some, slice_get}
use Rattle.std.specs.Int.{w64, from_le_bytes, cast_unsigned, cast_signed}
use mir.Val.{SFits}
use Rattle.std.proofs.Math.Facts.{Fits-of_z, to_z-of_z}
use Rattle.std.proofs.lemmas.Nat.{from_le_bytes-to_le_bytes_8, div-add-mod'}
use Rattle.std.proofs.Math.Nat.{mul-le-mul_right, mul-le-mul_left}
use Rattle.std.proofs.lemmas.List.{append-nil, append_assoc, length-append, length-take, length-drop, length-take-le, take_at, drop_at, drop-drop, drop-append-le, take-append-le, drop-replicate, get_or-drop, take_more, take-append-drop, take_all}
use Rattle.std.proofs.lemmas.List.Concat.{flat_map-append}
use Rattle.std.proofs.lemmas.List.Elements.{All-head, All-tail, All-cons, All-nil}
use Rattle.pdq_spill.specs.Rows.{words_of, rows_of, AreRows, AreWords}
use Rattle.pdq_spill.specs.Blocks.{bytes_of, bytes_of_word, word_of, words_in, laid_out, number_of, block_rows}

abbrev wide : ℕ → List ℤ → Type 0
wide w row = length row ≡ w

pub head_row : {w : ℕ} (row : List ℤ) (rows : List (List ℤ)) → AreRows w (row ∷ rows) → length row ≡ w
head_row {w} row rows h = All-head (wide w) row rows h.widths

pub tail_rows : {w : ℕ} (row : List ℤ) (rows : List (List ℤ)) → AreRows w (row ∷ rows) → AreRows w rows
tail_rows {w} row rows h = record { widths = All-tail (wide w) row rows h.widths }

pub length-rows_of : (w n : ℕ) (words : List ℤ) → length (rows_of w n words) ≡ n
length-rows_of w zero words = refl
length-rows_of w (suc n) words = ap suc (length-rows_of w n (drop w words))

pub row_at : (w n : ℕ) (words : List ℤ) (i : ℕ) → i < n → slice_get (rows_of w n words) i ≡ Some (take w (drop (i * w) words))
row_at w zero words i h = absurd (omega (arith, h))
row_at w (suc n) words zero h = ap (λ (k : ℕ). Some (take w (drop k words))) (let e : 0 ≡ 0 * w = omega arith in e)
row_at w (suc n) words (suc i) h =
    let e : w + i * w ≡ suc i * w = omega arith in
    row_at w n (drop w words) i (omega arith) ∙ ap (λ (xs : List ℤ). Some (take w xs)) (drop-drop (i * w) w words ∙ ap (λ (k : ℕ). drop k words) e)

pub rows_of-widths : (w n : ℕ) (words : List ℤ) → n * w ≤ length words → AreRows w (rows_of w n words)
rows_of-widths w zero words h = record { widths = All-nil (wide w) }
rows_of-widths w (suc n) words h =
    let m : n * w + w ≤ length words = omega (arith, h) in
    let k : n * w ≤ length (drop w words) = omega (arith, length-drop w words, m) in
    record { widths = All-cons (wide w) (take w words) (rows_of w n (drop w words)) (length-take-le w words (omega (arith, m))) (rows_of-widths w n (drop w words) k).widths }

pub length-words_of : (w : ℕ) (rows : List (List ℤ)) → AreRows w rows → length (words_of rows) ≡ length rows * w
length-words_of w [] h = omega arith
length-words_of w (row ∷ rows) h = omega (arith, length-append row (words_of rows), head_row row rows h, length-words_of w rows (tail_rows row rows h))

pub rows_of-words_of : (w : ℕ) (rows : List (List ℤ)) (rest : List ℤ) → AreRows w rows → rows_of w (length rows) (words_of rows ++ rest) ≡ rows
rows_of-words_of w [] rest h = refl
rows_of-words_of w (row ∷ rows) rest h =
    let e : (row ++ words_of rows) ++ rest ≡ row ++ (words_of rows ++ rest) = append_assoc row (words_of rows) rest in
    ap₂ (λ (x : List ℤ) (xs : List (List ℤ)). x ∷ xs)
    (ap (take w) e ∙ take_at row (words_of rows ++ rest) w (head_row row rows h))
    (ap (λ (ws : List ℤ). rows_of w (length rows) ws) (ap (drop w) e ∙ drop_at row (words_of rows ++ rest) w (head_row row rows h)) ∙ rows_of-words_of w rows rest (tail_rows row rows h))

pub rows_of-push : (w n : ℕ) (words row : List ℤ) → length words ≡ n * w → length row ≡ w → rows_of w (suc n) (words ++ row) ≡ rows_of w n words ++ row ∷ []
rows_of-push w zero [] row h k = ap (λ (ws : List ℤ). ws ∷ []) (ap (take w) (sym (append-nil row)) ∙ take_at row [] w k)
rows_of-push w zero (x ∷ words) row h k = absurd (let z : suc (length words) ≡ 0 * w = h in omega (arith, z))
rows_of-push w (suc n) words row h k =
    let l : w ≤ length words = omega (arith, h) in
    let d : length (drop w words) ≡ n * w = omega (arith, length-drop w words, h) in
    ap₂ (λ (x : List ℤ) (xs : List (List ℤ)). x ∷ xs) (take-append-le w words row l) (ap (λ (ws : List ℤ). rows_of w (suc n) ws) (drop-append-le w words row l) ∙ rows_of-push w n (drop w words) row d k)

pub words_of-rows_of : (w n : ℕ) (words : List ℤ) → length words ≡ n * w → words_of (rows_of w n words) ≡ words
words_of-rows_of w zero [] h = refl
words_of-rows_of w zero (x ∷ words) h = absurd (let z : suc (length words) ≡ 0 * w = h in omega (arith, z))
words_of-rows_of w (suc n) words h =
    let d : length (drop w words) ≡ n * w = omega (arith, length-drop w words, h) in
    ap (λ (ws : List ℤ). take w words ++ ws) (words_of-rows_of w n (drop w words) d) ∙ take-append-drop w words

pub words_in-add : (m n : ℕ) (bytes : List ℕ) → words_in (m + n) bytes ≡ words_in m bytes ++ words_in n (drop (8 * m) bytes)
unfolding words_in
words_in-add zero n bytes = ap (λ (k : ℕ). words_in k bytes) (let e : 0 + n ≡ n = omega arith in e)
words_in-add (suc m) n bytes =
    let e : suc m + n ≡ suc (m + n) = omega arith in
    let k : 8 + 8 * m ≡ 8 * suc m = omega arith in
    ap (λ (k : ℕ). words_in k bytes) e ∙ ap (λ (ws : List ℤ). word_of bytes ∷ ws) (words_in-add m n (drop 8 bytes) ∙ ap (λ (bs : List ℕ). words_in m (drop 8 bytes) ++ words_in n bs) (drop-drop (8 * m) 8 bytes ∙ ap (λ (j : ℕ). drop j bytes) k))

pub words_in-more : (m : ℕ) (bytes : List ℕ) → words_in (m + 1) bytes ≡ words_in m bytes ++ word_of (drop (8 * m) bytes) ∷ []
unfolding words_in
words_in-more m bytes = words_in-add m 1 bytes

pub length-words_in : (n : ℕ) (bytes : List ℕ) → length (words_in n bytes) ≡ n
unfolding words_in
length-words_in zero bytes = refl
length-words_in (suc n) bytes = ap suc (length-words_in n (drop 8 bytes))

-- the word that 8 bytes from a place on are
pub word_from : (bytes : List ℕ) (k : ℕ) → word_of (drop k bytes) ≡ cast_signed w64 (from_le_bytes w64 (get_or bytes k 0 ∷ get_or bytes (k + 1) 0 ∷ get_or bytes (k + 2) 0 ∷ get_or bytes (k + 3) 0 ∷ get_or bytes (k + 4) 0 ∷ get_or bytes (k + 5) 0 ∷ get_or bytes (k + 6) 0 ∷ get_or bytes (k + 7) 0 ∷ []))
word_from bytes k =
    let z : get_or (drop k bytes) 0 0 ≡ get_or bytes k 0 = get_or-drop k bytes 0 0 ∙ ap (λ (j : ℕ). get_or bytes j 0) (let e : k + 0 ≡ k = omega arith in e) in
    let e1 : get_or (drop k bytes) 1 0 ≡ get_or bytes (k + 1) 0 = get_or-drop k bytes 1 0 in
    let e2 : get_or (drop k bytes) 2 0 ≡ get_or bytes (k + 2) 0 = get_or-drop k bytes 2 0 in
    let e3 : get_or (drop k bytes) 3 0 ≡ get_or bytes (k + 3) 0 = get_or-drop k bytes 3 0 in
    let e4 : get_or (drop k bytes) 4 0 ≡ get_or bytes (k + 4) 0 = get_or-drop k bytes 4 0 in
    let e5 : get_or (drop k bytes) 5 0 ≡ get_or bytes (k + 5) 0 = get_or-drop k bytes 5 0 in
    let e6 : get_or (drop k bytes) 6 0 ≡ get_or bytes (k + 6) 0 = get_or-drop k bytes 6 0 in
    let e7 : get_or (drop k bytes) 7 0 ≡ get_or bytes (k + 7) 0 = get_or-drop k bytes 7 0 in
    cc

pub word_of_bytes : (word : ℤ) (rest : List ℕ) → SFits w64 word → word_of (bytes_of_word word ++ rest) ≡ word
word_of_bytes word rest fits = ap (cast_signed w64) (from_le_bytes-to_le_bytes_8 (cast_unsigned w64 word) (Fits-of_z fits).fits) ∙ to_z-of_z fits

pub words_in-bytes_of : (words : List ℤ) (rest : List ℕ) → AreWords words → words_in (length words) (bytes_of words ++ rest) ≡ words
unfolding words_in
words_in-bytes_of [] rest h = refl
words_in-bytes_of (word ∷ words) rest h =
    let e : (bytes_of_word word ++ bytes_of words) ++ rest ≡ bytes_of_word word ++ (bytes_of words ++ rest) = append_assoc (bytes_of_word word) (bytes_of words) rest in
    ap₂ (λ (x : ℤ) (xs : List ℤ). x ∷ xs)
    (ap word_of e ∙ word_of_bytes word (bytes_of words ++ rest) (All-head (λ (z : ℤ). SFits w64 z) word words h.fits))
    (words_in-bytes_of words rest (record { fits = All-tail (λ (z : ℤ). SFits w64 z) word words h.fits }))

pub length-bytes_of : (words : List ℤ) → length (bytes_of words) ≡ 8 * length words
length-bytes_of [] = refl
length-bytes_of (word ∷ words) = omega (arith, length-append (bytes_of_word word) (bytes_of words), length-bytes_of words)

-- the word at a place of a block
pub word_read : (bytes : List ℕ) (i at : ℕ) → at ≡ 8 * i + 8 → word_of (drop (8 * i) (drop 8 bytes)) ≡ cast_signed w64 (from_le_bytes w64 (get_or bytes at 0 ∷ get_or bytes (at + 1) 0 ∷ get_or bytes (at + 2) 0 ∷ get_or bytes (at + 3) 0 ∷ get_or bytes (at + 4) 0 ∷ get_or bytes (at + 5) 0 ∷ get_or bytes (at + 6) 0 ∷ get_or bytes (at + 7) 0 ∷ []))
word_read bytes i at e = ap word_of (drop-drop (8 * i) 8 bytes ∙ ap (λ (k : ℕ). drop k bytes) (let q : 8 + 8 * i ≡ at = omega (arith, e) in q)) ∙ word_from bytes at

lay_next : (count : ℤ) (words : List ℤ) (i : ℕ) (word : ℤ) (block : List ℕ) → i < length words → length words ≤ 511 → word ≡ get_or words i word → block ≡ bytes_of (count ∷ take i words) ++ replicate (8 * (511 - i)) 0 → take (8 * i + 8) block ++ (bytes_of_word word ++ drop 8 (drop (8 * i + 8) block)) ≡ bytes_of (count ∷ take (i + 1) words) ++ replicate (8 * (511 - (i + 1))) 0
lay_next count words i word block l m r is =
    let a : List ℕ = bytes_of (count ∷ take i words) in
    let z : List ℕ = replicate (8 * (511 - i)) 0 in
    let k : length a ≡ 8 * i + 8 = omega (arith, length-bytes_of (count ∷ take i words), length-take i words) in
    let before : take (8 * i + 8) block ≡ a = ap (take (8 * i + 8)) is ∙ take_at a z (8 * i + 8) k in
    let less : 8 * (511 - i) - 8 ≡ 8 * (511 - (i + 1)) = omega arith in
    let behind : drop 8 (drop (8 * i + 8) block) ≡ replicate (8 * (511 - (i + 1))) 0 = ap (λ (bs : List ℕ). drop 8 (drop (8 * i + 8) bs)) is ∙ ap (drop 8) (drop_at a z (8 * i + 8) k) ∙ drop-replicate 8 (8 * (511 - i)) 0 ∙ ap (λ (n : ℕ). replicate n 0) less in
    let one : bytes_of (count ∷ take (i + 1) words) ≡ a ++ bytes_of_word word =
    ap (λ (ws : List ℤ). bytes_of (count ∷ ws)) (take_more words i word l ∙ ap (λ (x : ℤ). take i words ++ x ∷ []) (sym r))
    ∙ flat_map-append bytes_of_word (count ∷ take i words) (word ∷ []) ∙ ap (λ (bs : List ℕ). a ++ bs) (append-nil (bytes_of_word word)) in
    ap₂ (λ (xs ys : List ℕ). xs ++ (bytes_of_word word ++ ys)) before behind ∙ sym (append_assoc a (bytes_of_word word) (replicate (8 * (511 - (i + 1))) 0)) ∙ ap (λ (xs : List ℕ). xs ++ replicate (8 * (511 - (i + 1))) 0) (sym one)

-- one more word of a block was written
pub lay_more : (count : ℤ) (words : List ℤ) (i : ℕ) (word : ℤ) (block : List ℕ) → i < length words → length words ≤ 511 → word ≡ get_or words i word → block ≡ bytes_of (count ∷ take i words) ++ replicate (8 * (511 - i)) 0 → (k : ℕ) (ys : List ℕ) → k ≡ 8 → ys ≡ bytes_of_word word → take (8 * i + 8) block ++ (ys ++ drop k (drop (8 * i + 8) block)) ≡ bytes_of (count ∷ take (i + 1) words) ++ replicate (8 * (511 - (i + 1))) 0
lay_more count words i word block l m r is k ys eight wrote =
    ap₂ (λ (xs : List ℕ) (j : ℕ). take (8 * i + 8) block ++ (xs ++ drop j (drop (8 * i + 8) block))) wrote eight ∙ lay_next count words i word block l m r is

-- the first word of a block was written
pub lay_first : (count : ℤ) (words : List ℤ) (n : ℕ) (ys zs : List ℕ) → n ≡ 8 * 511 + 8 → ys ≡ bytes_of_word count → zs ≡ replicate n 0 → ys ++ drop 8 (drop 0 zs) ≡ bytes_of (count ∷ take 0 words) ++ replicate (8 * (511 - 0)) 0
lay_first count words n ys zs e wrote is =
    let less : n - 8 ≡ 8 * (511 - 0) = omega arith in
    ap₂ (λ (xs us : List ℕ). xs ++ drop 8 us) (wrote ∙ sym (append-nil (bytes_of_word count))) is ∙ ap (λ (us : List ℕ). bytes_of (count ∷ []) ++ us) (drop-replicate 8 n 0 ∙ ap (λ (k : ℕ). replicate k 0) less)

-- all words of a block were read
pub read_all : (words : List ℤ) (bytes : List ℕ) (i : ℕ) → i ≡ 511 → length words ≡ 511 → take i words ≡ words_in i bytes → words ≡ words_in 511 bytes
read_all words bytes i e l h = sym (take_all i words (omega (arith, e, l))) ∙ h ∙ ap (λ (k : ℕ). words_in k bytes) e

-- what a block holds was what was laid out
pub block_rows-laid_out : (w : ℕ) (rows : List (List ℤ)) → AreRows w rows → AreWords (words_of rows) → length (words_of rows) ≤ 511 → length rows < 2 ^ 63 → block_rows w (laid_out rows) ≡ rows
unfolding block_rows
block_rows-laid_out w rows h k l few =
    let ws : List ℤ = words_of rows in
    let z : List ℕ = replicate (8 * (511 - length ws)) 0 in
    let n : ℕ = length rows in
    let f : SFits w64 (pos n) = record { sfits = few } in
    let e : laid_out rows ≡ bytes_of_word (pos n) ++ (bytes_of ws ++ z) = append_assoc (bytes_of_word (pos n)) (bytes_of ws) z in
    let first : number_of (word_of (laid_out rows)) ≡ n = ap (λ (bs : List ℕ). number_of (word_of bs)) e ∙ ap number_of (word_of_bytes (pos n) (bytes_of ws ++ z) f) in
    let rest : List ℤ = words_in (511 - length ws) (drop (8 * length ws) (bytes_of ws ++ z)) in
    let all : words_in 511 (drop 8 (laid_out rows)) ≡ ws ++ rest =
    ap (λ (bs : List ℕ). words_in 511 (drop 8 bs)) e
    ∙ ap (λ (m : ℕ). words_in m (bytes_of ws ++ z)) (let q : 511 ≡ length ws + (511 - length ws) = omega arith in q)
    ∙ words_in-add (length ws) (511 - length ws) (bytes_of ws ++ z)
    ∙ ap (λ (xs : List ℤ). xs ++ rest) (words_in-bytes_of ws z k) in
    ap₂ (λ (m : ℕ) (xs : List ℤ). rows_of w m xs) first all ∙ rows_of-words_of w rows rest h

pub words_in-none : (bytes : List ℕ) → ◌≡◌ {A = List ℤ} [] (words_in 0 bytes)
unfolding words_in
words_in-none bytes = refl

pub rows_of-more : (w n : ℕ) (words row : List ℤ) → length words ≡ n * w → length row ≡ w → rows_of w (n + 1) (words ++ row) ≡ rows_of w n words ++ row ∷ []
rows_of-more w n words row h k = ap (λ (m : ℕ). rows_of w m (words ++ row)) (let e : n + 1 ≡ suc n = omega arith in e) ∙ rows_of-push w n words row h k

-- the bytes of a block of rows whose words these are
pub laid-rows : (w n : ℕ) (items words : List ℤ) (bytes : List ℕ) → length items ≡ n * w → words ≡ items → bytes ≡ bytes_of (pos n ∷ words) ++ replicate (8 * (511 - length words)) 0 → bytes ≡ laid_out (rows_of w n items)
laid-rows w n items words bytes h e is =
    let F : ℕ → List ℤ → List ℕ = λ m ws. bytes_of (pos m ∷ ws) ++ replicate (8 * (511 - length ws)) 0 in
    is ∙ ap₂ F (sym (length-rows_of w n items)) (e ∙ sym (words_of-rows_of w n items h))

-- so many rows as a block holds have at most 511 words
pub words_fit : (w n : ℕ) → n ≤ 511 / w → n * w ≤ 511
words_fit w n h = omega (arith, div-add-mod' 511 w, mul-le-mul_right {m = n} {n = 511 / w} w h)

-- the rows of a block that holds so many
pub block_rows-count : (w count : ℕ) (bytes : List ℕ) → length (block_rows w bytes) ≡ count → block_rows w bytes ≡ rows_of w count (words_in 511 (drop 8 bytes))
unfolding block_rows
block_rows-count w count bytes h = ap (λ (n : ℕ). rows_of w n (words_in 511 (drop 8 bytes))) (sym (length-rows_of w (number_of (word_of bytes)) (words_in 511 (drop 8 bytes))) ∙ h)

-- so many rows of at least one word are at most as many as the words
pub rows_few : (w n : ℕ) → 1 ≤ w → n * w ≤ 511 → n ≤ 511
rows_few w n l h = omega (arith, h, mul-le-mul_left {m = 1} {n = w} n l)
