-- Laws of tokens and bytes.
use Rattle.std.proofs.Common.{◌≡◌, ◌≢◌, ℕ, zero, suc, ◌+◌, ◌-◌, ◌<◌, ◌≤◌, Bool, true, false, cond, List, [], ◌∷◌, ◌++◌, length, take, drop, get_or, Option, Some, None, refl, sym, ap, ◌∙◌, arith, add-one, add-zero, drop-cons, append_assoc, length-drop}
use Rattle.std.specs.Prelude.{◌==◌, ◌&&◌, not, nat_le}
use Rattle.std.specs.Char.{is_ascii_alphabetic, is_ascii_digit}
use Rattle.std.specs.Str.{IsUtf8, is_utf8}
use Rattle.std.proofs.lemmas.List.{append-nil}
use Rattle.std.proofs.lemmas.Str.{IsUtf8-from_is_utf8}
use Rattle.std.proofs.lemmas.Bool.Decides.{nat_tests}
use Rattle.std.proofs.lemmas.Grind.{common_steps}
use Rattle.pdq_sql.specs.declared.tokens.Mark.TheVariants as mark
use Rattle.pdq_sql.specs.declared.tokens.TokenKind.{TokenKind}
use Rattle.pdq_sql.specs.declared.tokens.TokenKind.TheVariants.{Fixed, Bad}
use Rattle.pdq_sql.specs.declared.tokens.Token.{Token}
use Rattle.pdq_base.specs.Lines.{is_blank}
use Rattle.pdq_sql.specs.Tokens.{is_word_byte, run_of, QuotedText, grown, passed, quote_of, fraction_len, number_len, word_token, number_token, text_token, option_token, option_of, begins_word, minus_token, begins, symbol_token, token_of, tokens_from, tokens_of}

drop_past : (bytes : List ℕ) (n : ℕ) → length bytes ≤ n → drop n bytes ≡ []
drop_past [] zero le = refl
drop_past [] (suc n) le = refl
drop_past (b ∷ bs) zero le = absurd (omega arith)
drop_past (b ∷ bs) (suc n) le = drop_past bs n (omega arith)

-- ---- runs

pub run_goes : (p : ℕ → Bool) (bytes : List ℕ) (n : ℕ) → n < length bytes → p (get_or bytes n 0) ≡ true → run_of p (drop n bytes) ≡ suc (run_of p (drop (n + 1) bytes))
run_goes p bytes n lt h = rw (add-one, drop-cons bytes n 0) (rw h refl)

pub run_ends : (p : ℕ → Bool) (bytes : List ℕ) (n : ℕ) → n < length bytes → p (get_or bytes n 0) ≡ false → run_of p (drop n bytes) ≡ 0
run_ends p bytes n lt h = rw (drop-cons bytes n 0) (rw h refl)

pub run_over : (p : ℕ → Bool) (bytes : List ℕ) (n : ℕ) → length bytes ≤ n → run_of p (drop n bytes) ≡ 0
run_over p bytes n le = rw (drop_past bytes n le) refl

no_utf8_at : (bs : List ℕ) (b : Bool) → is_utf8 bs ≡ b → (IsUtf8 bs → ⊥) → false ≡ b
no_utf8_at bs true e h = absurd (h (IsUtf8-from_is_utf8 bs e))
no_utf8_at bs false e h = refl

pub no_utf8 : (bs : List ℕ) → (IsUtf8 bs → ⊥) → false ≡ is_utf8 bs
no_utf8 bs h = no_utf8_at bs (is_utf8 bs) refl h

-- ---- texts

-- what was read before, and what is still read
abbrev pub joined : List ℕ → ℕ → QuotedText → QuotedText
joined t n q = (t ++ q.0, n + q.1, q.2)

text_is : (s t : List ℕ) (m n : ℕ) (b : Bool) → s ≡ t → m ≡ n → ◌≡◌ {A = QuotedText} (s, m, b) (t, n, b)
text_is s t m n b e f = λ i. (e i, f i, b)

module _ (bytes text : List ℕ) (n : ℕ) (total : QuotedText) (lt : n < length bytes) where
  -- a byte that is no quote is of the text
  pub byte_more : (get_or bytes n 0 == 39) ≡ false → total ≡ joined text n (quote_of false (drop n bytes)) → total ≡ joined (text ++ get_or bytes n 0 ∷ []) (n + 1) (quote_of false (drop (n + 1) bytes))
  byte_more other so_far =
      let q = quote_of false (drop (suc n) bytes) in
      let one : joined text n (quote_of false (drop n bytes)) ≡ joined (text ++ get_or bytes n 0 ∷ []) (n + 1) (quote_of false (drop (n + 1) bytes)) = rw (add-one, drop-cons bytes n 0, other) (text_is _ _ _ _ _ (sym (append_assoc text (get_or bytes n 0 ∷ []) q.0)) (omega arith)) in
      so_far ∙ one

  -- one behind a quote is not
  pub byte_after : (get_or bytes n 0 == 39) ≡ false → total ≡ joined text n (quote_of true (drop n bytes)) → total ≡ (text, n, true)
  byte_after other so_far =
      let one : joined text n (quote_of true (drop n bytes)) ≡ (text, n, true) = rw (drop-cons bytes n 0, other) (text_is _ _ _ _ _ (append-nil text) (omega arith)) in
      so_far ∙ one

  -- the first quote
  pub quote_first : (get_or bytes n 0 == 39) ≡ true → total ≡ joined text n (quote_of false (drop n bytes)) → total ≡ joined text (n + 1) (quote_of true (drop (n + 1) bytes))
  quote_first is so_far =
      let one : joined text n (quote_of false (drop n bytes)) ≡ joined text (n + 1) (quote_of true (drop (n + 1) bytes)) = rw (add-one, drop-cons bytes n 0, is) (text_is _ _ _ _ _ refl (omega arith)) in
      so_far ∙ one

  -- the second of two
  pub quote_second : (get_or bytes n 0 == 39) ≡ true → total ≡ joined text n (quote_of true (drop n bytes)) → total ≡ joined (text ++ get_or bytes n 0 ∷ []) (n + 1) (quote_of false (drop (n + 1) bytes))
  quote_second is so_far =
      let q = quote_of false (drop (suc n) bytes) in
      let one : joined text n (quote_of true (drop n bytes)) ≡ joined (text ++ get_or bytes n 0 ∷ []) (n + 1) (quote_of false (drop (n + 1) bytes)) = rw (add-one, drop-cons bytes n 0, is) (text_is _ _ _ _ _ (sym (append_assoc text (get_or bytes n 0 ∷ []) q.0)) (omega arith)) in
      so_far ∙ one

-- at the end
pub quote_over : (bytes text : List ℕ) (n : ℕ) (after : Bool) (total : QuotedText) → length bytes ≤ n → total ≡ joined text n (quote_of after (drop n bytes)) → total ≡ (text, n, after)
quote_over bytes text n true total le so_far = so_far ∙ rw (drop_past bytes n le) (text_is _ _ _ _ _ (append-nil text) (omega arith))
quote_over bytes text n false total le so_far = so_far ∙ rw (drop_past bytes n le) (text_is _ _ _ _ _ (append-nil text) (omega arith))

-- ---- tokens

lex_inside : (k p : ℕ) (bs : List ℕ) → k ≤ length bs → tokens_from k p bs ≡ tokens_from 0 (p + k) (drop k bs)
unfolding tokens_from
lex_inside zero p bs le = ap (λ q. tokens_from 0 q bs) (sym (add-zero p))
lex_inside (suc k) p [] le = absurd (omega arith)
lex_inside (suc k) p (b ∷ bs) le = lex_inside k (suc p) bs (omega arith) ∙ ap (λ q. tokens_from 0 q (drop k bs)) (omega arith)

pub lex_blank : (line : List ℕ) (at : ℕ) → at < length line → is_blank (get_or line at 0) ≡ true → tokens_from 0 at (drop at line) ≡ tokens_from 0 (at + 1) (drop (at + 1) line)
unfolding tokens_from
lex_blank line at lt blank = rw (add-one, drop-cons line at 0, blank) refl

pub lex_end : (line : List ℕ) (at : ℕ) → length line ≤ at → tokens_from 0 at (drop at line) ≡ record { place = at; kind = Fixed mark.End } ∷ []
unfolding tokens_from
lex_end line at le = rw (drop_past line at le) refl

lex_first : (b : ℕ) (bs : List ℕ) (at : ℕ) → is_blank b ≡ false → 0 < (token_of (b ∷ bs)).1 → (token_of (b ∷ bs)).1 ≤ length (b ∷ bs)
    → tokens_from 0 at (b ∷ bs) ≡ record { place = at; kind = (token_of (b ∷ bs)).0 } ∷ tokens_from 0 (at + (token_of (b ∷ bs)).1) (drop ((token_of (b ∷ bs)).1 - 1) bs)
unfolding tokens_from
lex_first b bs at blank some most =
    rw blank (ap (λ ts. record { place = at; kind = (token_of (b ∷ bs)).0 } ∷ ts) (lex_inside ((token_of (b ∷ bs)).1 - 1) (suc at) bs (omega arith)
    ∙ ap (λ q. tokens_from 0 q (drop ((token_of (b ∷ bs)).1 - 1) bs)) (omega arith)))

-- ---- sizes

abbrev Sized : ℕ → TokenKind × ℕ → Type 0
Sized n r = (0 < r.1) × (r.1 ≤ n)

sized_if : (n : ℕ) (b : Bool) (r s : TokenKind × ℕ) → Sized n r → Sized n s → Sized n (cond b r s)
sized_if n true r s h k = h
sized_if n false r s h k = k

-- the test is known in the first of the two
sized_then : (n : ℕ) (b : Bool) (r s : TokenKind × ℕ) → (b ≡ true → Sized n r) → Sized n s → Sized n (cond b r s)
sized_then n true r s h k = h refl
sized_then n false r s h k = k

run_most_at : (c : Bool) (n m : ℕ) → n ≤ m → cond c (suc n) 0 ≤ suc m
run_most_at true n m le = omega arith
run_most_at false n m le = omega arith

run_most : (p : ℕ → Bool) (bs : List ℕ) → run_of p bs ≤ length bs
run_most p [] = omega arith
run_most p (b ∷ bs) = run_most_at (p b) (run_of p bs) (length bs) (run_most p bs)

run_some : (p : ℕ → Bool) (b : ℕ) (bs : List ℕ) → p b ≡ true → 0 < run_of p (b ∷ bs)
run_some p b bs h = rw h (omega arith)

word_sized : (b : ℕ) (bs : List ℕ) → is_ascii_alphabetic b ≡ true → Sized (suc (length bs)) (word_token (b ∷ bs))
word_sized b bs h =
    let n = run_of is_word_byte (b ∷ bs) in
    let some : 0 < n = run_some is_word_byte b bs (rw h refl) in
    let most : n ≤ suc (length bs) = run_most is_word_byte (b ∷ bs) in
    sized_if (suc (length bs)) (nat_le n 32) _ _ (some, most) (some, most)

fraction_at : (c : Bool) (n m : ℕ) → n ≤ m → cond c (1 + n) 0 ≤ suc m
fraction_at true n m le = omega arith
fraction_at false n m le = omega arith

fraction_most : (bs : List ℕ) → fraction_len bs ≤ length bs
fraction_most [] = omega arith
fraction_most (b ∷ bs) = fraction_at (b == 46 && not (run_of is_ascii_digit bs == 0)) (run_of is_ascii_digit bs) (length bs) (run_most is_ascii_digit bs)

number_most : (bs : List ℕ) → number_len bs ≤ length bs
number_most bs = let n = run_of is_ascii_digit bs in omega (arith, fraction_most (drop n bs), length-drop n bs, run_most is_ascii_digit bs)

number_sized : (b : ℕ) (bs : List ℕ) → is_ascii_digit b ≡ true → Sized (suc (length bs)) (number_token (b ∷ bs) (number_len (b ∷ bs)))
number_sized b bs h = (omega (arith, run_some is_ascii_digit b bs h), number_most (b ∷ bs))

quote_at : (c : Bool) (q r : QuotedText) (m : ℕ) → q.1 ≤ m → r.1 ≤ m → (b : ℕ) → (cond c (passed q) (grown b r)).1 ≤ suc m
quote_at true q r m h k b = omega arith
quote_at false q r m h k b = omega arith

quote_after : (c : Bool) (r : QuotedText) (m : ℕ) → r.1 ≤ m → (b : ℕ) → (◌≡◌ {A = ℕ} 0 0) → (cond c (grown b r) ([], 0, true)).1 ≤ suc m
quote_after true r m k b e = omega arith
quote_after false r m k b e = omega arith

quote_most : (ends : Bool) (bs : List ℕ) → (quote_of ends bs).1 ≤ length bs
quote_most true [] = omega arith
quote_most false [] = omega arith
quote_most true (b ∷ bs) = quote_after (b == 39) (quote_of false bs) (length bs) (quote_most false bs) b refl
quote_most false (b ∷ bs) = quote_at (b == 39) (quote_of true bs) (quote_of false bs) (length bs) (quote_most true bs) (quote_most false bs) b

quoted_sized : (bs : List ℕ) → Sized (suc (length bs)) (text_token bs)
quoted_sized bs =
    let q = quote_of false bs in
    let fits : (0 < q.1 + 1) × (q.1 + 1 ≤ suc (length bs)) = (omega arith, omega (arith, quote_most false bs)) in
    sized_if (suc (length bs)) (q.2 && is_utf8 q.0) _ _ fits fits

one_sized : (n : ℕ) (k : TokenKind) → Sized (suc n) (k, 1)
one_sized n k = (omega arith, omega arith)

choice_sized : (o : Option TokenKind) (rest : List ℕ) → Sized (suc (suc (length rest))) (option_token o rest)
choice_sized (Some l) rest = sized_if (suc (suc (length rest))) (begins_word rest) _ _ (omega arith, omega arith) (omega arith, omega arith)
choice_sized None rest = (omega arith, omega arith)

minus_sized : (m : ℕ) (bs : List ℕ) → Sized (suc (length bs)) (minus_token (m ∷ bs))
minus_sized m [] = (omega arith, omega arith)
minus_sized m (b ∷ bs) = sized_if (suc (suc (length bs))) (is_ascii_digit b) _ _ (omega arith, omega (arith, number_most (b ∷ bs))) (choice_sized (option_of b) bs)

-- what may take a second byte has one
second : (x : ℕ) (rest : List ℕ) (k : TokenKind) (r : TokenKind × ℕ) → Sized (suc (length rest)) r → Sized (suc (length rest)) (cond (begins x rest) (k, 2) r)
second x [] k r h = h
second x (b ∷ bs) k r h = sized_if (suc (suc (length bs))) (b == x) _ _ (omega arith, omega arith) h

symbol_sized : (b : ℕ) (rest : List ℕ) → Sized (suc (length rest)) (symbol_token b rest)
symbol_sized b rest =
    let n = suc (length rest) in
    let one = one_sized (length rest) in
    sized_if n (b == 40) _ _ (one (Fixed mark.Open))
    (sized_if n (b == 41) _ _ (one (Fixed mark.Close))
    (sized_if n (b == 44) _ _ (one (Fixed mark.Comma))
    (sized_if n (b == 46) _ _ (one (Fixed mark.Point))
    (sized_if n (b == 42) _ _ (one (Fixed mark.Star))
    (sized_if n (b == 61) _ _ (one (Fixed mark.Equal))
    (sized_if n (b == 60) _ _ (second 61 rest (Fixed mark.AtMost) _ (second 62 rest (Fixed mark.Unequal) _ (one (Fixed mark.Less))))
    (sized_if n (b == 62) _ _ (second 61 rest (Fixed mark.AtLeast) _ (one (Fixed mark.Greater)))
    (one Bad))))))))

token_sized : (b : ℕ) (bs : List ℕ) → Sized (suc (length bs)) (token_of (b ∷ bs))
unfolding token_of
token_sized b bs =
    let n = suc (length bs) in
    sized_then n (is_ascii_alphabetic b) _ _ (word_sized b bs)
    (sized_then n (is_ascii_digit b) _ _ (number_sized b bs)
    (sized_if n (b == 45) _ _ (minus_sized b bs)
    (sized_if n (b == 39) _ _ (quoted_sized bs)
    (symbol_sized b bs))))

-- ---- the loop

drop_more : (at k : ℕ) (line : List ℕ) → drop k (drop at line) ≡ drop (at + k) line
drop_more zero k line = let e : k ≡ 0 + k = omega arith in ap (λ n. drop n line) e
drop_more (suc at) k [] = drop_past [] k (omega arith) ∙ sym (drop_past [] (suc at + k) (omega arith))
drop_more (suc at) k (b ∷ bs) = let e : suc (at + k) ≡ suc at + k = omega arith in drop_more at k bs ∙ ap (λ n. drop n (b ∷ bs)) e

pub record Taken (line : List ℕ) (at : ℕ) (kind : TokenKind) (size : ℕ) : Type 0 where
  pub some : 0 < size
  pub most : at + size ≤ length line
  pub next : tokens_from 0 at (drop at line) ≡ record { place = at; kind = kind } ∷ tokens_from 0 (at + size) (drop (at + size) line)

taken_at : (line : List ℕ) (at : ℕ) → at < length line → is_blank (get_or line at 0) ≡ false → let r = token_of (get_or line at 0 ∷ drop (suc at) line) in Taken line at r.0 r.1
taken_at line at lt filled =
    let b = get_or line at 0 in
    let bs = drop (suc at) line in
    let size = (token_of (b ∷ bs)).1 in
    let sized = token_sized b bs in
    let there : suc at + (size - 1) ≡ at + size = omega (arith, sized.0) in
    let rest : drop (size - 1) bs ≡ drop (at + size) line = drop_more (suc at) (size - 1) line ∙ ap (λ n. drop n line) there in
    record {
      some = sized.0;
      most = omega (arith, sized.1, length-drop (suc at) line);
      next = ap (λ ts. tokens_from 0 at ts) (drop-cons line at 0 lt) ∙ lex_first b bs at filled sized.0 sized.1 ∙ ap (λ us. record { place = at; kind = (token_of (b ∷ bs)).0 } ∷ tokens_from 0 (at + size) us) rest;
    }

-- what `&line[at..]` is
rest_is : (at : ℕ) (line : List ℕ) → take (length line - at) (drop at line) ≡ drop at line
rest_is at line = grind (arith, common_steps)

pub taken : (line : List ℕ) (at : ℕ) (r : TokenKind × ℕ) → at < length line → is_blank (get_or line at 0) ≡ false → r ≡ token_of (take (length line - at) (drop at line)) → Taken line at r.0 r.1
taken line at r lt filled is =
    let e : r ≡ token_of (get_or line at 0 ∷ drop (suc at) line) = is ∙ ap token_of (rest_is at line ∙ drop-cons line at 0 lt) in
    rw e (taken_at line at lt filled)

not_same : (a b : ℕ) → a ≢ b → (a == b) ≡ false
not_same a b differ = grind (arith, nat_tests)

-- a token that is a symbol, if any
pub symbol_is_token : (bytes : List ℕ) → 0 < length bytes → is_ascii_alphabetic (get_or bytes 0 0) ≡ false → is_ascii_digit (get_or bytes 0 0) ≡ false → (get_or bytes 0 0 ≡ 45 → ⊥) → (get_or bytes 0 0 ≡ 39 → ⊥)
    → symbol_token (get_or bytes 0 0) (take (length bytes - 1) (drop 1 bytes)) ≡ token_of bytes
unfolding token_of
symbol_is_token [] lt letter digit minus quote = absurd (omega arith)
symbol_is_token (b ∷ bs) lt letter digit minus quote = rw (rest_is 1 (b ∷ bs), letter, digit, not_same b 45 minus, not_same b 39 quote) refl

pub lexed : (tokens front : List Token) (line : List ℕ) (at : ℕ) (kind : TokenKind) (size : ℕ) → Taken line at kind size → tokens_of line ≡ front ++ tokens_from 0 at (drop at line) → tokens ≡ front ++ record { place = at; kind = kind } ∷ []
    → tokens_of line ≡ tokens ++ tokens_from 0 (at + size) (drop (at + size) line)
lexed tokens front line at kind size t so_far pushed = so_far ∙ ap (λ ts. front ++ ts) t.next ∙ sym (append_assoc front (record { place = at; kind = kind } ∷ []) _) ∙ ap (λ ts. ts ++ tokens_from 0 (at + size) (drop (at + size) line)) (sym pushed)
