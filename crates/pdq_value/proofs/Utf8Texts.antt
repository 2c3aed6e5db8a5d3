-- What a raw cell of UTF-8 says is UTF-8.
use Rattle.std.proofs.Common.{ℕ, zero, suc, ◌≡◌, ◌<◌, ◌≤◌, ◌∙◌, Bool, true, false, cond, List, [], ◌∷◌, ◌++◌, length, get_or, refl, ap, sym, subst, arith, append-nil, Option, Some, None, inl, inr}
use Rattle.std.specs.Prelude.{⊤, ◌⊎◌, ◌==◌, ◌&&◌, option_map}
use Rattle.std.specs.Str.{IsAscii, IsUtf8, is_utf8}
use Rattle.std.proofs.Math.Utf8.{encode, encodes, scalar, scalars}
use Rattle.std.proofs.lemmas.Bool.{cases_lt, false≢true}
use Rattle.std.proofs.lemmas.Bool.Decides.{nat_tests}
use Rattle.std.proofs.lemmas.Str.{IsUtf8-append, IsUtf8-from_ascii, IsUtf8-from_is_utf8, IsUtf8-nil, encode_ascii, inside_one, length-encode, len_utf8_bounds, is_utf8-from_IsUtf8}
use Rattle.pdq_value.specs.RowLines.{backslash, before_text, escaped_byte, plain_text, plain_text_after}

-- the text, where there is one, is UTF-8
abbrev IsGood : Option (List ℕ) → Type 0
IsGood None = ⊤
IsGood (Some text) = IsUtf8 text

ascii_one : (b : ℕ) → b < 128 → IsAscii (b ∷ [])
ascii_one b low zero = low
ascii_one b low (suc i) = omega arith

pub one_byte : (b : ℕ) → b < 128 → IsUtf8 (b ∷ [])
one_byte b low = IsUtf8-from_ascii (b ∷ []) (ascii_one b low)

pub one_char : (c : ℕ) → scalar c ≡ true → IsUtf8 (encode c)
one_char c is_scalar = (c ∷ [], (rw is_scalar refl, append-nil (encode c)))

-- each of these bytes is beyond ASCII
abbrev pub AreHigh : List ℕ → Type 0
AreHigh [] = ⊤
AreHigh (b ∷ bytes) = (128 ≤ b) × AreHigh bytes

high_from_places : (bytes : List ℕ) → ((k : ℕ) → k < length bytes → 128 ≤ get_or bytes k 0) → AreHigh bytes
high_from_places [] each = tt
high_from_places (b ∷ bytes) each = (each 0 (omega arith), high_from_places bytes (λ k less. each (suc k) (omega (arith, less))))

not_low : (c b : ℕ) → 128 ≤ c → (b < 128 → c ≡ b) → (b < 128) ⊎ (128 ≤ b) → 128 ≤ b
not_low c b high one (inl low) = absurd (omega (arith, high, low, one low))
not_low c b high one (inr h) = h

-- each byte of a character beyond ASCII is
pub high_bytes : (c : ℕ) → 128 ≤ c → AreHigh (encode c)
high_bytes c high = high_from_places (encode c) (λ k within. not_low c (get_or (encode c) k 0) high (inside_one c [] (encode c) k (sym (append-nil (encode c))) within) (cases_lt (get_or (encode c) k 0) 128))

pub is_other : (b n : ℕ) → n < 128 → 128 ≤ b → (b == n) ≡ false
is_other b n low high = grind (arith, nat_tests, low, high)

map_map : (b : ℕ) (xs : List ℕ) (text : Option (List ℕ)) → before_text (Some b) (option_map (λ t. xs ++ t) text) ≡ option_map (λ t. (b ∷ xs) ++ t) text
map_map b xs None = refl
map_map b xs (Some t) = refl

map_none : (text : Option (List ℕ)) → text ≡ option_map (λ t. [] ++ t) text
map_none None = refl
map_none (Some t) = refl

-- bytes beyond ASCII stand for themselves
high_text : (xs rest : List ℕ) → AreHigh xs → plain_text_after false (xs ++ rest) ≡ option_map (λ t. xs ++ t) (plain_text_after false rest)
unfolding plain_text_after
high_text [] rest high = map_none (plain_text_after false rest)
high_text (b ∷ xs) rest high = rw (is_other b backslash (omega arith) high.0) (ap (before_text (Some b)) (high_text xs rest high.1) ∙ map_map b xs (plain_text_after false rest))

-- no such byte stands behind a backslash
none_escaped : (b : ℕ) → 128 ≤ b → escaped_byte b ≡ None
none_escaped b high = rw (is_other b 92 (omega arith) high, is_other b 124 (omega arith) high, is_other b 110 (omega arith) high, is_other b 114 (omega arith) high) refl

high_escaped : (xs rest : List ℕ) → 0 < length xs → AreHigh xs → plain_text_after true (xs ++ rest) ≡ None
unfolding plain_text_after
high_escaped [] rest some high = absurd (omega (arith, some))
high_escaped (b ∷ xs) rest some high = rw (none_escaped b high.0) refl

before_good : (xs : List ℕ) (text : Option (List ℕ)) → IsUtf8 xs → IsGood text → IsGood (option_map (λ t. xs ++ t) text)
before_good xs None h k = tt
before_good xs (Some t) h k = IsUtf8-append xs t h k

byte_good : (b : ℕ) (text : Option (List ℕ)) → b < 128 → IsGood text → IsGood (before_text (Some b) text)
byte_good b None low k = tt
byte_good b (Some t) low k = IsUtf8-append (b ∷ []) t (one_byte b low) k

if_good : (test : Bool) (x y : Option (List ℕ)) → IsGood x → IsGood y → IsGood (cond test x y)
if_good true x y h k = h
if_good false x y h k = k

option_good : (test : Bool) (b : ℕ) (o : Option ℕ) (text : Option (List ℕ)) → b < 128 → IsGood text → IsGood (before_text o text) → IsGood (before_text (cond test (Some b) o) text)
option_good true b o text low h k = byte_good b text low h
option_good false b o text low h k = k

escaped_good : (b : ℕ) (text : Option (List ℕ)) → IsGood text → IsGood (before_text (escaped_byte b) text)
escaped_good b text h = option_good (b == 92) 92 _ text (omega arith) h (option_good (b == 124) 124 _ text (omega arith) h (option_good (b == 110) 10 _ text (omega arith) h (option_good (b == 114) 13 None text (omega arith) h tt)))

pub scalar_head : (a b : Bool) → (a && b) ≡ true → (a ≡ true) × (b ≡ true)
scalar_head true b e = (refl, e)
scalar_head false b e = absurd (false≢true e)

some_byte : (c : ℕ) → 0 < length (encode c)
some_byte c = omega (arith, length-encode c, (len_utf8_bounds c).0)

one_low : (c : ℕ) (rest : List ℕ) (taken : Bool) → c < 128 → IsGood (plain_text_after true rest) → IsGood (plain_text_after false rest) → IsGood (plain_text_after taken (c ∷ rest))
unfolding plain_text_after
one_low c rest true low h k = escaped_good c _ k
one_low c rest false low h k = if_good (c == backslash) _ _ h (byte_good c _ low k)

one_high : (c : ℕ) (rest : List ℕ) (taken : Bool) → scalar c ≡ true → 128 ≤ c → IsGood (plain_text_after false rest) → IsGood (plain_text_after taken (encode c ++ rest))
one_high c rest true is_scalar high k = subst IsGood (sym (high_escaped (encode c) rest (some_byte c) (high_bytes c high))) tt
one_high c rest false is_scalar high k = subst IsGood (sym (high_text (encode c) rest (high_bytes c high))) (before_good (encode c) _ (one_char c is_scalar) k)

one : (c : ℕ) (rest : List ℕ) (taken : Bool) → scalar c ≡ true → (c < 128) ⊎ (128 ≤ c) → IsGood (plain_text_after true rest) → IsGood (plain_text_after false rest) → IsGood (plain_text_after taken (encode c ++ rest))
one c rest taken is_scalar (inl low) h k = subst (λ xs. IsGood (plain_text_after taken (xs ++ rest))) (sym (encode_ascii c low)) (one_low c rest taken low h k)
one c rest taken is_scalar (inr high) h k = one_high c rest taken is_scalar high k

no_text : (taken : Bool) → IsGood (plain_text_after taken [])
unfolding plain_text_after
no_text true = tt
no_text false = IsUtf8-nil

chars_good : (cs : List ℕ) (taken : Bool) → scalars cs ≡ true → IsGood (plain_text_after taken (encodes cs))
chars_good [] taken are_scalars = no_text taken
chars_good (c ∷ cs) taken are_scalars = let t = scalar_head (scalar c) (scalars cs) are_scalars in one c (encodes cs) taken t.0 (cases_lt c 128) (chars_good cs true t.1) (chars_good cs false t.1)

-- the text of a cell that is UTF-8 is UTF-8
pub plain_text-is_utf8 : (cell text : List ℕ) → is_utf8 cell ≡ true → plain_text cell ≡ Some text → is_utf8 text ≡ true
plain_text-is_utf8 cell text good says =
    let u = IsUtf8-from_is_utf8 cell good in
    is_utf8-from_IsUtf8 text (subst IsGood says (subst (λ xs. IsGood (plain_text_after false xs)) u.1.1 (chars_good u.0 false u.1.0)))

pub says_utf8 : (cell text : List ℕ) → is_utf8 cell ≡ true → plain_text cell ≡ Some text → is_utf8 text ≡ true
says_utf8 = plain_text-is_utf8

pub utf8_decided : (bytes : List ℕ) → IsUtf8 bytes → is_utf8 bytes ≡ true
utf8_decided bytes h = is_utf8-from_IsUtf8 bytes h
