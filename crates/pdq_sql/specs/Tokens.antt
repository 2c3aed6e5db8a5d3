-- Bytes into tokens, the longest token first. A token function gives the token at the front, and how many bytes it takes.
use Rattle.std.specs.Prelude.{ℕ, zero, suc, ◌+◌, ◌-◌, ◌*◌, length, min, option_map, List, [], ◌∷◌, take, drop, map, Option, Some, None, Bool, true, false, not, ◌&&◌, ◌||◌, ◌==◌, nat_le, if◌then◌else◌, codes}
use Rattle.std.specs.Char.{is_ascii_alphabetic, is_ascii_digit, to_ascii_lowercase}
use Rattle.std.specs.Str.{is_utf8, bytes_eq}
use Rattle.pdq_base.specs.Lines.{is_blank}
use Rattle.pdq_query.specs.declared.query.Compare.{Compare}
use Rattle.pdq_query.specs.declared.query.Compare.TheVariants.{Eq, Ne, Lt, Le, Gt, Ge}
use Rattle.pdq_sql.specs.declared.tokens.Mark.{Mark}
use Rattle.pdq_sql.specs.declared.tokens.Mark.TheVariants as mark
use Rattle.pdq_sql.specs.declared.commands.Letter.TheVariants as letter
use Rattle.pdq_sql.specs.declared.tokens.TokenKind.{TokenKind}
use Rattle.pdq_sql.specs.declared.tokens.TokenKind.TheVariants.{Fixed, Word, Number, Quoted, Switch, Bad}
use Rattle.pdq_sql.specs.declared.tokens.Token.{Token}

-- a letter, a digit or _
abbrev pub is_word_byte : ℕ → Bool
is_word_byte b = is_ascii_alphabetic b || is_ascii_digit b || b == 95

-- how many bytes at the front pass the test
abbrev pub run_of : (ℕ → Bool) → List ℕ → ℕ
run_of p [] = 0
run_of p (b ∷ bs) = if p b then suc (run_of p bs) else 0

abbrev pub lowered : List ℕ → List ℕ
lowered = map to_ascii_lowercase

-- the reserved word that a word is
abbrev pub reserved_of : List ℕ → Option Mark
reserved_of w =
    if bytes_eq w (codes "select") then Some mark.Select
    else (if bytes_eq w (codes "from") then Some mark.From
    else (if bytes_eq w (codes "where") then Some mark.Where
    else (if bytes_eq w (codes "and") then Some mark.And
    else (if bytes_eq w (codes "group") then Some mark.Group
    else (if bytes_eq w (codes "order") then Some mark.Order
    else (if bytes_eq w (codes "by") then Some mark.By
    else (if bytes_eq w (codes "asc") then Some mark.Asc
    else (if bytes_eq w (codes "desc") then Some mark.Desc
    else (if bytes_eq w (codes "sum") then Some mark.Sum
    else (if bytes_eq w (codes "avg") then Some mark.Avg
    else (if bytes_eq w (codes "min") then Some mark.Min
    else (if bytes_eq w (codes "max") then Some mark.Max
    else (if bytes_eq w (codes "count") then Some mark.Count
    else None)))))))))))))

-- a reserved word, or another
abbrev pub word_kind : Option Mark → List ℕ → TokenKind
word_kind (Some m) w = Fixed m
word_kind None w = Word w

-- a word, in lower case; one of more than 32 bytes is bad
abbrev pub word_token : List ℕ → TokenKind × ℕ
word_token bytes =
    let n = run_of is_word_byte bytes in
    let w = lowered (take n bytes) in
    if nat_le n 32 then (word_kind (reserved_of w) w, n) else (Bad, n)

-- how many bytes a point takes with the digits behind it; without these it is no part of the number
abbrev pub fraction_len : List ℕ → ℕ
fraction_len [] = 0
fraction_len (b ∷ bs) = let m = run_of is_ascii_digit bs in if b == 46 && not (m == 0) then 1 + m else 0

-- how many bytes a number without its sign takes
abbrev pub number_len : List ℕ → ℕ
number_len bytes = let n = run_of is_ascii_digit bytes in n + fraction_len (drop n bytes)

-- the number of n bytes
abbrev pub number_token : List ℕ → ℕ → TokenKind × ℕ
number_token bytes n = (Number (take n bytes), n)

-- a text, how many bytes it takes, and whether it ends
abbrev pub QuotedText : Type 0
QuotedText = List ℕ × ℕ × Bool

abbrev pub grown : ℕ → QuotedText → QuotedText
grown b q = (b ∷ q.0, suc q.1, q.2)

abbrev pub passed : QuotedText → QuotedText
passed q = (q.0, suc q.1, q.2)

-- what stands behind a quote: two quotes stand for one. The flag is whether the byte before was a quote that may be the last
abbrev pub quote_of : Bool → List ℕ → QuotedText
quote_of ends [] = ([], 0, ends)
quote_of true (b ∷ bs) = if b == 39 then grown b (quote_of false bs) else ([], 0, true)
quote_of false (b ∷ bs) = if b == 39 then passed (quote_of true bs) else grown b (quote_of false bs)

-- the text behind a quote: one that does not end, or is not UTF-8, is bad
abbrev pub text_token : List ℕ → TokenKind × ℕ
text_token bytes = let q = quote_of false bytes in if q.2 && is_utf8 q.0 then (Quoted q.0, q.1 + 1) else (Bad, q.1 + 1)

-- the option that a letter makes behind a minus: D, M, Q, S, N or g
abbrev pub option_of : ℕ → Option TokenKind
option_of b =
    if b == 68 then Some (Switch letter.D)
    else (if b == 77 then Some (Switch letter.M)
    else (if b == 81 then Some (Switch letter.Q)
    else (if b == 83 then Some (Switch letter.S)
    else (if b == 78 then Some (Switch letter.N)
    else (if b == 103 then Some (Fixed mark.Statistics)
    else None)))))

abbrev pub begins_word : List ℕ → Bool
begins_word [] = false
begins_word (b ∷ bs) = is_word_byte b

-- an option; where a letter, a digit or _ follows it is bad
abbrev pub option_token : Option TokenKind → List ℕ → TokenKind × ℕ
option_token (Some option) rest = if begins_word rest then (Bad, 1) else (option, 2)
option_token None rest = (Bad, 1)

-- a minus, and what it begins: a number, an option, or nothing
abbrev pub minus_token : List ℕ → TokenKind × ℕ
minus_token [] = (Bad, 1)
minus_token (m ∷ []) = (Bad, 1)
minus_token (m ∷ b ∷ bs) = if is_ascii_digit b then number_token (m ∷ b ∷ bs) (number_len (b ∷ bs) + 1) else option_token (option_of b) bs

abbrev pub begins : ℕ → List ℕ → Bool
begins x [] = false
begins x (b ∷ bs) = b == x

-- one of ( ) , . * = <= <> < >= >
abbrev pub symbol_token : ℕ → List ℕ → TokenKind × ℕ
symbol_token b rest =
    if b == 40 then (Fixed mark.Open, 1)
    else (if b == 41 then (Fixed mark.Close, 1)
    else (if b == 44 then (Fixed mark.Comma, 1)
    else (if b == 46 then (Fixed mark.Point, 1)
    else (if b == 42 then (Fixed mark.Star, 1)
    else (if b == 61 then (Fixed mark.Equal, 1)
    else (if b == 60 then (if begins 61 rest then (Fixed mark.AtMost, 2) else (if begins 62 rest then (Fixed mark.Unequal, 2) else (Fixed mark.Less, 1)))
    else (if b == 62 then (if begins 61 rest then (Fixed mark.AtLeast, 2) else (Fixed mark.Greater, 1))
    else (Bad, 1))))))))

-- the token at the front: 45 is a minus, 39 a quote
unfoldable pub token_of : List ℕ → TokenKind × ℕ
token_of [] = (Bad, 1)
token_of (b ∷ bs) =
    if is_ascii_alphabetic b then word_token (b ∷ bs)
    else (if is_ascii_digit b then number_token (b ∷ bs) (number_len (b ∷ bs))
    else (if b == 45 then minus_token (b ∷ bs)
    else (if b == 39 then text_token bs
    else symbol_token b bs)))

-- The tokens from a place on, with the end as the last. The first number says how many bytes at the front are still of the token before.
unfoldable pub tokens_from : ℕ → ℕ → List ℕ → List Token
tokens_from inside place [] = record { place = place; kind = Fixed mark.End } ∷ []
tokens_from (suc inside) place (b ∷ bs) = tokens_from inside (suc place) bs
tokens_from zero place (b ∷ bs) =
    if is_blank b then tokens_from zero (suc place) bs
    else record { place = place; kind = (token_of (b ∷ bs)).0 } ∷ tokens_from ((token_of (b ∷ bs)).1 - 1) (suc place) bs

abbrev pub tokens_of : List ℕ → List Token
tokens_of line = tokens_from 0 0 line

-- ---- what tokens stand for

-- the place of the first token
abbrev pub place_at : List Token → ℕ
place_at [] = 0
place_at (t ∷ ts) = t.place

-- the comparison that a mark is
abbrev pub comparison : Mark → Option Compare
comparison mark.Equal = Some Eq
comparison mark.Unequal = Some Ne
comparison mark.Less = Some Lt
comparison mark.AtMost = Some Le
comparison mark.Greater = Some Gt
comparison mark.AtLeast = Some Ge
comparison m = None

-- the value of digits after those that gave acc
abbrev pub digits : ℕ → List ℕ → Option ℕ
digits acc [] = Some acc
digits acc (d ∷ ds) = if is_ascii_digit d then digits (acc * 10 + (d - 48)) ds else None

-- the value of one to ten digits alone, at most 4294967295
abbrev pub int_of : List ℕ → Option ℕ
int_of bytes = if nat_le 1 (length bytes) && nat_le (length bytes) 10 then option_map (min 4294967295) (digits 0 bytes) else None
