-- Number texts: an optional `-`, one or more digits, and optionally `.` and one or more digits, and nothing else.
-- Decimals past the scale are zeros.
use Rattle.std.specs.Prelude.{◌↔◌, ◌≡◌, ◌<◌, ◌≤◌, All, ℕ, zero, suc, ◌/◌, ◌%◌, int_lt, nat_abs, decimal, ◌+◌, ◌-◌, ◌*◌, ◌^◌, List, [], ◌∷◌, ◌++◌, Bool, not, ◌&&◌, ◌==◌, nat_lt, if◌then◌else◌, ℤ, pos, neg_ℤ, Option, None, Some, Result, Ok, Err, codes, length, take, drop, replicate, slice_index, slice_range}
use Rattle.std.specs.Char.{is_ascii_digit}
use Rattle.std.specs.List.{prefix_len}
use Rattle.pdq_value.specs.declared.numbers.NumberFault.{NumberFault}
use Rattle.pdq_value.specs.declared.numbers.NumberFault.TheVariants.{BadNumber, TooLarge}

abbrev pub minus_sign : ℕ
minus_sign = 45

abbrev pub decimal_point : ℕ
decimal_point = 46

abbrev pub digit_zero : ℕ
digit_zero = 48

abbrev pub is_negative : List ℕ → Bool
is_negative text = nat_lt 0 (length text) && slice_index text 0 == minus_sign

-- where the whole part begins
abbrev pub whole_begin : List ℕ → ℕ
whole_begin text = if is_negative text then 1 else 0

-- where the digits that begin at this place end
abbrev pub digits_end : List ℕ → ℕ → ℕ
digits_end text start = start + prefix_len is_ascii_digit (drop start text)

-- where the whole part ends
abbrev pub whole_end : List ℕ → ℕ
whole_end text = digits_end text (whole_begin text)

abbrev pub decimals_of : List ℕ → List ℕ
decimals_of text = drop (whole_end text + 1) text

-- how many decimals are as they must be: digits up to the scale, and then zeros
abbrev pub good_decimals : ℕ → List ℕ → ℕ
good_decimals scale [] = 0
good_decimals scale (b ∷ bytes) =
    if (if nat_lt 0 scale then is_ascii_digit b else b == digit_zero) then 1 + good_decimals (scale - 1) bytes else 0

-- the place of the first byte that breaks the rules, the text's length where it ends too early; None where it is a number text
unfoldable pub bad_place : ℕ → List ℕ → Option ℕ
bad_place scale text =
    let end = whole_end text in
    let good = good_decimals scale (decimals_of text) in
    if end == whole_begin text then Some end
    else (if end == length text then None
    else (if not (slice_index text end == decimal_point) then Some end
    else (if nat_lt 0 good && (end + 1 + good) == length text then None else Some (end + 1 + good))))

-- the number that digits say after those that say n
abbrev pub number_after : ℕ → List ℕ → ℕ
number_after n [] = n
number_after n (b ∷ bytes) = number_after (10 * n + (b - digit_zero)) bytes

-- the digits of the whole part and then as many decimals as the scale has
abbrev pub digits_of : ℕ → List ℕ → List ℕ
digits_of scale text =
    slice_range text (whole_begin text) (whole_end text) ++ take scale (decimals_of text ++ replicate scale digit_zero)

-- the size of the number in units of its last decimal place
unfoldable pub magnitude_of : ℕ → List ℕ → ℕ
magnitude_of scale text = number_after 0 (digits_of scale text)

unfoldable pub signed_magnitude : ℕ → List ℕ → ℤ
signed_magnitude scale text = if is_negative text then neg_ℤ (pos (magnitude_of scale text)) else pos (magnitude_of scale text)

-- the number that a text says, however large; None where it is no number text
abbrev pub number_of_text : ℕ → List ℕ → Option ℤ
number_of_text scale text = if_good (bad_place scale text) where
  if_good : Option ℕ → Option ℤ
  if_good (Some place) = None
  if_good None = Some (signed_magnitude scale text)

-- a value of a table: below 10^18 in magnitude
unfoldable pub number_read : List ℕ → ℕ → Result ℤ NumberFault
number_read text scale = if_good (bad_place scale text) where
  if_good : Option ℕ → Result ℤ NumberFault
  if_good (Some place) = Err (BadNumber place)
  if_good None = if nat_lt (magnitude_of scale text) (10 ^ 18) then Ok (signed_magnitude scale text) else Err TooLarge

-- the last so many digits of a number, with zeros in front where it has fewer
unfoldable pub last_digits : ℕ → ℕ → List ℕ
last_digits zero n = []
last_digits (suc count) n = last_digits count (n / 10) ++ (digit_zero + n % 10) ∷ []

abbrev pub sign_text : ℤ → List ℕ
sign_text number = if int_lt number (pos 0) then codes "-" else []

-- nothing at scale 0
abbrev pub decimals_text : ℕ → ℕ → List ℕ
decimals_text magnitude scale = if scale == 0 then [] else decimal_point ∷ last_digits scale magnitude

-- a number in units of the last of `scale` decimal places, as it is printed
unfoldable pub number_text : ℤ → ℕ → List ℕ
number_text number scale =
    sign_text number ++ decimal (nat_abs number / 10 ^ scale) ++ decimals_text (nat_abs number) scale

abbrev pub IsDigit : ℕ → Type 0
IsDigit b = (48 ≤ b) × (b ≤ 57)

-- a text that says this number: a sign or none, the whole part, and the decimals behind a point, where there are any
pub record IsNumberText (scale : ℕ) (text : List ℕ) (number : ℤ) : Type 0 where
  pub negative : Bool
  pub whole : List ℕ
  pub decimals : List ℕ
  pub parts : text ≡ (if negative then minus_sign ∷ [] else []) ++ whole ++ (if nat_lt 0 (length decimals) then decimal_point ∷ decimals else [])
  pub some_digit : 0 < length whole
  pub digits : All IsDigit whole
  pub decimal_digits : All IsDigit decimals
  -- past the scale
  pub zeros : All (λ b. b ≡ digit_zero) (drop scale decimals)
  pub value : number ≡ (let size = number_after 0 (whole ++ take scale (decimals ++ replicate scale digit_zero)) in if negative then neg_ℤ (pos size) else pos size)

-- a value of a table is read exactly where the text says it and it is small enough
abbrev pub NumberTextsAreRead : Type 0
NumberTextsAreRead = (scale : ℕ) (text : List ℕ) (number : ℤ) → (number_read text scale ≡ Ok number) ↔ (IsNumberText scale text number × (nat_abs number < 10 ^ 18))

-- a number text is too large exactly where its number is
abbrev pub LargeNumbersAreRefused : Type 0
LargeNumbersAreRefused = (scale : ℕ) (text : List ℕ) → (number_read text scale ≡ Err TooLarge) ↔ ((number : ℤ) × IsNumberText scale text number × (10 ^ 18 ≤ nat_abs number))

-- with some bytes behind it, it is a number text
abbrev pub MayBecomeNumber : ℕ → List ℕ → Type 0
MayBecomeNumber scale text = (more : List ℕ) × (number : ℤ) × IsNumberText scale (text ++ more) number

-- what stands before the place may still become a number text, and with the byte there it no longer may; a text that ends there is none
pub record IsBadPlace (scale : ℕ) (text : List ℕ) (place : ℕ) : Type 0 where
  pub within : place ≤ length text
  pub good_before : MayBecomeNumber scale (take place text)
  pub bad_there : place < length text → MayBecomeNumber scale (take (place + 1) text) → ⊥
  pub no_number : (number : ℤ) → IsNumberText scale text number → ⊥

-- every other text is bad at the first place from which on it cannot become a number text
abbrev pub BadNumbersAreRefused : Type 0
BadNumbersAreRefused = (scale : ℕ) (text : List ℕ) (place : ℕ) → (number_read text scale ≡ Err (BadNumber place)) ↔ IsBadPlace scale text place

-- what is printed of a value of a table is read back as the value
abbrev pub NumberTextsReadBack : Type 0
NumberTextsReadBack = (number : ℤ) (scale : ℕ) → nat_abs number < 10 ^ 18 → number_read (number_text number scale) scale ≡ Ok number

-- a text says a number, however large, exactly where the definition finds it
abbrev pub NumberTextsSayNumbers : Type 0
NumberTextsSayNumbers = (scale : ℕ) (text : List ℕ) (number : ℤ) → (number_of_text scale text ≡ Some number) ↔ IsNumberText scale text number

-- what is printed of a number of 128 bits, as a sum is, says the number
abbrev pub PrintedNumbersSayThemselves : Type 0
PrintedNumbersSayThemselves = (number : ℤ) (scale : ℕ) → nat_abs number < 2 ^ 128 → number_of_text scale (number_text number scale) ≡ Some number
