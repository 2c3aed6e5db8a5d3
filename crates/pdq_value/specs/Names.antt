-- The names that tables and columns can have.
use Rattle.std.specs.Prelude.{ℕ, List, [], ◌∷◌, Bool, false, not, ◌&&◌, ◌||◌, ◌==◌, nat_le, length, codes}
use Rattle.std.specs.List.{list_all, list_any}
use Rattle.std.specs.Str.{bytes_eq}

-- a to z
abbrev pub is_lower : ℕ → Bool
is_lower b = nat_le 97 b && nat_le b 122

-- a to z, 0 to 9, or _
abbrev pub is_name_byte : ℕ → Bool
is_name_byte b = is_lower b || (nat_le 48 b && nat_le b 57) || b == 95

abbrev pub begins_lower : List ℕ → Bool
begins_lower [] = false
begins_lower (b ∷ bytes) = is_lower b

-- the words of the language, which are no names
abbrev pub reserved_words : List (List ℕ)
reserved_words =
    codes "select" ∷ codes "from" ∷ codes "where" ∷ codes "and" ∷ codes "group" ∷ codes "order" ∷ codes "by" ∷ codes "asc"
    ∷ codes "desc" ∷ codes "sum" ∷ codes "avg" ∷ codes "min" ∷ codes "max" ∷ codes "count" ∷ []

abbrev pub is_reserved : List ℕ → Bool
is_reserved word = list_any (bytes_eq word) reserved_words

-- a letter, then letters, digits and _, in lower case, at most 32 bytes, and no word of the language
unfoldable pub is_name : List ℕ → Bool
is_name bytes = begins_lower bytes && list_all is_name_byte bytes && nat_le (length bytes) 32 && not (is_reserved bytes)
