-- How a row line is cut into raw cells, and what a raw cell says.
use Rattle.std.specs.Prelude.{ℕ, List, [], ◌∷◌, Bool, true, false, ◌==◌, if◌then◌else◌, Option, None, Some, option_map, codes}

-- the byte before which another means itself or a control byte, and the byte between cells
abbrev pub backslash : ℕ
backslash = 92

abbrev pub bar : ℕ
bar = 124

-- `\N`, which stands for nothing where it is a whole cell
abbrev pub nothing_text : List ℕ
nothing_text = codes "\\N"

-- the cells with one more byte at the beginning of the first
abbrev pub before_first : ℕ → List (List ℕ) → List (List ℕ)
before_first b [] = (b ∷ []) ∷ []
before_first b (cell ∷ cells) = (b ∷ cell) ∷ cells

-- the raw cells of what follows a backslash that takes the next byte with it, or no such one
unfoldable pub raw_cells_after : Bool → List ℕ → List (List ℕ)
raw_cells_after taken [] = [] ∷ []
raw_cells_after true (b ∷ bytes) = before_first b (raw_cells_after false bytes)
raw_cells_after false (b ∷ bytes) =
    if b == bar then [] ∷ raw_cells_after false bytes else before_first b (raw_cells_after (b == backslash) bytes)

-- a cell ends at each bar that no backslash takes; a backslash takes the next byte, whatever it is
abbrev pub raw_cells : List ℕ → List (List ℕ)
raw_cells bytes = raw_cells_after false bytes

-- what a byte after a backslash stands for
abbrev pub escaped_byte : ℕ → Option ℕ
escaped_byte b =
    if b == backslash then Some backslash
    else (if b == bar then Some bar else (if b == 110 then Some 10 else (if b == 114 then Some 13 else None)))

-- a text with one more byte at its beginning, where there are both
abbrev pub before_text : Option ℕ → Option (List ℕ) → Option (List ℕ)
before_text None text = None
before_text (Some b) text = option_map (λ bytes. b ∷ bytes) text

-- the text of what follows a backslash, or none
unfoldable pub plain_text_after : Bool → List ℕ → Option (List ℕ)
plain_text_after true [] = None
plain_text_after true (b ∷ bytes) = before_text (escaped_byte b) (plain_text_after false bytes)
plain_text_after false [] = Some []
plain_text_after false (b ∷ bytes) =
    if b == backslash then plain_text_after true bytes else before_text (Some b) (plain_text_after false bytes)

-- the text that a raw cell says: `\\`, `\|`, `\n` and `\r` stand for a backslash, a bar, byte 10 and byte 13;
-- a backslash before another byte, or before none, is wrong
abbrev pub plain_text : List ℕ → Option (List ℕ)
plain_text bytes = plain_text_after false bytes
