-- The reserved words of names are the marks of the grammar that are words.
use Rattle.std.proofs.Common.{◌≡◌, ℕ, List, [], ◌∷◌, Bool, true, false, ◌||◌, cond, Option, Some, None, is_some, map, refl, codes}
use Rattle.std.specs.List.{list_any}
use Rattle.std.specs.Str.{bytes_eq}
use Rattle.pdq_value.specs.Names.{is_reserved}
use Rattle.pdq_sql.specs.declared.tokens.Mark.{Mark}
use Rattle.pdq_sql.specs.declared.tokens.Mark.TheVariants as mark
use Rattle.pdq_sql.specs.Tokens.{reserved_of}

abbrev Entry : Type 0
Entry = List ℕ × Mark

abbrev word_of : Entry → List ℕ
word_of e = e.0

-- the mark of the first entry with this word
abbrev mark_in : List ℕ → List Entry → Option Mark
mark_in word [] = None
mark_in word (e ∷ es) = cond (bytes_eq word (word_of e)) (Some e.1) (mark_in word es)

one : (b : Bool) (m : Mark) (rest : Bool) (later : Option Mark) → rest ≡ is_some later → (b || rest) ≡ is_some (cond b (Some m) later)
one true m rest later e = refl
one false m rest later e = e

found : (word : List ℕ) (es : List Entry) → list_any (bytes_eq word) (map word_of es) ≡ is_some (mark_in word es)
found word [] = refl
found word (e ∷ es) = one (bytes_eq word (word_of e)) e.1 (list_any (bytes_eq word) (map word_of es)) (mark_in word es) (found word es)

abbrev entries : List Entry
entries =
    (codes "select", mark.Select) ∷ (codes "from", mark.From) ∷ (codes "where", mark.Where) ∷ (codes "and", mark.And) ∷ (codes "group", mark.Group)
    ∷ (codes "order", mark.Order) ∷ (codes "by", mark.By) ∷ (codes "asc", mark.Asc) ∷ (codes "desc", mark.Desc) ∷ (codes "sum", mark.Sum)
    ∷ (codes "avg", mark.Avg) ∷ (codes "min", mark.Min) ∷ (codes "max", mark.Max) ∷ (codes "count", mark.Count) ∷ []

pub reserved_words_are_marks : (word : List ℕ) → is_reserved word ≡ is_some (reserved_of word)
reserved_words_are_marks word = found word entries
