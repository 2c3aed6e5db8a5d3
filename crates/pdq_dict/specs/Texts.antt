-- Texts, their order, texts beside their key prefixes, and texts noted as they come.
use Rattle.std.specs.Prelude.{◌≡◌, ℕ, ◌<◌, ◌≤◌, List, [], ◌∷◌, ◌++◌, All, Bool, Option, Some, true, if◌then◌else◌, length, map, position, slice_get, slice_index, slice_index_or}
use Rattle.std.specs.List.{list_any}
use Rattle.std.specs.Str.{is_utf8}
use Rattle.std.specs.Ordering.{is_eq, nat_cmp, on, then_cmp}
use Rattle.std.specs.Cmp.Lexicographic.{slice_cmp}
use Rattle.std.specs.declared.cmp.Ordering.{Ordering}
use Rattle.std.specs.Global.{Vec}
use Rattle.pdq_value.specs.KeyPrefixes.{AreBytes, text_prefix}
use Rattle.pdq_dict.specs.declared.text_sets.Mark.{Mark}

-- by bytes: the first that differs decides, and a text is before each that goes on after it
abbrev pub text_cmp : List ℕ → List ℕ → Ordering
text_cmp = slice_cmp nat_cmp

abbrev pub is_text : List ℕ → List ℕ → Bool
is_text a b = is_eq (text_cmp a b)

-- the texts after one more: a text that is there stays in its place, a new one goes last
unfoldable pub noted : List (List ℕ) → List ℕ → List (List ℕ)
noted texts t = if list_any (is_text t) texts then texts else texts ++ t ∷ []

-- the number of a text that was noted: its place
abbrev pub number_of : List (List ℕ) → List ℕ → Option ℕ
number_of texts text = position (is_text text) texts

abbrev pub IsUtf8Text : List ℕ → Type 0
IsUtf8Text text = is_utf8 text ≡ true

-- a text and what stands beside it
abbrev pub Entry : Type 0
Entry = Vec ℕ × Mark

abbrev pub text_at_entry : Entry → List ℕ
text_at_entry e = e.0.items

abbrev pub number_at_entry : Entry → ℕ
number_at_entry e = e.1.number

abbrev pub numbers_of : List Entry → List ℕ
numbers_of entries = map number_at_entry entries

-- a text beside its key prefix
pub record IsMarked (e : Entry) : Type 0 where
  pub prefix : e.1.prefix ≡ text_prefix e.0.items
  pub bytes : AreBytes e.0.items
  pub utf8 : IsUtf8Text e.0.items

abbrev pub mark_at_entry : Entry → Mark
mark_at_entry e = e.1

-- the text that a mark is of, among texts by their numbers
abbrev pub text_of_mark : List (List ℕ) → Mark → List ℕ
text_of_mark texts m = slice_index_or texts m.number []

-- a mark of one of these texts
pub record IsMarkOf (texts : List (List ℕ)) (m : Mark) : Type 0 where
  pub prefix : m.prefix ≡ text_prefix (text_of_mark texts m)
  pub bytes : AreBytes (text_of_mark texts m)
  pub there : m.number < length texts

-- by key prefixes, and by texts where those tie
unfoldable pub marks_cmp : List (List ℕ) → Mark → Mark → Ordering
marks_cmp texts = then_cmp (on (λ (m : Mark). m.prefix) nat_cmp) (on (text_of_mark texts) text_cmp)

-- each text has its place as its number
abbrev pub IsNumbered : List Entry → Type 0
IsNumbered entries = (k : ℕ) → k < length entries → slice_get (numbers_of entries) k ≡ Some k

-- the most texts that are noted, as many as a database has cells
abbrev pub text_limit : ℕ
text_limit = 32000000

-- what notes always are
pub record AreNotes (entries : List Entry) : Type 0 where
  pub marked : All IsMarked entries
  pub numbered : IsNumbered entries
  pub few : length entries ≤ text_limit

-- a mark has a number below this one
abbrev pub IsBelow : ℕ → Mark → Type 0
IsBelow n m = m.number < n

abbrev pub number_at_mark : Mark → ℕ
number_at_mark m = m.number

-- the texts of the first k marks stand, by the place that their numbers have here, where the texts with those numbers say
abbrev pub AreCodesBelow : ℕ → List Mark → List ℕ → Type 0
AreCodesBelow k marks places = (texts : List (List ℕ)) → All (IsBelow (length texts)) marks → (j n : ℕ) → j < k → slice_get (map number_at_mark marks) j ≡ Some n →
    slice_get (map (text_of_mark texts) marks) (slice_index places n) ≡ slice_get texts n
