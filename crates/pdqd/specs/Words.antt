-- The words of the command line, and the forms that they can have.
use Rattle.std.specs.Prelude.{ℕ, ◌≡◌, ◌≤◌, List, [], ◌∷◌, Bool, not, ◌&&◌, ◌==◌, codes, nat_eq, nat_lt, nat_le, if◌then◌else◌, Option, Some, None, length}
use Rattle.std.specs.Char.{is_ascii_digit}
use Rattle.std.specs.List.{list_all, starts_with}
use Rattle.std.specs.Str.{bytes_eq}
use Rattle.std.specs.Str.Parse.{digits_value}
use Rattle.pdqd.specs.declared.words.Form.{Form}
use Rattle.pdqd.specs.declared.words.Form.TheVariants.{Script, ScriptTables, Ask, AskTables, Make}
use Rattle.pdq_model.specs.Configuration.{configuration, is_valid, IsValid}

-- 1 to 7 decimal digits
abbrev pub has_digits : List ℕ → Bool
has_digits w = not (length w == 0) && nat_le (length w) 7 && list_all is_ascii_digit w

abbrev pub has_leading_zero : List ℕ → Bool
has_leading_zero w = nat_lt 1 (length w) && starts_with nat_eq w (codes "0")

-- 1 to 7 decimal digits without a leading zero, or 0
abbrev pub is_number : List ℕ → Bool
is_number w = has_digits w && not (has_leading_zero w)

abbrev pub number_of : List ℕ → Option ℕ
number_of w = if is_number w then Some (digits_value 10 w) else None

-- DS_NONPDQ_QUERY_MEM when a script begins, in KB
abbrev pub nonpdq_kb : ℕ
nonpdq_kb = 128

-- a script of a valid configuration and an opening priority of at most 100, in the order T Q S m p
unfoldable pub script_of : Option ℕ → Option ℕ → Option ℕ → Option ℕ → Option ℕ → Option Form
script_of (Some t) (Some q) (Some s) (Some m) (Some p) = if is_valid (configuration m t q s nonpdq_kb) && nat_le p 100 then Some (Script (configuration m t q s nonpdq_kb) p) else None
script_of t q s m p = None

-- the same script over the tables of the schema file of this name
abbrev pub over_tables : List ℕ → Option Form → Option Form
over_tables schema (Some (Script config opening)) = Some (ScriptTables config opening schema)
over_tables schema form = None

-- `script T Q S m p` with each number in range
abbrev pub script_form : List ℕ → List ℕ → List ℕ → List ℕ → List ℕ → List ℕ → Option Form
script_form first t q s m p = if bytes_eq first (codes "script") then script_of (number_of t) (number_of q) (number_of s) (number_of m) (number_of p) else None

-- as many sales as are made at once
abbrev pub is_count : ℕ → Bool
is_count n = nat_le 1 n && nat_le n 1000000

abbrev pub make_of : Option ℕ → Option Form
make_of None = None
make_of (Some n) = if is_count n then Some (Make n) else None

abbrev pub begins_with_dash : List ℕ → Bool
begins_with_dash w = starts_with nat_eq w (codes "-")

-- at most 8,192 bytes, of which the first is no dash
abbrev pub is_plain_word : List ℕ → Bool
is_plain_word w = nat_le (length w) 8192 && not (begins_with_dash w)

-- `ask SELECT`, or `make N` with its number in range
abbrev pub form_of_two : List ℕ → List ℕ → Option Form
form_of_two first second = if bytes_eq first (codes "ask") then Some (Ask second) else if bytes_eq first (codes "make") then make_of (number_of second) else None

-- the form of plain words: one of these, `ask SELECT SCHEMA`, or `script T Q S m p` with each number in range, and the name of a schema file that may follow
abbrev pub form_of_plain : List (List ℕ) → Option Form
form_of_plain (first ∷ second ∷ []) = form_of_two first second
form_of_plain (first ∷ select ∷ schema ∷ []) = if bytes_eq first (codes "ask") then Some (AskTables select schema) else None
form_of_plain (first ∷ t ∷ q ∷ s ∷ m ∷ p ∷ []) = script_form first t q s m p
form_of_plain (first ∷ t ∷ q ∷ s ∷ m ∷ p ∷ schema ∷ []) = over_tables schema (script_form first t q s m p)
form_of_plain words = None

-- the form of the words after the program's name; None where they have no form
unfoldable pub form_of : List (List ℕ) → Option Form
form_of words = if list_all is_plain_word words then form_of_plain words else None

-- the numbers of a form are in range, and its select is short
abbrev pub IsInRange : Form → Type 0
IsInRange (Script config opening) = IsValid config × (opening ≤ 100)
IsInRange (ScriptTables config opening schema) = IsValid config × (opening ≤ 100)
IsInRange (Ask select) = length select ≤ 8192
IsInRange (AskTables select schema) = length select ≤ 8192
IsInRange (Make count) = (1 ≤ count) × (count ≤ 1000000)

-- the words have a form, whose numbers are in range
pub record HasForm (said : Option Form) : Type 0 where
  pub form : Form
  pub is : said ≡ Some form
  pub in_range : IsInRange form
