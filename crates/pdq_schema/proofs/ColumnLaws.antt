-- Columns that are read have names, which differ, and kinds.
use Rattle.std.proofs.Common.{ℕ, ◌≡◌, ◌≢◌, ◌≤◌, ◌+◌, true, false, cond, codes, List, [], ◌∷◌, ◌++◌, length, subst, arith, Option, Some, None, Result, Ok, Err, All, AllPairs, ℤ, pos, negsuc, length-append}
use Rattle.std.specs.Prelude.{⊤, not, ◌&&◌, int_le, nat_abs}
use Rattle.std.specs.Str.{bytes_eq}
use Rattle.std.proofs.lemmas.Bool.{false≢true, both_ways}
use Rattle.std.proofs.lemmas.Bool.Decides.{nat_tests}
use Rattle.std.proofs.lemmas.Slice.Eq.{bytes_eq-Decides}
use Rattle.std.proofs.lemmas.List.Elements.{All-cons, All-nil, All-push}
use Rattle.std.proofs.lemmas.List.Quantifiers.{all_pairs_push}
use Rattle.toml.specs.Data.{Data, Members, as_integer, get_member}
use Rattle.pdq_value.specs.declared.shapes.Column.{Column}
use Rattle.pdq_value.specs.declared.shapes.Kind.{Kind}
use Rattle.pdq_value.specs.declared.shapes.Kind.TheVariants.{Number}
use Rattle.pdq_value.specs.Names.{is_name}
use Rattle.pdq_value.specs.Tables.{IsKind}
use Rattle.pdq_schema.specs.declared.faults.SchemaFault.{SchemaFault}
use Rattle.pdq_schema.specs.declared.faults.SchemaFault.TheVariants.{Wrong}
use Rattle.pdq_schema.specs.declared.faults.SchemaWhy.TheVariants.{BadName, TwoNames, UnknownKey}
use Rattle.pdq_schema.specs.declared.keys.Part.TheVariants as part
use Rattle.pdq_schema.specs.SchemaTree.{only_keys, text_at}
use Rattle.pdq_schema.specs.SchemaFile.{column_named, column_of, column_of_kind, columns_after, has_column, is_key_of, kind_of, number_kind, number_within, text_kind}
use Rattle.pdq_schema.proofs.Readings.{Reads, Says, both_false, both_true, if_says, map_says, not_false, then_reads, unless_reads}

abbrev pub IsBetween : ℕ → ℕ → ℕ → Type 0
IsBetween low high n = (low ≤ n) × (n ≤ high)

positive : (low high n : ℕ) → (int_le (pos low) (pos n) ≡ true) × (int_le (pos n) (pos high) ≡ true) → IsBetween low high n
positive low high n told = (grind (arith, nat_tests, told.0), grind (arith, nat_tests, told.1))

pub within_is : (low high : ℕ) (o : Option ℤ) → Says (IsBetween low high) (number_within low high o)
within_is low high None = tt
within_is low high (Some (pos n)) = if_says (IsBetween low high) (int_le (pos low) (pos n) && int_le (pos n) (pos high)) (Some n) None (λ told. positive low high n (both_true _ _ told)) tt
within_is low high (Some (negsuc n)) = if_says (IsBetween low high) (int_le (pos low) (negsuc n) && int_le (negsuc n) (pos high)) (Some (nat_abs (negsuc n))) None (λ told. absurd (false≢true told)) tt

number_is : (o : Option Data) → Says IsKind (number_kind o)
number_is None = omega arith
number_is (Some d) = map_says (IsBetween 0 6) IsKind Number _ (within_is 0 6 (as_integer d)) (λ n said. said.1)

text_is : (o : Option Data) → Says IsKind (text_kind o)
text_is None = tt
text_is (Some d) = tt

kind_is : (word : List ℕ) (o : Option Data) → Says IsKind (kind_of word o)
unfolding kind_of
kind_is word o =
    let is_word = bytes_eq word (codes "text") in
    if_says IsKind (bytes_eq word (codes "number")) (number_kind o) (cond is_word (text_kind o) None) (λ _. number_is o) (if_says IsKind is_word (text_kind o) None (λ _. text_is o) tt)

abbrev pub NamesDiffer : Column → Column → Type 0
NamesDiffer c d = c.name ≢ d.name

-- a column that can follow these
pub record IsNext (earlier : List Column) (c : Column) : Type 0 where
  pub kind : IsKind c.kind
  pub name : is_name c.name ≡ true
  pub other : All (λ (d : Column). NamesDiffer d c) earlier

pub record AreColumns (cs : List Column) : Type 0 where
  pub kinds : All (λ (c : Column). IsKind c.kind) cs
  pub names : All (λ (c : Column). is_name c.name ≡ true) cs
  pub differ : AllPairs NamesDiffer cs

other_name : (a b : List ℕ) → bytes_eq a b ≡ false → a ≢ b
other_name a b apart same = both_ways _ apart ((bytes_eq-Decides a b).1 same)

none_named : (cs : List Column) (name : List ℕ) → has_column cs name ≡ false → All (λ (d : Column). d.name ≢ name) cs
none_named [] name none = All-nil (λ (d : Column). d.name ≢ name)
none_named (d ∷ ds) name none = let t = both_false _ _ none in All-cons (λ (c : Column). c.name ≢ name) d ds (other_name d.name name t.0) (none_named ds name t.1)

of_kind_is : (t c : ℕ) (earlier : List Column) (name : List ℕ) (o : Option Kind) → is_name name ≡ true → has_column earlier name ≡ false → Says IsKind o → Reads (IsNext earlier) (column_of_kind t c name o)
of_kind_is t c earlier name None good none said = tt
of_kind_is t c earlier name (Some k) good none said = record { kind = said; name = good; other = none_named earlier name none }

named_is : (t c : ℕ) (earlier : List Column) (ms : Members) (name word : Option (List ℕ)) → Reads (IsNext earlier) (column_named t c earlier ms name word)
named_is t c earlier ms None None = tt
named_is t c earlier ms None (Some word) = tt
named_is t c earlier ms (Some name) None = tt
named_is t c earlier ms (Some name) (Some word) =
    let scale = get_member (codes "scale") ms in
    let rest = column_of_kind t c name (kind_of word scale) in
    unless_reads (IsNext earlier) (not (is_name name)) (Wrong BadName t c) (cond (has_column earlier name) (Err (Wrong TwoNames t c)) rest) (λ good.
    unless_reads (IsNext earlier) (has_column earlier name) (Wrong TwoNames t c) rest (λ none. of_kind_is t c earlier name (kind_of word scale) (not_false _ good) none (kind_is word scale)))

column_is : (t : ℕ) (earlier : List Column) (ms : Members) → Reads (IsNext earlier) (column_of t earlier ms)
unfolding column_of
column_is t earlier ms =
    let c = length earlier + 1 in
    let name = text_at (codes "name") ms in
    let word = text_at (codes "kind") ms in
    unless_reads (IsNext earlier) (not (only_keys (is_key_of part.Column) ms)) (Wrong UnknownKey t c) (column_named t c earlier ms name word) (λ _. named_is t c earlier ms name word)

one_more : (cs : List Column) (c : Column) → AreColumns cs → IsNext cs c → AreColumns (cs ++ c ∷ [])
one_more cs c are is = record {
  kinds = All-push (λ (d : Column). IsKind d.kind) cs c are.kinds is.kind;
  names = All-push (λ (d : Column). is_name d.name ≡ true) cs c are.names is.name;
  differ = all_pairs_push NamesDiffer cs c are.differ is.other;
}

columns_are : (t : ℕ) (cs : List Column) (tables : List Members) → AreColumns cs → Reads AreColumns (columns_after t cs tables)
columns_are t cs [] are = are
columns_are t cs (m ∷ ms) are = then_reads (IsNext cs) AreColumns (column_of t cs m) (λ c. columns_after t (cs ++ c ∷ []) ms) (column_is t cs m) (λ c is. columns_are t (cs ++ c ∷ []) ms (one_more cs c are is))

no_columns : AreColumns []
no_columns = record { kinds = All-nil (λ (c : Column). IsKind c.kind); names = All-nil (λ (c : Column). is_name c.name ≡ true); differ = λ i j d p q. absurd (omega (arith, q)) }

count_is : (t : ℕ) (cs : List Column) (tables : List Members) → Reads (λ (v : List Column). length v ≡ length cs + length tables) (columns_after t cs tables)
count_is t cs [] = omega arith
count_is t cs (m ∷ ms) = then_reads (λ (_ : Column). ⊤) (λ (v : List Column). length v ≡ length cs + length (m ∷ ms)) (column_of t cs m) (λ c. columns_after t (cs ++ c ∷ []) ms) (any_read _) (λ c _. more c _ (count_is t (cs ++ c ∷ []) ms)) where
  any_read : (r : Result Column SchemaFault) → Reads (λ (_ : Column). ⊤) r
  any_read (Ok c) = tt
  any_read (Err e) = tt

  more : (c : Column) (r : Result (List Column) SchemaFault) → Reads (λ (v : List Column). length v ≡ length (cs ++ c ∷ []) + length ms) r → Reads (λ (v : List Column). length v ≡ length cs + length (m ∷ ms)) r
  more c (Ok v) read = omega (arith, read, length-append cs (c ∷ []))
  more c (Err e) read = tt

-- the columns that are read, as many as there are tables for them
pub columns_read : (t : ℕ) (tables : List Members) (cs : List Column) → columns_after t [] tables ≡ Ok cs → AreColumns cs
columns_read t tables cs reads = subst (Reads AreColumns) reads (columns_are t [] tables no_columns)

pub as_many_columns : (t : ℕ) (tables : List Members) (cs : List Column) → columns_after t [] tables ≡ Ok cs → length cs ≡ length tables
as_many_columns t tables cs reads = let n = subst (Reads (λ (v : List Column). length v ≡ 0 + length tables)) reads (count_is t [] tables) in omega (arith, n)
