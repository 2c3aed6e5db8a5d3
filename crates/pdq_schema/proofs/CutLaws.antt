-- A way of cutting that is read fits its table.
use Rattle.std.proofs.Common.{ℕ, ◌≡◌, ◌≤◌, ◌<◌, ◌+◌, Bool, true, List, [], ◌∷◌, codes, length, refl, subst, arith, Option, Some, None, Result, Ok, Err, All, ℤ}
use Rattle.std.specs.Prelude.{◌&&◌, nat_le, option_map, position}
use Rattle.std.specs.Str.{bytes_eq}
use Rattle.std.proofs.lemmas.Bool.Decides.{nat_tests}
use Rattle.std.proofs.lemmas.List.{get_or_default}
use Rattle.std.proofs.lemmas.List.Elements.{All-cons, All-nil}
use Rattle.std.proofs.lemmas.List.Quantifiers.{position-Some}
use Rattle.toml.specs.Data.{Data, Members, as_integer, as_str, get_member}
use Rattle.pdq_value.specs.declared.numbers.NumberFault.{NumberFault}
use Rattle.pdq_value.specs.declared.shapes.Column.{Column}
use Rattle.pdq_value.specs.declared.shapes.Kind.{Kind}
use Rattle.pdq_value.specs.declared.shapes.Kind.TheVariants as kind
use Rattle.pdq_value.specs.declared.shapes.Value.{Value}
use Rattle.pdq_value.specs.Numbers.{number_read}
use Rattle.pdq_value.proofs.NumberBounds.{number_read-small}
use Rattle.pdq_schema.specs.declared.cuts.Range.{Range}
use Rattle.pdq_schema.specs.declared.keys.Part.TheVariants as part
use Rattle.pdq_schema.specs.Schemas.{IsBoundOf, IsCutOf, IsRangeOf, ranges, rounds}
use Rattle.pdq_schema.specs.SchemaFile.{bound_of, bound_of_number, bound_of_text, column_place, cut_by, cut_said, few_ranges, is_key_of, kind_at, number_within, range_between, range_of, ranges_by, ranges_of}
use Rattle.pdq_schema.specs.SchemaTree.{only_keys, tables_at, with_first}
use Rattle.pdq_schema.proofs.ColumnLaws.{IsBetween, within_is}
use Rattle.pdq_schema.proofs.Readings.{Says, both_true, if_says, map_says, next_says}

number_is : (text : List ℕ) (scale : ℕ) (r : Result ℤ NumberFault) → number_read text scale ≡ r → Says (IsBoundOf (kind.Number scale)) (bound_of_number r)
number_is text scale (Ok z) read = number_read-small text scale z read
number_is text scale (Err e) read = tt

text_is : (k : Kind) (text : Option (List ℕ)) → Says (IsBoundOf k) (bound_of_text k text)
text_is k None = tt
text_is (kind.Number scale) (Some text) = number_is text scale (number_read text scale) refl
text_is kind.Words (Some text) = tt

bound_is : (k : Kind) (d : Data) → Says (IsBoundOf k) (bound_of k d)
unfolding bound_of
bound_is k d = text_is k (as_str d)

from_is : (k : Kind) (v : Value) → IsBoundOf k v → IsRangeOf k (record { from = Some v; below = None })
from_is k v is = record { side = tt; from_kind = is; below_kind = tt }

below_is : (k : Kind) (w : Value) → IsBoundOf k w → IsRangeOf k (record { from = None; below = Some w })
below_is k w is = record { side = tt; from_kind = tt; below_kind = is }

both_are : (k : Kind) (v w : Value) → IsBoundOf k v → IsBoundOf k w → IsRangeOf k (record { from = Some v; below = Some w })
both_are k v w is are = record { side = tt; from_kind = is; below_kind = are }

between_is : (k : Kind) (a b : Option Data) → Says (IsRangeOf k) (range_between k a b)
between_is k None None = tt
between_is k (Some a) None = map_says (IsBoundOf k) (IsRangeOf k) (λ v. record { from = Some v; below = None }) (bound_of k a) (bound_is k a) (from_is k)
between_is k None (Some b) = map_says (IsBoundOf k) (IsRangeOf k) (λ w. record { from = None; below = Some w }) (bound_of k b) (bound_is k b) (below_is k)
between_is k (Some a) (Some b) =
    next_says (IsBoundOf k) (IsRangeOf k) (λ v. option_map (λ w. record { from = Some v; below = Some w }) (bound_of k b)) (bound_of k a) (bound_is k a) (λ v is.
    map_says (IsBoundOf k) (IsRangeOf k) (λ w. record { from = Some v; below = Some w }) (bound_of k b) (bound_is k b) (λ w are. both_are k v w is are))

range_is : (k : Kind) (ms : Members) → Says (IsRangeOf k) (range_of k ms)
unfolding range_of
range_is k ms =
    let a = get_member (codes "from") ms in
    let b = get_member (codes "below") ms in
    if_says (IsRangeOf k) (only_keys (is_key_of part.Range) ms) (range_between k a b) None (λ _. between_is k a b) tt

-- so many ranges of a column of this kind
abbrev AreRanges : Kind → ℕ → List Range → Type 0
AreRanges k n rs = (length rs ≡ n) × All (IsRangeOf k) rs

one_more : (k : Kind) (n : ℕ) (r : Option Range) (rs : Option (List Range)) → Says (IsRangeOf k) r → Says (AreRanges k n) rs → Says (AreRanges k (n + 1)) (with_first r rs)
one_more k n None None said are = tt
one_more k n None (Some rs) said are = tt
one_more k n (Some r) None said are = tt
one_more k n (Some r) (Some rs) said are = (omega (arith, are.0), All-cons (IsRangeOf k) r rs said are.1)

ranges_are : (k : Kind) (tables : List Members) → Says (AreRanges k (length tables)) (ranges_of k tables)
ranges_are k [] = (refl, All-nil (IsRangeOf k))
ranges_are k (m ∷ ms) = subst (λ (n : ℕ). Says (AreRanges k n) (ranges_of k (m ∷ ms))) (omega arith) (one_more k (length ms) (range_of k m) (ranges_of k ms) (range_is k m) (ranges_are k ms))

abbrev AreFew : Kind → List Range → Type 0
AreFew k rs = (1 ≤ length rs) × (length rs ≤ 15) × All (IsRangeOf k) rs

weaker : {X : Type 0} (P Q : X → Type 0) (o : Option X) → Says P o → ((x : X) → P x → Q x) → Says Q o
weaker P Q None said more = tt
weaker P Q (Some x) said more = more x said

few_from : (k : Kind) (n : ℕ) (rs : List Range) → (nat_le 1 n ≡ true) × (nat_le n 15 ≡ true) → AreRanges k n rs → AreFew k rs
few_from k n rs told are = (grind (arith, nat_tests, told.0, are.0), grind (arith, nat_tests, told.1, are.0), are.1)

few_are : (k : Kind) (tables : List Members) → Says (AreFew k) (few_ranges k tables)
few_are k tables =
    let n = length tables in
    if_says (AreFew k) (nat_le 1 n && nat_le n 15) (ranges_of k tables) None (λ told. weaker (AreRanges k n) (AreFew k) (ranges_of k tables) (ranges_are k tables) (λ rs are. few_from k n rs (both_true (nat_le 1 n) (nat_le n 15) told) are)) tt

-- a column's place
place_within : (p : Column → Bool) (columns : List Column) (o : Option ℕ) → position p columns ≡ o → Says (λ (place : ℕ). place < length columns) o
place_within p columns None at = tt
place_within p columns (Some place) at = (position-Some p columns place (record { name = []; kind = kind.Words }) at).0

place_is : (columns : List Column) (name : Option (List ℕ)) → Says (λ (place : ℕ). place < length columns) (column_place columns name)
place_is columns None = tt
place_is columns (Some name) = place_within (λ (c : Column). bytes_eq c.name name) columns (position (λ (c : Column). bytes_eq c.name name) columns) refl

at_any : (columns : List Column) (place : ℕ) (rs : List Range) → place < length columns → AreFew (kind_at place columns) rs → IsCutOf columns (ranges place rs)
at_any columns place rs within few = (within, few.0, few.1, λ c. subst (λ (x : Column). All (IsRangeOf x.kind) rs) (get_or_default columns place (record { name = []; kind = kind.Words }) c within) few.2)

by_is : (columns : List Column) (place : Option ℕ) (tables : Option (List Members)) → Says (λ (p : ℕ). p < length columns) place → Says (IsCutOf columns) (ranges_by columns place tables)
by_is columns None None said = tt
by_is columns None (Some tables) said = tt
by_is columns (Some place) None said = tt
by_is columns (Some place) (Some tables) said = map_says (AreFew (kind_at place columns)) (IsCutOf columns) (ranges place) (few_ranges (kind_at place columns) tables) (few_are (kind_at place columns) tables) (λ rs few. at_any columns place rs said few)

cut_by_is : (columns : List Column) (ms : Members) (count name tables : Option Data) → Says (IsCutOf columns) (cut_by columns ms count name tables)
cut_by_is columns ms None None None = (omega arith, omega arith)
cut_by_is columns ms None None (Some t) = tt
cut_by_is columns ms None (Some n) None = tt
cut_by_is columns ms None (Some n) (Some t) = by_is columns (column_place columns (as_str n)) (tables_at (codes "range") ms) (place_is columns (as_str n))
cut_by_is columns ms (Some c) None None = map_says (IsBetween 1 16) (IsCutOf columns) rounds (number_within 1 16 (as_integer c)) (within_is 1 16 (as_integer c)) (λ n said. said)
cut_by_is columns ms (Some c) None (Some t) = tt
cut_by_is columns ms (Some c) (Some n) None = tt
cut_by_is columns ms (Some c) (Some n) (Some t) = tt

pub cut_is : (columns : List Column) (ms : Members) → Says (IsCutOf columns) (cut_said columns ms)
unfolding cut_said
cut_is columns ms = cut_by_is columns ms (get_member (codes "round_robin") ms) (get_member (codes "by") ms) (get_member (codes "range") ms)
