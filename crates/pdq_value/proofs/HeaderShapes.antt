-- A header that is read says a shape.
use Rattle.std.proofs.Common.{ℕ, zero, suc, ◌≡◌, ◌≢◌, ◌≤◌, ◌+◌, Bool, true, false, cond, List, [], ◌∷◌, length, refl, sym, subst, arith, Option, Some, None, All, AllPairs}
use Rattle.std.specs.Prelude.{position, take, drop, slice_index, ⊤, ◌&&◌, ◌-◌, not, ◌||◌, nat_le}
use Rattle.std.specs.List.{list_any}
use Rattle.std.specs.Str.{bytes_eq}
use Rattle.std.proofs.lemmas.Bool.{false≢true, both_ways}
use Rattle.std.proofs.lemmas.Bool.Decides.{nat_tests}
use Rattle.std.proofs.lemmas.Slice.Eq.{bytes_eq-Decides}
use Rattle.std.proofs.lemmas.List.Elements.{All-cons, All-nil}
use Rattle.std.proofs.lemmas.List.Kept.{AllPairs-cons}
use Rattle.pdq_value.specs.declared.shapes.Column.{Column}
use Rattle.pdq_value.specs.declared.shapes.Kind.{Kind}
use Rattle.pdq_value.specs.declared.shapes.Kind.TheVariants.{Number, Words}
use Rattle.pdq_value.specs.Header.{column_cut, column_of, columns_of, is_colon, is_number_kind, kind_of, names_differ, with_column, with_name}
use Rattle.pdq_value.specs.Names.{is_name}
use Rattle.pdq_value.specs.Tables.{IsKind, IsShape}

-- what there is, is so
abbrev pub If : {X : Type 0} → (X → Type 0) → Option X → Type 0
If P None = ⊤
If P (Some x) = P x

either : {X : Type 0} (P : X → Type 0) (b : Bool) (x y : Option X) → (b ≡ true → If P x) → If P y → If P (cond b x y)
either P true x y h k = h refl
either P false x y h k = k

last_true : (a b : Bool) → (a && b) ≡ true → b ≡ true
last_true true b e = e
last_true false b e = absurd (false≢true e)

up_to_six : (bytes : List ℕ) → nat_le (slice_index bytes 7) 54 ≡ true → slice_index bytes 7 - 48 ≤ 6
up_to_six bytes told = grind (arith, nat_tests, told)

number_kind : (bytes : List ℕ) → is_number_kind bytes ≡ true → If IsKind (Some (Number (slice_index bytes 7 - 48)))
number_kind bytes is_number = up_to_six bytes (last_true _ _ is_number)

kind_is : (bytes : List ℕ) → If IsKind (kind_of bytes)
unfolding kind_of
kind_is bytes = either IsKind _ (Some Words) _ (λ _. tt) (either IsKind (is_number_kind bytes) _ None (number_kind bytes) tt)

-- a column of such a kind
abbrev HasKind : Column → Type 0
HasKind c = IsKind c.kind

named_is : (name : List ℕ) (k : Option Kind) → If IsKind k → If HasKind (with_name name k)
named_is name None h = tt
named_is name (Some k) h = h

cut_is : (part : List ℕ) (end : Option ℕ) → If HasKind (column_cut part end)
cut_is part None = tt
cut_is part (Some end) = either HasKind (is_name (take end part)) _ None (λ _. named_is (take end part) _ (kind_is (drop (end + 1) part))) tt

column_is : (part : List ℕ) → If HasKind (column_of part)
unfolding column_of
column_is part = cut_is part (position is_colon part)

-- at most so many columns, each of such a kind
abbrev AreColumns : ℕ → List Column → Type 0
AreColumns most cs = (length cs ≤ most) × All HasKind cs

more_is : (most : ℕ) (c : Option Column) (cs : Option (List Column)) → If HasKind c → If (AreColumns most) cs → If (AreColumns (suc most)) (with_column c cs)
more_is most None None h k = tt
more_is most None (Some cs) h k = tt
more_is most (Some c) None h k = tt
more_is most (Some c) (Some cs) h k = (omega (arith, k.0), All-cons HasKind c cs h k.1)

columns_are : (most : ℕ) (parts : List (List ℕ)) → If (AreColumns most) (columns_of most parts)
columns_are most [] = (omega arith, All-nil HasKind)
columns_are zero (part ∷ parts) = tt
columns_are (suc most) (part ∷ parts) = more_is most _ _ (column_is part) (columns_are most parts)

abbrev NamesDiffer : Column → Column → Type 0
NamesDiffer c d = c.name ≢ d.name

neither : (a b : Bool) → (a || b) ≡ false → (a ≡ false) × (b ≡ false)
neither true b e = absurd (false≢true (sym e))
neither false b e = (refl, e)

first_true : (a b : Bool) → (a && b) ≡ true → a ≡ true
first_true true b e = refl
first_true false b e = absurd (false≢true e)

not_true : (b : Bool) → not b ≡ true → b ≡ false
not_true true e = absurd (false≢true e)
not_true false e = refl

other_name : (c d : Column) → bytes_eq d.name c.name ≡ false → c.name ≢ d.name
other_name c d apart same = both_ways _ apart ((bytes_eq-Decides d.name c.name).1 (sym same))

none_named : (c : Column) (cs : List Column) → list_any (λ (d : Column). bytes_eq d.name c.name) cs ≡ false → All (NamesDiffer c) cs
none_named c [] none = All-nil (NamesDiffer c)
none_named c (d ∷ ds) none = let t = neither _ _ none in All-cons (NamesDiffer c) d ds (other_name c d t.0) (none_named c ds t.1)

all_differ : (cs : List Column) → names_differ cs ≡ true → AllPairs NamesDiffer cs
all_differ [] told = λ i j d p q. absurd (omega (arith, q))
all_differ (c ∷ cs) told = AllPairs-cons NamesDiffer c cs (none_named c cs (not_true _ (first_true _ _ told))) (all_differ cs (last_true _ _ told))

-- columns that are read, some of them, with names that differ, are a shape's
pub shape_made : (name : List ℕ) (cs : List Column) (parts : List (List ℕ)) → Some cs ≡ columns_of 16 parts → 1 ≤ length cs → names_differ cs ≡ true → IsShape (record { name = name; columns = cs })
shape_made name cs parts read some differ =
    let h : AreColumns 16 cs = subst (If (AreColumns 16)) (sym read) (columns_are 16 parts) in
    record { some_column = some; sixteen_columns = h.0; names_differ = all_differ cs differ; kinds = h.1 }
