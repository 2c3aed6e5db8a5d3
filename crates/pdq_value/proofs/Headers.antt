-- Columns read one after another.
use Rattle.std.proofs.Common.{ℕ, suc, ◌≡◌, ◌∙◌, Bool, true, false, cond, List, [], ◌∷◌, ◌++◌, refl, ap, ap₂, sym, append_assoc, append-nil, Option, Some, None}
use Rattle.std.specs.List.{slice_split, onto_first}
use Rattle.pdq_value.specs.declared.shapes.Column.{Column}
use Rattle.pdq_base.specs.Lines.{is_blank}
use Rattle.pdq_value.specs.Header.{column_of, columns_of, with_column}

-- these columns and then those, where there are some
abbrev pub after_columns : List Column → Option (List Column) → Option (List Column)
after_columns cs None = None
after_columns cs (Some ds) = Some (cs ++ ds)

pub after_none : (ds : Option (List Column)) → after_columns [] ds ≡ ds
after_none None = refl
after_none (Some ds) = refl

after_one : (cs : List Column) (c : Column) (ds : Option (List Column)) → after_columns cs (with_column (Some c) ds) ≡ after_columns (cs ++ c ∷ []) ds
after_one cs c None = refl
after_one cs c (Some ds) = ap Some (sym (append_assoc cs (c ∷ []) ds))

-- where so many columns are left, and the parts are these, the whole goes on so
goes_on : (all : Option (List Column)) (cs : List Column) (left most : ℕ) (parts more : List (List ℕ)) (part : List ℕ) → all ≡ after_columns cs (columns_of left parts) → left ≡ suc most → parts ≡ part ∷ more → all ≡ after_columns cs (with_column (column_of part) (columns_of most more))
goes_on all cs left most parts more part so_far one_left cut = so_far ∙ ap₂ (λ n ps. after_columns cs (columns_of n ps)) one_left cut

-- one more column
pub one_column : (all : Option (List Column)) (cs : List Column) (c : Column) (left most : ℕ) (parts more : List (List ℕ)) (part : List ℕ) → all ≡ after_columns cs (columns_of left parts) → left ≡ suc most → parts ≡ part ∷ more → column_of part ≡ Some c → all ≡ after_columns (cs ++ c ∷ []) (columns_of most more)
one_column all cs c left most parts more part so_far one_left cut is_column = goes_on all cs left most parts more part so_far one_left cut ∙ ap (λ o. after_columns cs (with_column o (columns_of most more))) is_column ∙ after_one cs c (columns_of most more)

-- the last column
pub last_column : (all : Option (List Column)) (cs : List Column) (c : Column) (left most : ℕ) (parts : List (List ℕ)) (part : List ℕ) → all ≡ after_columns cs (columns_of left parts) → left ≡ suc most → parts ≡ part ∷ [] → column_of part ≡ Some c → all ≡ Some (cs ++ c ∷ [])
last_column all cs c left most parts part so_far one_left cut is_column = one_column all cs c left most parts [] part so_far one_left cut is_column ∙ ap Some (append-nil (cs ++ c ∷ []))

with_no_column : (ds : Option (List Column)) → with_column None ds ≡ None
with_no_column None = refl
with_no_column (Some ds) = refl

pub no_column : (all : Option (List Column)) (cs : List Column) (left most : ℕ) (parts more : List (List ℕ)) (part : List ℕ) → all ≡ after_columns cs (columns_of left parts) → left ≡ suc most → parts ≡ part ∷ more → column_of part ≡ None → all ≡ None
no_column all cs left most parts more part so_far one_left cut is_none = goes_on all cs left most parts more part so_far one_left cut ∙ ap (λ o. after_columns cs (with_column o (columns_of most more))) is_none ∙ ap (after_columns cs) (with_no_column (columns_of most more))

none_more : (x : ℕ) (parts : List (List ℕ)) → columns_of 0 (onto_first x parts) ≡ None
none_more x [] = refl
none_more x (part ∷ parts) = refl

by_first : (b : Bool) (x : ℕ) (parts : List (List ℕ)) → columns_of 0 (cond b ([] ∷ parts) (onto_first x parts)) ≡ None
by_first true x parts = refl
by_first false x parts = none_more x parts

-- a line has a part, so with no column left it has too many
pub too_many : (bytes : List ℕ) → columns_of 0 (slice_split is_blank bytes) ≡ None
too_many [] = refl
too_many (x ∷ xs) = by_first (is_blank x) x (slice_split is_blank xs)
