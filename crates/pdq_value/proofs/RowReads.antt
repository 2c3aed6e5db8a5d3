-- The cells of a row line, read one after another.
use Rattle.std.proofs.Common.{ℕ, ◌≡◌, ◌∙◌, true, false, List, ◌∷◌, ◌++◌, refl, ap, Option, Some, Result, Ok, Err}
use Rattle.std.specs.Prelude.{nat_lt}
use Rattle.std.specs.Str.{is_utf8}
use Rattle.pdq_value.specs.declared.loading.LoadFault.{LoadFault}
use Rattle.pdq_value.specs.declared.loading.LoadWhy.TheVariants.{TooManyRows}
use Rattle.pdq_value.specs.declared.shapes.Column.{Column}
use Rattle.pdq_value.specs.declared.shapes.Value.{Value}
use Rattle.pdq_value.specs.PlainTable.{fault, not_utf8_at, rows_from}

-- a cell that is not UTF-8 is the first such
pub not_utf8 : (all : Option ℕ) (column : ℕ) (cells more : List (List ℕ)) (cell : List ℕ) → all ≡ not_utf8_at column cells → cells ≡ cell ∷ more → is_utf8 cell ≡ false → all ≡ Some column
not_utf8 all column cells more cell so_far cut bad = so_far ∙ ap (not_utf8_at column) cut ∙ rw bad refl

-- these values and then those, or the fault
abbrev pub after_values : List Value → Result (List Value) LoadFault → Result (List Value) LoadFault
after_values vs (Ok us) = Ok (vs ++ us)
after_values vs (Err e) = Err e

-- these rows and then those, or the fault
abbrev pub after_rows : List (List Value) → Result (List (List Value)) LoadFault → Result (List (List Value)) LoadFault
after_rows rows (Ok more) = Ok (rows ++ more)
after_rows rows (Err e) = Err e

-- a row more than there may be
module _ (all : Result (List (List Value)) LoadFault) (rows : List (List Value)) (columns : List Column) (n : ℕ) (lines more : List (List ℕ)) (line : List ℕ) (so_far : all ≡ after_rows rows (rows_from columns n lines)) where
  pub one_too_many : lines ≡ line ∷ more → nat_lt 2000000 n ≡ true → all ≡ Err (fault TooManyRows n 0)
  one_too_many cut many = so_far ∙ ap (λ ls. after_rows rows (rows_from columns n ls)) cut ∙ rw many refl
