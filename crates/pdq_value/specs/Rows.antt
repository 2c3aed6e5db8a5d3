-- What a row is seen as.
use Rattle.std.specs.Prelude.{List}
use Rattle.pdq_value.specs.declared.shapes.Value.{Value}

-- the values, column by column
abbrev pub RowValues : Type 0
RowValues = List Value
