use Rattle.pdq_make.specs.MadeTables.{sale_row, sales_shape}
use Rattle.pdq_make.proofs.MadeRows.{AreMade}
use Rattle.pdq_make.proofs.made_tables.sales.Given as goal

abbrev pub invariant-loop-number : goal.invariant-loop-number
invariant-loop-number l = AreMade sale_row sales_shape.columns l.rows.items l.number
