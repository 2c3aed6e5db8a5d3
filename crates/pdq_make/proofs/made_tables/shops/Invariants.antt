use Rattle.pdq_make.specs.MadeTables.{shop_row, shops_shape}
use Rattle.pdq_make.proofs.MadeRows.{AreMade}
use Rattle.pdq_make.proofs.made_tables.shops.Given as goal

abbrev pub invariant-loop-number : goal.invariant-loop-number
invariant-loop-number l = AreMade shop_row shops_shape.columns l.rows.items l.number
