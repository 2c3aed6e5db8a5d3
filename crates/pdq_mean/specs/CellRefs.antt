-- What a borrowed cell stands for.
use Rattle.pdq_value.specs.declared.cells.Cell.{Cell}
use Rattle.pdq_value.specs.declared.cells.Cell.TheVariants as cell
use Rattle.pdq_mean.specs.declared.cell_ref.CellRef.{CellRef}
use Rattle.pdq_mean.specs.declared.cell_ref.CellRef.TheVariants.{Nothing, Number, Words}

abbrev pub cell_of_ref : CellRef → Cell
cell_of_ref Nothing = cell.Nothing
cell_of_ref (Number z s) = cell.Number z s
cell_of_ref (Words text) = cell.Words text.now
