use Rattle.pdq_make.proofs.Lines.{lines_by}
use Rattle.pdq_make.proofs.Shapes.{fits_tables, printable_rows}
use Rattle.pdq_make.proofs.making.add_query.Goals as goal

pub serial-requires-clause-query : goal.serial-requires-clause-query
serial-requires-clause-query c = fits_tables c.args.db.now _ _ c.requires.tables c.in_ok-query.ensures.fits

pub add_rows-requires : goal.add_rows-requires
add_rows-requires c = record { scales = rw c.deref.ensures.value (printable_rows _ c.in-Ok.ensures.scales) }

pub returns-in-Ok : goal.returns-in-Ok
returns-in-Ok c = record { text = rw (lines_by _ _ _ _ _ _ c.requires.tables c.in_ok-query.ensures.query c.in-Ok.ensures.value) (rw c.deref.ensures.value at c.add_rows.ensures.text) }

pub returns-in-Err-RowLimit : goal.returns-in-Err-RowLimit
returns-in-Err-RowLimit c = record { text = rw (lines_by _ _ _ _ _ _ c.requires.tables c.in_ok-query.ensures.query (c.in-Err-RowLimit.ensures.limit (cc))) c.add_too_many_rows.ensures.text }
