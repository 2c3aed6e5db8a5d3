use Rattle.std.proofs.Common.{map}
use Rattle.pdq_base.specs.Lines.{lines_of}
use Rattle.pdq_value.specs.PlainTable.{line_text}
use Rattle.pdq_value.proofs.PlainTables.{rows_read}
use Rattle.pdq_value.proofs.plain.read_table.Goals as goal

pub returns-clause-table : goal.returns-clause-table
returns-clause-table c = record { kinds = c.requires.shape.kinds; rows = rows_read c.args.shape.columns.items 1 (map line_text (lines_of c.args.bytes.now)) _ (rw c.deref.ensures.value at c.in_ok-rows.ensures.read) }
