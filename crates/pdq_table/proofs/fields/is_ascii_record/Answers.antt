use Rattle.pdq_table.proofs.AsciiRecords.{ascii_record}
use Rattle.pdq_table.proofs.fields.is_ascii_record.Goals as goal

pub returns : goal.returns
returns c = record { utf8 = λ is. ascii_record c.args.row.now c.is_ascii.result (rw (← c.as_slice.ensures) c.is_ascii.ensures.cases) is }
