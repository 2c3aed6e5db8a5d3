use Rattle.csv.specs.Records.{fields_of}
use Rattle.pdq_table.proofs.FileRecords.{takes}
use Rattle.pdq_table.proofs.records.next_record.Goals as goal

pub returns : goal.returns
returns c =
    let e = c.in-Ok.ensures in
    let h = c.requires.reading in
    let new = c.read_byte_record.new in
    record { taken = takes c.in-Ok.found c.args.reader.now new.self (fields_of new.row) h (e.ready h.trim) (e.reads h.trim h.ready) }
