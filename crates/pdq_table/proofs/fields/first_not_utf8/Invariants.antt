use Rattle.std.proofs.Common.{◌≡◌, ◌+◌, drop}
use Rattle.csv.specs.Records.{fields_of}
use Rattle.pdq_value.specs.PlainTable.{not_utf8_at}
use Rattle.pdq_table.proofs.fields.first_not_utf8.Given as goal

abbrev pub invariant-loop-place : goal.invariant-loop-place
invariant-loop-place l = not_utf8_at 1 (fields_of l.row) ≡ not_utf8_at (l.place + 1) (drop l.place (fields_of l.row))
