use Rattle.std.proofs.Common.{◌≡◌, ◌+◌, drop}
use Rattle.csv.specs.Records.{fields_of}
use Rattle.pdq_table.specs.Loading.{misnamed_at}
use Rattle.pdq_table.proofs.headers.first_misnamed.Given as goal

abbrev pub invariant-loop-place : goal.invariant-loop-place
invariant-loop-place l = misnamed_at 1 l.fn.columns (fields_of l.row) ≡ misnamed_at (l.place + 1) (drop l.place l.fn.columns) (drop l.place (fields_of l.row))
