use Rattle.std.proofs.Common.{◌≡◌, ◌+◌, drop}
use Rattle.pdq_table.specs.Loading.{contents_of, too_long_at}
use Rattle.pdq_table.proofs.tables.first_too_long.Given as goal

abbrev pub invariant-loop-place : goal.invariant-loop-place
invariant-loop-place l = too_long_at 1 (contents_of l.files) ≡ too_long_at (l.place + 1) (contents_of (drop l.place l.files))
