use Rattle.std.proofs.Common.{◌≡◌, drop}
use Rattle.pdq_sql.specs.Resolution.{column_named}
use Rattle.pdq_sql.proofs.resolving.column_named.Given as goal

abbrev pub invariant-loop-place : goal.invariant-loop-place
invariant-loop-place l = column_named l.name l.place (drop l.place l.columns) ≡ column_named l.name 0 l.columns
