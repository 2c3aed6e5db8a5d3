use Rattle.std.proofs.Common.{◌≡◌, All, length}
use Rattle.pdq_value.specs.Tables.{IsRowOf}
use Rattle.pdq_table.proofs.storing_tests.rows.Given as goal

abbrev pub invariant-loop-number : goal.invariant-loop-number
invariant-loop-number l = record {
  rows : All (IsRowOf l.columns) l.rows.items;
  count : length l.rows.items ≡ l.number-index;
}
