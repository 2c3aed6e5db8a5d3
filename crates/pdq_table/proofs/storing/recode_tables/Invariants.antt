use Rattle.pdq_table.specs.Layout.{IsRecoded}
use Rattle.pdq_table.proofs.Recoding.{ChangedTo}
use Rattle.pdq_table.proofs.storing.recode_tables.Given as goal

abbrev pub invariant-loop-table : goal.invariant-loop-table
invariant-loop-table l = ChangedTo (IsRecoded l.codes) l.table-index l.initial.tables l.tables
