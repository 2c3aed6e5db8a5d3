use Rattle.std.proofs.Common.{◌≡◌, replicate}
use Rattle.pdq_table.specs.Words.{no_rows}
use Rattle.pdq_table.proofs.stored_table.empty_fragments.Given as goal

abbrev pub invariant-loop : goal.invariant-loop
invariant-loop l = l.fragments.items ≡ replicate l.counter (no_rows l.width)
