use Rattle.std.proofs.Common.{◌≡◌, ◌-◌, ◌≤◌}
use Rattle.std.specs.List.{slice_split}
use Rattle.pdq_base.specs.Lines.{is_blank}
use Rattle.pdq_value.specs.Header.{columns_of}
use Rattle.pdq_value.proofs.Headers.{after_columns}
use Rattle.pdq_value.proofs.header.read_columns.Given as goal

abbrev pub invariant-loop : goal.invariant-loop
invariant-loop l = record {
  within : l.counter ≤ 16;
  so_far : columns_of 16 (slice_split is_blank l.fn.text) ≡ after_columns l.columns.items (columns_of (16 - l.counter) (slice_split is_blank l.unread));
}
