use Rattle.std.proofs.Common.{◌≡◌, ◌+◌, ◌≤◌, drop, length, take}
use Rattle.pdq_table.specs.Loading.{contents_of, tables_from}
use Rattle.pdq_table.proofs.TableReads.{TablesSoFar}
use Rattle.pdq_table.proofs.tables.read_tables.Given as goal

abbrev pub invariant-loop-file : goal.invariant-loop-file
invariant-loop-file l = record {
  count : length l.tables.items ≡ length l.yielded;
  room : l.cells ≤ 32000000;
  so_far : TablesSoFar (tables_from 1 0 l.schema.shapes (contents_of l.fn.files.items)) l.schema.cuts (take (length l.yielded) l.schema.shapes) (drop (length l.yielded) l.schema.shapes) (contents_of (drop (length l.yielded) l.fn.files.items)) (length l.yielded + 1) l.cells l.notes l.tables.items;
}
