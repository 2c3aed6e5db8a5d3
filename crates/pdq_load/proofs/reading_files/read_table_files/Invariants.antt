use Rattle.std.proofs.Common.{◌≡◌, ℕ, List}
use Rattle.pdq_table.specs.Loading.{contents_of}
use Rattle.pdq_load.proofs.FilesRead.{CameTo}
use Rattle.pdq_load.proofs.reading_files.read_table_files.Given as goal

abbrev pub invariant-files : goal.invariant-files
invariant-files g l = record {
  came : CameTo (g.F.Files.contents l.initial.files) l.schema.files (contents_of l.tables.items) l.table;
  same : (other : List ℕ) → g.F.Files.contents l.files other ≡ g.F.Files.contents l.initial.files other;
  passed : g.F.Files.faults l.files ≡ g.F.Files.faults l.initial.files;
}
