use Rattle.std.proofs.Common.{◌≡◌, ◌∙◌, length, sym, arith}
use Rattle.pdq_table.specs.Loading.{contents_of}
use Rattle.pdq_load.specs.Files.{AllTold}
use Rattle.pdq_load.proofs.FilesRead.{came_all, came_long, came_more, count_told}
use Rattle.pdq_load.proofs.reading_files.read_table_files.Goals as goal

pub files-preserved : goal.files-preserved
files-preserved g c = record {
  came = came_more _ _ _ _ _ _ _ c.files.invariant.came c.file.ensures.value c.files.invariant.same c.in-Ok.ensures.added;
  same = λ other. c.in-Ok.ensures.same other ∙ c.files.invariant.same other;
  passed = c.in-Ok.ensures.passed ∙ c.files.invariant.passed;
}

pub returns-in-Err-TooLong-clause-too_long : goal.returns-in-Err-TooLong-clause-too_long
returns-in-Err-TooLong-clause-too_long g c = came_long _ _ _ _ _ _ c.files.invariant.came c.file.ensures.value c.files.invariant.same (c.in-Err-TooLong.ensures.too_long (cc))

pub returns-clause-told : goal.returns-clause-told
returns-clause-told g c =
    let all : c.files.table ≡ length c.args.schema.now.files = omega arith in
    came_all _ _ _ _ c.files.invariant.came all

pub returns-clause-count : goal.returns-clause-count
returns-clause-count g c =
    let all : c.files.table ≡ length c.args.schema.now.files = omega arith in
    let told : AllTold (g.F.Files.contents c.args.files.now) c.args.schema.now.files (contents_of c.files.tables.items) = came_all _ _ _ _ c.files.invariant.came all in
    count_told _ _ _ _ told ∙ sym c.table_count-table-end.ensures.files ∙ c.table_count-table-end.ensures.tables
