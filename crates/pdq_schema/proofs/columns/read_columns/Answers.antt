use Rattle.std.proofs.Common.{◌≡◌, ◌∙◌, [], ap, arith, drop}
use Rattle.std.proofs.lemmas.List.{drop_all}
use Rattle.pdq_schema.specs.SchemaFile.{columns_after}
use Rattle.pdq_schema.specs.SchemaTree.{views_of}
use Rattle.pdq_schema.proofs.ColumnLaws.{columns_read}
use Rattle.pdq_schema.proofs.columns.read_columns.Goals as goal

pub returns-clause-kinds : goal.returns-clause-kinds
returns-clause-kinds c =
    let none_left : drop c.loop-table.table-index c.args.tables.now ≡ [] = drop_all c.loop-table.table-index c.args.tables.now (omega arith) in
    (columns_read c.args.table_no (views_of c.args.tables.now) _ (c.loop-table.invariant.so_far ∙ ap (λ ts. columns_after c.args.table_no c.loop-table.columns.items (views_of ts)) none_left)).kinds
