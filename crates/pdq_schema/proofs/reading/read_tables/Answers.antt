use Rattle.std.proofs.Common.{◌≡◌, ◌∙◌, [], ap, arith, drop, length}
use Rattle.std.proofs.lemmas.List.{drop_all, length-map}
use Rattle.pdq_schema.specs.Schemas.{schema_with}
use Rattle.pdq_schema.specs.SchemaFile.{tables_after}
use Rattle.pdq_schema.specs.SchemaTree.{views_of}
use Rattle.pdq_schema.proofs.SchemaLaws.{schema_read}
use Rattle.pdq_schema.proofs.reading.read_tables.Goals as goal

pub of-requires : goal.of-requires
of-requires c =
    let none_left : drop c.loop-table.table-index c.args.tables.now ≡ [] = drop_all c.loop-table.table-index c.args.tables.now (omega arith) in
    let read = schema_with c.loop-table.shapes.items c.loop-table.files.items c.loop-table.cuts.items in
    let count : length (views_of c.args.tables.now) ≡ length c.args.tables.now = length-map c.args.tables.now _ in
    record { schema = schema_read (views_of c.args.tables.now) read (c.loop-table.invariant.so_far ∙ ap (λ ts. tables_after read (views_of ts)) none_left) (omega (arith, count, c.requires.some)) (omega (arith, count, c.requires.few)) }
