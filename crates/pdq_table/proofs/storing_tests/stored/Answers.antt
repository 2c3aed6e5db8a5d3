use Rattle.std.proofs.Common.{◌≡◌, ◌<◌, ◌≤◌, ◌∷◌, [], All, List, arith, length, subst, sym}
use Rattle.std.proofs.lemmas.List.Elements.{All-head}
use Rattle.pdq_value.specs.Tables.{IsShape, ShapeView, shape_of, tables_of}
use Rattle.pdq_table.specs.Storing.{AreTablesOf}
use Rattle.pdq_table.proofs.Samples.{sole_shape}
use Rattle.pdq_table.proofs.storing_tests.stored.Goals as goal

pub tables-requires-clause-shape : goal.tables-requires-clause-shape
tables-requires-clause-shape c =
    let shapes = c.shapes.result.now in
    let low : 1 ≤ length shapes = omega arith in
    let high : length shapes < 2 = omega arith in
    let only : c.in-Ok.schema.shapes ≡ shape_of c.shape-item.result ∷ [] = sole_shape shapes c.shape-item.result c.in-Ok.schema.shapes low high c.shape-item.is c.shapes.ensures.value in
    All-head IsShape (shape_of c.shape-item.result) [] (subst (λ (views : List ShapeView). All IsShape views) only c.shapes.ensures.schema.shapes)

pub of-requires : goal.of-requires
of-requires c =
    let shapes = c.shapes.result.now in
    let low : 1 ≤ length shapes = omega arith in
    let high : length shapes < 2 = omega arith in
    let only : c.in-Ok.schema.shapes ≡ shape_of c.shape-item.result ∷ [] = sole_shape shapes c.shape-item.result c.in-Ok.schema.shapes low high c.shape-item.is c.shapes.ensures.value in
    record {
      tables = record {
        schema = c.shapes.ensures.schema;
        tables = subst (λ (views : List ShapeView). AreTablesOf views (tables_of c.in_ok-db.db)) (sym only)
            c.in_ok-db.ensures.tables;
      };
    }
