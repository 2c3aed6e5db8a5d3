use Rattle.std.proofs.Common.{◌≢◌, List, length, All, AllPairs, sym, ap, subst, arith}
use Rattle.std.proofs.lemmas.List.{length-map}
use Rattle.pdq_value.specs.Tables.{ShapeView, shape_of, IsShape}
use Rattle.pdq_serve.proofs.requests.query_request.Goals as goal

pub resolve-requires-clause-few : goal.resolve-requires-clause-few
resolve-requires-clause-few c = omega (arith, length-map c.shapes.result.now shape_of, ap length c.shapes.ensures.value, c.shapes.ensures.schema.sixteen_tables)

pub resolve-requires-clause-shapes : goal.resolve-requires-clause-shapes
resolve-requires-clause-shapes c = subst (λ (l : List ShapeView). All IsShape l) (sym c.shapes.ensures.value) c.shapes.ensures.schema.shapes

pub resolve-requires-clause-names : goal.resolve-requires-clause-names
resolve-requires-clause-names c = subst (λ (l : List ShapeView). AllPairs (λ (s : ShapeView) (t : ShapeView). s.name ≢ t.name) l) (sym c.shapes.ensures.value) c.shapes.ensures.schema.names_differ
