use Rattle.std.proofs.Common.{◌≡◌, ◌∙◌, Ok, None, map, refl, sym}
use Rattle.pdq_value.specs.Tables.{shape_of}
use Rattle.pdq_query.specs.Queries.{query_of}
use Rattle.pdq_sql.specs.Asts.{ast_of}
use Rattle.pdq_sql.specs.Resolution.{first_fault, resolution_of}
use Rattle.pdq_sql.proofs.ResolutionFits.{named_well, resolution-Fits, small_joins}
use Rattle.pdq_sql.proofs.resolving.resolve.Goals as goal

pub first_fault-requires-clause-items : goal.first_fault-requires-clause-items
first_fault-requires-clause-items c = let h = named_well (map shape_of c.args.shapes.now) (ast_of c.args.ast.now) (query_of c.in-Ok.query) c.in-Ok.ensures.value in h.as_many_items

pub first_fault-requires-clause-tables : goal.first_fault-requires-clause-tables
first_fault-requires-clause-tables c = let h = named_well (map shape_of c.args.shapes.now) (ast_of c.args.ast.now) (query_of c.in-Ok.query) c.in-Ok.ensures.value in h.as_many_tables

pub first_fault-requires-clause-few : goal.first_fault-requires-clause-few
first_fault-requires-clause-few c = let h = named_well (map shape_of c.args.shapes.now) (ast_of c.args.ast.now) (query_of c.in-Ok.query) c.in-Ok.ensures.value in h.four_tables

pub first_fault-requires-clause-four : goal.first_fault-requires-clause-four
first_fault-requires-clause-four c = small_joins (map shape_of c.args.shapes.now) (ast_of c.args.ast.now) (query_of c.in-Ok.query) (named_well (map shape_of c.args.shapes.now) (ast_of c.args.ast.now) (query_of c.in-Ok.query) c.in-Ok.ensures.value)

pub returns-in-None-clause-fits : goal.returns-in-None-clause-fits
unfolding resolution_of
returns-in-None-clause-fits c =
    let none : first_fault (ast_of c.args.ast.now) (query_of c.in-Ok.query) ≡ None = sym c.first_fault.ensures.value ∙ c.in-None.is in
    let found : resolution_of (map shape_of c.args.shapes.now) (ast_of c.args.ast.now) ≡ Ok (query_of c.in-Ok.query) = rw (c.in-Ok.ensures.value, none) refl in
    resolution-Fits (map shape_of c.args.shapes.now) (ast_of c.args.ast.now) (query_of c.in-Ok.query) c.requires.some c.requires.tables found c.in-Ok.ensures.utf8
