use Rattle.std.proofs.Common.{◌∙◌, sym}
use Rattle.pdq_value.specs.Tables.{IsShape, shape_of}
use Rattle.pdq_sql.proofs.ResolutionLists.{column_in-none, column_in-some, small_at}
use Rattle.pdq_sql.proofs.resolving.column_in.Goals as goal

pub column_named-requires : goal.column_named-requires
column_named-requires c =
    let small : IsShape (shape_of c.in-Some.shape.now) = small_at c.args.shapes.now c.args.number c.in-Some.shape.now c.requires.shapes (sym c.in-Some.ensures.value) in
    let few = small.sixteen_columns in
    record { few = rw c.deref.ensures.value few }

pub returns-in-Some : goal.returns-in-Some
returns-in-Some c = record { value = c.column_named.ensures.value ∙ rw c.deref.ensures.value (sym (column_in-some c.args.shapes.now c.args.number c.args.name.now c.in-Some.shape.now (sym c.in-Some.ensures.value))) }

pub returns-in-None : goal.returns-in-None
returns-in-None c = record { value = sym (column_in-none c.args.shapes.now c.args.number c.args.name.now (sym c.in-None.ensures.value)) }
