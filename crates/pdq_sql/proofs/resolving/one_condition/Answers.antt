use Rattle.std.proofs.Common.{map, sym}
use Rattle.pdq_value.specs.Tables.{shape_of}
use Rattle.pdq_sql.proofs.ResolutionFits.{column_kind}
use Rattle.pdq_sql.proofs.resolving.one_condition.Goals as goal

pub literal-requires : goal.literal-requires
literal-requires c = record { kind = column_kind (map shape_of c.args.shapes.now) c.args.tables.now c.args.part.now.place c.in-Literal.name (c.in_ok-at-in-Literal.at, c.in_ok-at-in-Literal.kind) c.requires.shapes (sym c.in_ok-at-in-Literal.ensures.value) }
