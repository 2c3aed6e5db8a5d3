use Rattle.std.proofs.Common.{map, sym, arith, ◌∙◌, None, Some, ◌+◌, drop}
use Rattle.pdq_value.specs.Tables.{shape_of}
use Rattle.pdq_sql.specs.Resolution.{columns_named, found}
use Rattle.pdq_sql.proofs.ResolutionLists.{columns_named-here, columns_named-past, nothing-listed, the_only-of_option, the_only-two}
use Rattle.pdq_sql.proofs.resolving.bare.Goals as goal

pub loop-from-preserved-in_default : goal.loop-from-preserved-in_default
loop-from-preserved-in_default c =
    rw (columns_named-here (map shape_of c.args.shapes.now) c.args.name.now c.args.tables.now c.loop-from.from None (omega arith) (sym c.column_in.ensures.value ∙ c.in_default.is)) at c.loop-from.invariant

pub returns-then-is_some : goal.returns-then-is_some
returns-then-is_some c = record {
  value =
      rw c.fault.ensures.value (sym (the_only-two c.args.place c.loop-from.found (found c.loop-from.from (c.in-Some.column, c.in-Some.kind)) (columns_named (map shape_of c.args.shapes.now) c.args.name.now (c.loop-from.from + 1) (drop (c.loop-from.from + 1) c.args.tables.now)) _ (sym c.is_some.ensures ∙ c.if-is_some.true)
      (rw (columns_named-here (map shape_of c.args.shapes.now) c.args.name.now c.args.tables.now c.loop-from.from (Some (c.in-Some.column, c.in-Some.kind)) (omega arith) (sym c.column_in.ensures.value ∙ c.in-Some.is)) at c.loop-from.invariant)));
}

pub loop-from-preserved : goal.loop-from-preserved
loop-from-preserved c =
    rw (columns_named-here (map shape_of c.args.shapes.now) c.args.name.now c.args.tables.now c.loop-from.from (Some (c.in-Some.column, c.in-Some.kind)) (omega arith) (sym c.column_in.ensures.value ∙ c.in-Some.is), nothing-listed c.loop-from.found (sym c.is_some.ensures ∙ c.if-is_some.false)) at c.loop-from.invariant

pub returns : goal.returns
returns c = record {
  value =
      c.ok_or.ensures.value ∙ rw c.fault-2.ensures.value (sym (the_only-of_option c.args.place c.loop-from.found _ (rw (columns_named-past (map shape_of c.args.shapes.now) c.args.name.now c.args.tables.now c.loop-from.from (omega arith)) at c.loop-from.invariant)));
}
