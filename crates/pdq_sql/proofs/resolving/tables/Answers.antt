use Rattle.std.proofs.Common.{map, sym, arith}
use Rattle.std.proofs.lemmas.Result.{err_from_is_err_and}
use Rattle.pdq_value.specs.Tables.{shape_of}
use Rattle.pdq_sql.specs.declared.ast.AstTable.{AstTable}
use Rattle.pdq_sql.specs.declared.resolving.Unresolved.TheVariants.{Fault}
use Rattle.pdq_sql.specs.Resolution.{table_of, tables_of}
use Rattle.pdq_sql.proofs.ResolutionLists.{ends, fails, goes_on, is_too_many}
use Rattle.pdq_sql.proofs.resolving.tables.Goals as goal

pub returns-then-len-eq-MOST_TABLES : goal.returns-then-len-eq-MOST_TABLES
returns-then-len-eq-MOST_TABLES c = record { value = rw c.fault.ensures.value (is_too_many 4 (λ (t : AstTable). t.place) (table_of (map shape_of c.args.shapes.now)) c.loop-part.tables.items c.args.from.now c.loop-part.part-index (tables_of (map shape_of c.args.shapes.now) c.args.from.now) c.loop-part.invariant c.part-item.result (omega arith) c.part-item.is (omega arith)) }

pub returns-in_err-number : goal.returns-in_err-number
returns-in_err-number c = record {
  value = let p = err_from_is_err_and c.from_residual.result c.from_residual.ensures.1 in
      rw (p.1, p.2) (fails 4 (λ (t : AstTable). t.place) (table_of (map shape_of c.args.shapes.now)) c.loop-part.tables.items c.args.from.now c.loop-part.part-index (tables_of (map shape_of c.args.shapes.now) c.args.from.now) c.loop-part.invariant c.part-item.result (omega arith) c.part-item.is (Fault c.in_err-number.field-0.0) (omega arith) (rw (← c.deref.ensures.value) (sym c.in_err-number.ensures.value)));
}

pub loop-part-preserved : goal.loop-part-preserved
loop-part-preserved c = rw c.in_ok-push.ensures.items (goes_on 4 (λ (t : AstTable). t.place) (table_of (map shape_of c.args.shapes.now)) c.loop-part.tables.items c.args.from.now c.loop-part.part-index (tables_of (map shape_of c.args.shapes.now) c.args.from.now) c.loop-part.invariant c.part-item.result (omega arith) c.part-item.is c.in_ok-number.number (omega arith) (rw (← c.deref.ensures.value) (sym c.in_ok-number.ensures.value)))

pub returns : goal.returns
returns c = record { value = ends 4 (λ (t : AstTable). t.place) (table_of (map shape_of c.args.shapes.now)) c.loop-part.tables.items c.args.from.now c.loop-part.part-index (tables_of (map shape_of c.args.shapes.now) c.args.from.now) c.loop-part.invariant (omega arith) }
