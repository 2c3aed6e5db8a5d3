use Rattle.std.proofs.Common.{map, sym, arith}
use Rattle.std.proofs.lemmas.Result.{err_from_is_err_and}
use Rattle.pdq_value.specs.Tables.{shape_of}
use Rattle.pdq_sql.specs.declared.ast.AstItem.{AstItem}
use Rattle.pdq_sql.specs.declared.resolving.Unresolved.TheVariants.{Fault}
use Rattle.pdq_sql.specs.Resolution.{item_of, items_of}
use Rattle.pdq_sql.proofs.ResolutionLists.{ends, fails, goes_on, is_too_many}
use Rattle.pdq_sql.proofs.resolving.items.Goals as goal

pub returns-then-len-eq-MOST_PARTS : goal.returns-then-len-eq-MOST_PARTS
returns-then-len-eq-MOST_PARTS c = record { value = rw c.fault.ensures.value (is_too_many 16 (λ (x : AstItem). x.place) (λ before. item_of (map shape_of c.args.shapes.now) c.args.tables.now) c.loop-part.items.items c.args.list.now c.loop-part.part-index (items_of (map shape_of c.args.shapes.now) c.args.tables.now c.args.list.now) c.loop-part.invariant c.part-item.result (omega arith) c.part-item.is (omega arith)) }

pub returns-in_err-item : goal.returns-in_err-item
returns-in_err-item c = record {
  value = let p = err_from_is_err_and c.from_residual.result c.from_residual.ensures.1 in
      rw (p.1, p.2) (fails 16 (λ (x : AstItem). x.place) (λ before. item_of (map shape_of c.args.shapes.now) c.args.tables.now) c.loop-part.items.items c.args.list.now c.loop-part.part-index (items_of (map shape_of c.args.shapes.now) c.args.tables.now c.args.list.now) c.loop-part.invariant c.part-item.result (omega arith) c.part-item.is (Fault c.in_err-item.field-0.0) (omega arith) (sym c.in_err-item.ensures.value));
}

pub loop-part-preserved : goal.loop-part-preserved
loop-part-preserved c = rw c.in_ok-push.ensures.items (goes_on 16 (λ (x : AstItem). x.place) (λ before. item_of (map shape_of c.args.shapes.now) c.args.tables.now) c.loop-part.items.items c.args.list.now c.loop-part.part-index (items_of (map shape_of c.args.shapes.now) c.args.tables.now c.args.list.now) c.loop-part.invariant c.part-item.result (omega arith) c.part-item.is c.in_ok-item.item (omega arith) (sym c.in_ok-item.ensures.value))

pub returns : goal.returns
returns c = record { value = ends 16 (λ (x : AstItem). x.place) (λ before. item_of (map shape_of c.args.shapes.now) c.args.tables.now) c.loop-part.items.items c.args.list.now c.loop-part.part-index (items_of (map shape_of c.args.shapes.now) c.args.tables.now c.args.list.now) c.loop-part.invariant (omega arith) }
