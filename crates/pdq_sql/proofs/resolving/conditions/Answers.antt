use Rattle.std.proofs.Common.{map, arith}
use Rattle.std.proofs.lemmas.List.Elements.{All-push}
use Rattle.pdq_sql.specs.Resolving.{IsUtf8Condition}
use Rattle.std.proofs.lemmas.Result.{err_from_is_err_and}
use Rattle.pdq_value.specs.Tables.{shape_of}
use Rattle.pdq_sql.specs.declared.ast.AstCond.{AstCond}
use Rattle.pdq_sql.specs.Resolution.{condition_of, conditions_of}
use Rattle.pdq_sql.proofs.ResolutionLists.{ends, fails, goes_on, is_too_many}
use Rattle.pdq_sql.proofs.resolving.conditions.Goals as goal

pub returns-then-len-eq-MOST_PARTS : goal.returns-then-len-eq-MOST_PARTS
returns-then-len-eq-MOST_PARTS c = record { utf8 = tt; value = rw c.fault.ensures.value (is_too_many 16 (λ (x : AstCond). x.place) (λ before. condition_of (map shape_of c.args.shapes.now) c.args.tables.now) c.loop-part.conditions.items c.args.list.now c.loop-part.part-index (conditions_of (map shape_of c.args.shapes.now) c.args.tables.now c.args.list.now) c.loop-part.invariant.value c.part-item.result (omega arith) c.part-item.is (omega arith)) }

pub returns-in_err-condition : goal.returns-in_err-condition
returns-in_err-condition c = record {
  utf8 = let p = err_from_is_err_and c.from_residual.result c.from_residual.ensures.1 in rw p.1 tt;
  value = let p = err_from_is_err_and c.from_residual.result c.from_residual.ensures.1 in
      rw (p.1, p.2) (fails 16 (λ (x : AstCond). x.place) (λ before. condition_of (map shape_of c.args.shapes.now) c.args.tables.now) c.loop-part.conditions.items c.args.list.now c.loop-part.part-index (conditions_of (map shape_of c.args.shapes.now) c.args.tables.now c.args.list.now) c.loop-part.invariant.value c.part-item.result (omega arith) c.part-item.is c.in_err-condition.field-0.0 (omega arith) c.in_err-condition.ensures.value);
}

pub loop-part-preserved : goal.loop-part-preserved
loop-part-preserved c = record {
  value = rw c.in_ok-push.ensures.items (goes_on 16 (λ (x : AstCond). x.place) (λ before. condition_of (map shape_of c.args.shapes.now) c.args.tables.now) c.loop-part.conditions.items c.args.list.now c.loop-part.part-index (conditions_of (map shape_of c.args.shapes.now) c.args.tables.now c.args.list.now) c.loop-part.invariant.value c.part-item.result (omega arith) c.part-item.is c.in_ok-condition.condition (omega arith) c.in_ok-condition.ensures.value);
  utf8 = rw c.in_ok-push.ensures.items (All-push IsUtf8Condition c.loop-part.conditions.items c.in_ok-condition.condition c.loop-part.invariant.utf8 c.in_ok-condition.ensures.utf8);
}

pub returns : goal.returns
returns c = record { utf8 = c.loop-part.invariant.utf8; value = ends 16 (λ (x : AstCond). x.place) (λ before. condition_of (map shape_of c.args.shapes.now) c.args.tables.now) c.loop-part.conditions.items c.args.list.now c.loop-part.part-index (conditions_of (map shape_of c.args.shapes.now) c.args.tables.now c.args.list.now) c.loop-part.invariant.value (omega arith) }
