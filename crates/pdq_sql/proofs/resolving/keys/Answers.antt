use Rattle.std.proofs.Common.{map, sym, arith}
use Rattle.std.proofs.lemmas.Result.{err_from_is_err_and}
use Rattle.pdq_value.specs.Tables.{shape_of}
use Rattle.pdq_sql.specs.declared.ast.AstKey.{AstKey}
use Rattle.pdq_sql.specs.declared.resolving.Unresolved.TheVariants.{Fault}
use Rattle.pdq_sql.specs.Resolution.{key_of, keys_of}
use Rattle.pdq_sql.proofs.ResolutionLists.{ends, fails, goes_on, is_too_many}
use Rattle.pdq_sql.proofs.resolving.keys.Goals as goal

pub returns-then-len-eq-MOST_PARTS : goal.returns-then-len-eq-MOST_PARTS
returns-then-len-eq-MOST_PARTS c = record { value = rw c.fault.ensures.value (is_too_many 16 (λ (x : AstKey). x.place) (λ before. key_of (map shape_of c.args.shapes.now) c.args.tables.now c.args.items.now) c.loop-part.keys.items c.args.list.now c.loop-part.part-index (keys_of (map shape_of c.args.shapes.now) c.args.tables.now c.args.items.now c.args.list.now) c.loop-part.invariant c.part-item.result (omega arith) c.part-item.is (omega arith)) }

pub returns-in_err-key : goal.returns-in_err-key
returns-in_err-key c = record {
  value = let p = err_from_is_err_and c.from_residual.result c.from_residual.ensures.1 in
      rw (p.1, p.2) (fails 16 (λ (x : AstKey). x.place) (λ before. key_of (map shape_of c.args.shapes.now) c.args.tables.now c.args.items.now) c.loop-part.keys.items c.args.list.now c.loop-part.part-index (keys_of (map shape_of c.args.shapes.now) c.args.tables.now c.args.items.now c.args.list.now) c.loop-part.invariant c.part-item.result (omega arith) c.part-item.is (Fault c.in_err-key.field-0.0) (omega arith) (sym c.in_err-key.ensures.value));
}

pub loop-part-preserved : goal.loop-part-preserved
loop-part-preserved c = rw c.in_ok-push.ensures.items (goes_on 16 (λ (x : AstKey). x.place) (λ before. key_of (map shape_of c.args.shapes.now) c.args.tables.now c.args.items.now) c.loop-part.keys.items c.args.list.now c.loop-part.part-index (keys_of (map shape_of c.args.shapes.now) c.args.tables.now c.args.items.now c.args.list.now) c.loop-part.invariant c.part-item.result (omega arith) c.part-item.is c.in_ok-key.key (omega arith) (sym c.in_ok-key.ensures.value))

pub returns : goal.returns
returns c = record { value = ends 16 (λ (x : AstKey). x.place) (λ before. key_of (map shape_of c.args.shapes.now) c.args.tables.now c.args.items.now) c.loop-part.keys.items c.args.list.now c.loop-part.part-index (keys_of (map shape_of c.args.shapes.now) c.args.tables.now c.args.items.now c.args.list.now) c.loop-part.invariant (omega arith) }
