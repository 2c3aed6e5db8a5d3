use Rattle.std.proofs.Common.{◌≡◌, All, drop, map}
use Rattle.pdq_value.specs.Tables.{shape_of}
use Rattle.pdq_sql.specs.declared.ast.AstCond.{AstCond}
use Rattle.pdq_sql.specs.Resolution.{each, condition_of, conditions_of}
use Rattle.pdq_sql.specs.Resolving.{IsUtf8Condition}
use Rattle.pdq_sql.proofs.resolving.conditions.Given as goal

abbrev pub invariant-loop-part : goal.invariant-loop-part
invariant-loop-part l = record {
  value : each 16 (λ (x : AstCond). x.place) (λ before. condition_of (map shape_of l.shapes) l.tables) l.conditions.items (drop l.part-index l.list) ≡ conditions_of (map shape_of l.shapes) l.tables l.list;
  utf8 : All IsUtf8Condition l.conditions.items;
}
