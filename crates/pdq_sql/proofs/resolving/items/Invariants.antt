use Rattle.std.proofs.Common.{◌≡◌, drop, map}
use Rattle.pdq_value.specs.Tables.{shape_of}
use Rattle.pdq_sql.specs.declared.ast.AstItem.{AstItem}
use Rattle.pdq_sql.specs.Resolution.{each, item_of, items_of}
use Rattle.pdq_sql.proofs.resolving.items.Given as goal

abbrev pub invariant-loop-part : goal.invariant-loop-part
invariant-loop-part l = each 16 (λ (x : AstItem). x.place) (λ before. item_of (map shape_of l.shapes) l.tables) l.items.items (drop l.part-index l.list) ≡ items_of (map shape_of l.shapes) l.tables l.list
