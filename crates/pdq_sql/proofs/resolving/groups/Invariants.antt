use Rattle.std.proofs.Common.{◌≡◌, drop, map}
use Rattle.pdq_value.specs.Tables.{shape_of}
use Rattle.pdq_sql.specs.declared.ast.AstGroup.{AstGroup}
use Rattle.pdq_sql.specs.Resolution.{each, any_column, groups_of}
use Rattle.pdq_sql.proofs.resolving.groups.Given as goal

abbrev pub invariant-loop-part : goal.invariant-loop-part
invariant-loop-part l = each 16 (λ (x : AstGroup). x.place) (λ before (g : AstGroup). any_column (map shape_of l.shapes) l.tables g.place g.column) l.groups.items (drop l.part-index l.list) ≡ groups_of (map shape_of l.shapes) l.tables l.list
