use Rattle.std.proofs.Common.{◌≡◌, drop, map}
use Rattle.pdq_value.specs.Tables.{shape_of}
use Rattle.pdq_sql.specs.declared.ast.AstKey.{AstKey}
use Rattle.pdq_sql.specs.Resolution.{each, key_of, keys_of}
use Rattle.pdq_sql.proofs.resolving.keys.Given as goal

abbrev pub invariant-loop-part : goal.invariant-loop-part
invariant-loop-part l = each 16 (λ (x : AstKey). x.place) (λ before. key_of (map shape_of l.shapes) l.tables l.items) l.keys.items (drop l.part-index l.list) ≡ keys_of (map shape_of l.shapes) l.tables l.items l.list
