use Rattle.std.proofs.Common.{◌≡◌, drop, map}
use Rattle.pdq_value.specs.Tables.{shape_of}
use Rattle.pdq_sql.specs.declared.ast.AstTable.{AstTable}
use Rattle.pdq_sql.specs.Resolution.{each, table_of, tables_of}
use Rattle.pdq_sql.proofs.resolving.tables.Given as goal

abbrev pub invariant-loop-part : goal.invariant-loop-part
invariant-loop-part l = each 4 (λ (t : AstTable). t.place) (table_of (map shape_of l.shapes)) l.tables.items (drop l.part-index l.from) ≡ tables_of (map shape_of l.shapes) l.from
