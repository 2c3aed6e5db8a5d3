-- A select, with plain lists.
use Rattle.std.specs.Prelude.{List}
use Rattle.pdq_sql.specs.declared.ast.Ast.{Ast}
use Rattle.pdq_sql.specs.declared.ast.AstCond.{AstCond}
use Rattle.pdq_sql.specs.declared.ast.AstGroup.{AstGroup}
use Rattle.pdq_sql.specs.declared.ast.AstItem.{AstItem}
use Rattle.pdq_sql.specs.declared.ast.AstKey.{AstKey}
use Rattle.pdq_sql.specs.declared.ast.AstTable.{AstTable}

pub record AstView : Type 0 where
  pub items : List AstItem
  pub tables : List AstTable
  pub conds : List AstCond
  pub groups : List AstGroup
  pub keys : List AstKey

abbrev pub ast_of : Ast → AstView
ast_of a = record { items = a.items.items; tables = a.tables.items; conds = a.conds.items; groups = a.groups.items; keys = a.keys.items }
