-- A query, with plain lists.
use Rattle.std.specs.Prelude.{ℕ, List}
use Rattle.pdq_query.specs.declared.query.At.{At}
use Rattle.pdq_query.specs.declared.query.Filter.{Filter}
use Rattle.pdq_query.specs.declared.query.Item.{Item}
use Rattle.pdq_query.specs.declared.query.Key.{Key}
use Rattle.pdq_query.specs.declared.query.Query.{Query}

pub record QueryView : Type 0 where
  -- the numbers of its tables, in FROM order
  pub tables : List ℕ
  pub filters : List Filter
  pub joins : List (At × At)
  pub items : List Item
  pub groups : List At
  pub keys : List Key

abbrev pub query_of : Query → QueryView
query_of q = record { tables = q.tables.items; filters = q.filters.items; joins = q.joins.items; items = q.items.items; groups = q.groups.items; keys = q.keys.items }
