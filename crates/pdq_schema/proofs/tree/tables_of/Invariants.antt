use Rattle.std.proofs.Common.{◌≡◌, drop}
use Rattle.toml.specs.View.{items_view}
use Rattle.pdq_schema.specs.SchemaTree.{tables_of, views_of}
use Rattle.pdq_schema.proofs.TreeLaws.{after}
use Rattle.pdq_schema.proofs.tree.tables_of.Given as goal

abbrev pub invariant-loop-value : goal.invariant-loop-value
invariant-loop-value l = tables_of (items_view l.values) ≡ after (views_of l.tables.items) (tables_of (items_view (drop l.value-index l.values)))
