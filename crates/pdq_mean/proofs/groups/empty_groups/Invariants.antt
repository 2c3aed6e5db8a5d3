use Rattle.std.proofs.Common.{◌≡◌, [], All, List, length}
use Rattle.pdq_query.specs.declared.query.Item.{Item}
use Rattle.pdq_mean.specs.Grouping.{IsGroupOf}
use Rattle.pdq_mean.proofs.groups.empty_groups.Given as goal

abbrev pub invariant-loop : goal.invariant-loop
invariant-loop l = record {
  number : length l.groups.items ≡ l.counter;
  empty : (items : List Item) → All (IsGroupOf items []) l.groups.items;
}
