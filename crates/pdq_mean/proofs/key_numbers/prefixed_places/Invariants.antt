use Rattle.std.proofs.Common.{◌≡◌, map, All, ℕ}
use Rattle.std.specs.List.{range_with_len}
use Rattle.pdq_value.specs.Tables.{tables_of}
use Rattle.pdq_query.specs.Queries.{query_of}
use Rattle.pdq_mean.specs.declared.key_prefixes.Prefixed.{Prefixed}
use Rattle.pdq_mean.specs.Places.{IsPrefixedPlace}
use Rattle.pdq_mean.proofs.key_numbers.prefixed_places.Given as goal

abbrev pub invariant-loop-place : goal.invariant-loop-place
invariant-loop-place l = record {
  places : map (λ (d : Prefixed ℕ). d.item) l.prefixed.items ≡ range_with_len 0 l.place;
  prefixes : All (IsPrefixedPlace (tables_of l.db) (query_of l.query) l.choices) l.prefixed.items;
}
