use Rattle.std.proofs.Common.{All, length, map, ◌≡◌, ◌≤◌}
use Rattle.std.specs.List.{range_with_len}
use Rattle.pdq_query.specs.Queries.{query_of}
use Rattle.pdq_prune.specs.Elimination.{cut_at, left_of}
use Rattle.pdq_prune.proofs.keeping.left_in.Given as goal

abbrev pub invariant-loop-place : goal.invariant-loop-place
invariant-loop-place l = record {
  so_far : map (λ places. places.items) l.left.items ≡ map (λ place. left_of (cut_at l.schema (query_of l.query) place) place l.query.filters.items) (range_with_len 0 l.place);
  few : All (λ places. length places.items ≤ 16) l.left.items;
}
