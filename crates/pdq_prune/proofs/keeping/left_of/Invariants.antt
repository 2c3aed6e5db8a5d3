use Rattle.std.proofs.Common.{filter, not, ◌≡◌}
use Rattle.std.specs.List.{list_any, range_with_len}
use Rattle.pdq_schema.specs.Schemas.{cut_of}
use Rattle.pdq_prune.specs.Elimination.{filter_excludes}
use Rattle.pdq_prune.proofs.keeping.left_of.Given as goal

abbrev pub invariant-loop-fragment : goal.invariant-loop-fragment
invariant-loop-fragment l = l.left.items ≡ filter (λ t. not (list_any (filter_excludes (cut_of l.cut) l.place t) l.filters)) (range_with_len 0 l.fragment)
