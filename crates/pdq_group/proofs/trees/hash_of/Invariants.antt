use Rattle.std.proofs.Common.{◌≡◌, take}
use Rattle.std.specs.List.{fold}
use Rattle.pdq_spill.specs.Hashes.{group_factor, mixed}
use Rattle.pdq_group.proofs.trees.hash_of.Given as goal

abbrev pub invariant-loop-word : goal.invariant-loop-word
invariant-loop-word l = l.hash ≡ fold (mixed group_factor) 0 (take l.word-index l.key)
