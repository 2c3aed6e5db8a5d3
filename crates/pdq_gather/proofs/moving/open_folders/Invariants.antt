use Rattle.std.proofs.Common.{◌≡◌, [], ◌+◌, ◌≤◌, ◌++◌, All, map, length}
use Rattle.std.specs.Prelude.{vec_len, vec_capacity}
use Rattle.pdq_group.specs.Groupers.{Took}
use Rattle.pdq_gather.specs.Groups.{fresh_folder}
use Rattle.pdq_gather.proofs.moving.open_folders.Given as goal

abbrev pub invariant-moving : goal.invariant-moving
invariant-moving g l = record {
  all : map (λ desk. desk.owner) l.desks.items ++ map fresh_folder l.groupers.items ≡ map fresh_folder l.fn.groupers.items;
  widths : All (λ desk. (desk.owner.grouper.table.keys + length desk.owner.grouper.table.folds ≡ l.width) × (desk.batch.width ≡ l.width)) l.desks.items;
  each : All (λ j. j.table.keys + length j.table.folds ≡ l.width) l.groupers.items;
  fresh : All (λ j. Took j []) l.groupers.items;
  capacity : vec_capacity l.fn.groupers ≤ vec_capacity l.groupers;
  room : vec_len l.groupers + vec_len l.desks ≤ vec_capacity l.desks;
}

abbrev pub decreases-moving : goal.decreases-moving
decreases-moving g l = vec_len l.groupers
