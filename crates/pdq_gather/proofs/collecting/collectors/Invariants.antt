use Rattle.std.proofs.Common.{◌≡◌, All, length}
use Rattle.pdq_gather.specs.Rows.{IsFreshDesk}
use Rattle.pdq_gather.proofs.collecting.collectors.Given as goal

abbrev pub invariant-making : goal.invariant-making
invariant-making l = record {
  count : length l.desks.items ≡ l._owner;
  fresh : All (IsFreshDesk l.width) l.desks.items;
}
