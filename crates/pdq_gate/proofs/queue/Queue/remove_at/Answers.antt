use Rattle.std.proofs.Common.{ap, arith, length}
use Rattle.std.proofs.lemmas.List.Edits.{length-remove}
use Rattle.pdq_gate.proofs.Ranked.{parted, rank_within, ranked_remove, row_read}
use Rattle.pdq_gate.proofs.queue.Queue.remove_at.Goals as goal

pub take_rank-requires-clause-sorted : goal.take_rank-requires-clause-sorted
take_rank-requires-clause-sorted c = rw c.rank_of.ensures.value (parted _ _ c.take_row-w.result c.self.invariant.ranked)

pub take_rank-requires-clause-there : goal.take_rank-requires-clause-there
take_rank-requires-clause-there c =
    let there = row_read _ _ c.args.place c.take_row-w.result c.self.view_is c.requires.within c.take_row-w.ensures.value in
    rw c.rank_of.ensures.value (rank_within _ _ c.args.place c.take_row-w.result c.self.invariant.ranked there)

pub invariant_of-self : goal.invariant_of-self
invariant_of-self c =
    let there = row_read _ _ c.args.place c.take_row-w.result c.self.view_is c.requires.within c.take_row-w.ensures.value in
    record {
      ranked = rw (c.take_row-w.ensures.items, c.take_rank.ensures.order, c.rank_of.ensures.value) (ranked_remove _ _ c.args.place c.take_row-w.result c.self.invariant.ranked there);
      few = omega (arith, ap length c.take_row-w.ensures.items, length-remove c.self.inside.rows.items c.args.place (omega (arith, ap length c.self.view_is)), c.self.invariant.few);
      row_room = omega arith;
      order_room = omega arith;
    }

pub returns-clause-row : goal.returns-clause-row
returns-clause-row c = rw (← c.self.view_is) (row_read _ _ c.args.place c.take_row-w.result c.self.view_is c.requires.within c.take_row-w.ensures.value)
