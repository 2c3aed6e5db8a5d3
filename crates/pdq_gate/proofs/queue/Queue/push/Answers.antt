use Rattle.std.proofs.Common.{ap, arith, length}
use Rattle.std.proofs.lemmas.List.{length_push}
use Rattle.pdq_gate.proofs.Ranked.{length_ranked, parted, ranked_push}
use Rattle.pdq_gate.proofs.queue.Queue.push.Goals as goal

pub put_rank-requires-clause-room : goal.put_rank-requires-clause-room
put_rank-requires-clause-room c = omega (arith, length_ranked _ _ c.self.invariant.ranked, ap length c.self.view_is)

pub put_rank-requires-clause-sorted : goal.put_rank-requires-clause-sorted
put_rank-requires-clause-sorted c = rw c.rank_of.ensures.value (parted _ _ c.args.w c.self.invariant.ranked)

pub invariant_of-self : goal.invariant_of-self
invariant_of-self c = record {
  ranked = rw (c.push_back_reserved.ensures.items, c.put_rank.ensures.order, c.rank_of.ensures.value) (ranked_push _ _ c.args.w c.self.invariant.ranked (rw c.self.view_is c.requires.last) c.requires.fresh);
  few = omega (arith, ap length c.push_back_reserved.ensures.items, length_push c.self.inside.rows.items c.args.w, ap length c.self.view_is);
  row_room = omega arith;
  order_room = omega arith;
}
