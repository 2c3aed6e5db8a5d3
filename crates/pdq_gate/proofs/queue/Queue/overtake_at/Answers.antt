use Rattle.std.proofs.Common.{arith, refl}
use Rattle.std.proofs.lemmas.List.{length-set}
use Rattle.std.proofs.lemmas.Bool.{lt-leb}
use Rattle.pdq_gate.specs.Ranks.{overtaken_once}
use Rattle.pdq_gate.proofs.Ranked.{few_read, parted, rank_within, ranked_move, ranked_remove, ranked_stay, row_read}
use Rattle.pdq_gate.proofs.queue.Queue.overtake_at.Goals as goal

pub take_rank-requires-clause-sorted : goal.take_rank-requires-clause-sorted
take_rank-requires-clause-sorted c = rw c.rank_of.ensures.value (parted _ _ c.index.result.now c.self.invariant.ranked)

pub take_rank-requires-clause-there : goal.take_rank-requires-clause-there
take_rank-requires-clause-there c =
    let there = row_read _ _ c.args.place c.index.result.now c.self.view_is c.requires.within c.index.ensures in
    rw c.rank_of.ensures.value (rank_within _ _ c.args.place c.index.result.now c.self.invariant.ranked there)

pub put_rank-requires-clause-sorted : goal.put_rank-requires-clause-sorted
put_rank-requires-clause-sorted c =
    let there = row_read _ _ c.args.place c.index.result.now c.self.view_is c.requires.within c.index.ensures in
    rw (c.rank_of-then-overtaken-ge-MOST_OVERTAKEN.ensures.value, c.take_rank.ensures.order, c.rank_of.ensures.value) (parted _ _ (overtaken_once c.index.result.now) (ranked_remove _ _ c.args.place c.index.result.now c.self.invariant.ranked there))

pub invariant_of-self : goal.invariant_of-self
invariant_of-self c =
    let there = row_read _ _ c.args.place c.index.result.now c.self.view_is c.requires.within c.index.ensures in
    let few = few_read _ _ c.args.place c.index.result.now c.self.view_is c.requires.seldom c.index.ensures in
    record {
      ranked = rw (c.put_rank.ensures.order, c.rank_of-then-overtaken-ge-MOST_OVERTAKEN.ensures.value, c.take_rank.ensures.order, c.rank_of.ensures.value) (ranked_move _ _ c.args.place c.index.result.now c.self.invariant.ranked there few);
      few = omega (arith, length-set c.self.inside.rows.items c.args.place (overtaken_once c.index.result.now), c.self.invariant.few);
      row_room = omega arith;
      order_room = omega arith;
    }

pub invariant_of-self-else-overtaken-ge-MOST_OVERTAKEN : goal.invariant_of-self-else-overtaken-ge-MOST_OVERTAKEN
invariant_of-self-else-overtaken-ge-MOST_OVERTAKEN c =
    let there = row_read _ _ c.args.place c.index.result.now c.self.view_is c.requires.within c.index.ensures in
    let few = few_read _ _ c.args.place c.index.result.now c.self.view_is c.requires.seldom c.index.ensures in
    record {
      ranked = ranked_stay _ _ c.args.place c.index.result.now c.self.invariant.ranked there few (lt-leb 32 (overtaken_once c.index.result.now).overtaken c.if-overtaken-ge-MOST_OVERTAKEN.false);
      few = omega (arith, length-set c.self.inside.rows.items c.args.place (overtaken_once c.index.result.now), c.self.invariant.few);
      row_room = c.self.invariant.row_room;
      order_room = c.self.invariant.order_room;
    }

pub returns-then-overtaken-ge-MOST_OVERTAKEN : goal.returns-then-overtaken-ge-MOST_OVERTAKEN
returns-then-overtaken-ge-MOST_OVERTAKEN c =
    let there = row_read _ _ c.args.place c.index.result.now c.self.view_is c.requires.within c.index.ensures in
    rw (← c.self.view_is, there) (record { value = refl })

pub returns-else-overtaken-ge-MOST_OVERTAKEN : goal.returns-else-overtaken-ge-MOST_OVERTAKEN
returns-else-overtaken-ge-MOST_OVERTAKEN c =
    let there = row_read _ _ c.args.place c.index.result.now c.self.view_is c.requires.within c.index.ensures in
    rw (← c.self.view_is, there) (record { value = refl })
