use Rattle.std.proofs.Common.{ap, arith, length}
use Rattle.std.proofs.lemmas.List.Edits.{length-remove}
use Rattle.pdq_gate.proofs.Ranked.{head_row, head_within, headless_overtaken, headless_seldom, is_head, length_ranked, ranked_headless}
use Rattle.pdq_gate.proofs.queue.Queue.take_head.Goals as goal

pub take_row-w-requires : goal.take_row-w-requires
take_row-w-requires c = omega (arith, head_within _ _ c.args.place c.self.view_is c.requires.head)

pub take_first-requires : goal.take_first-requires
take_first-requires c = omega (arith, head_within _ _ c.args.place c.self.view_is c.requires.head, length_ranked _ _ c.self.invariant.ranked)

pub invariant_of-self : goal.invariant_of-self
invariant_of-self c = record {
  ranked = rw (c.take_row-w.ensures.items, c.take_first.ensures.order) (ranked_headless _ _ _ _ _ (is_head _ _ _ c.args.place c.take_row-w.result c.self.invariant.ranked c.self.view_is c.requires.head c.take_row-w.ensures.value));
  few = omega (arith, ap length c.take_row-w.ensures.items, length-remove c.self.inside.rows.items c.args.place (head_within _ _ c.args.place c.self.view_is c.requires.head), c.self.invariant.few);
  row_room = omega arith;
  order_room = omega arith;
}

pub overtake_first-requires-clause-within : goal.overtake_first-requires-clause-within
overtake_first-requires-clause-within c =
    let within = head_within _ _ c.args.place c.self.view_is c.requires.head in
    omega (arith, within, ap length c.take_row-w.ensures.items, length-remove c.self.inside.rows.items c.args.place within)

pub overtake_first-requires-clause-seldom : goal.overtake_first-requires-clause-seldom
overtake_first-requires-clause-seldom c = rw c.take_row-w.ensures.items (headless_seldom _ _ _ _ _ (is_head _ _ _ c.args.place c.take_row-w.result c.self.invariant.ranked c.self.view_is c.requires.head c.take_row-w.ensures.value))

pub returns-clause-row : goal.returns-clause-row
returns-clause-row c = head_row _ _ _ _ _ (is_head _ _ _ c.args.place c.take_row-w.result c.self.invariant.ranked c.self.view_is c.requires.head c.take_row-w.ensures.value)

pub returns-clause-value : goal.returns-clause-value
returns-clause-value c = headless_overtaken _ _ _ _ _ _ _ (is_head _ _ _ c.args.place c.take_row-w.result c.self.invariant.ranked c.self.view_is c.requires.head c.take_row-w.ensures.value) c.take_row-w.ensures.items c.overtake_first.ensures.value
