use Rattle.std.proofs.Common.{arith}
use Rattle.pdq_gate.proofs.Ranked.{overtaking_length, overtaking_more, overtaking_seldom}
use Rattle.pdq_gate.proofs.queue.Queue.overtake_first.Goals as goal

pub overtake_at-requires-clause-within : goal.overtake_at-requires-clause-within
overtake_at-requires-clause-within c = omega (arith, overtaking_length _ c.loop-place.self c.loop-place.place c.loop-place.invariant)

pub overtake_at-requires-clause-seldom : goal.overtake_at-requires-clause-seldom
overtake_at-requires-clause-seldom c = overtaking_seldom _ _ c.args.count c.loop-place.place c.loop-place.invariant c.loop-place-test.true c.requires.within c.requires.seldom

pub loop-place-preserved : goal.loop-place-preserved
loop-place-preserved c = overtaking_more _ c.loop-place.self _ c.loop-place.place c.loop-place.invariant (omega arith) c.overtake_at.ensures.value
