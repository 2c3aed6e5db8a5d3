use Rattle.std.proofs.Common.{ap, arith, length, refl}
use Rattle.pdq_gate.proofs.Ranked.{length_ranked, stands, stands_there, stands_within, stands_written}
use Rattle.pdq_gate.proofs.queue.Queue.at.Goals as goal

pub index-requires : goal.index-requires
index-requires c = omega (arith, length_ranked _ _ c.self.invariant.ranked, ap length c.self.view_is)

pub index-requires-2 : goal.index-requires-2
index-requires-2 c =
    let within = stands_within _ _ _ (stands _ _ _ _ c.args.place _ c.index.result.now c.self.invariant.ranked c.self.view_is c.requires.within c.index.ensures refl c.place_by_number-place.ensures.value) in
    omega (arith, within)

pub returns-clause-written : goal.returns-clause-written
returns-clause-written c =
    rw (← c.self.view_is) (stands_written _ _ _ c.index-2.result.now (stands _ _ _ _ c.args.place _ c.index.result.now c.self.invariant.ranked c.self.view_is c.requires.within c.index.ensures refl c.place_by_number-place.ensures.value) c.index-2.ensures)

pub returns-clause-row : goal.returns-clause-row
returns-clause-row c =
    rw (← c.self.view_is) (stands_there _ _ _ c.index-2.result.now (stands _ _ _ _ c.args.place _ c.index.result.now c.self.invariant.ranked c.self.view_is c.requires.within c.index.ensures refl c.place_by_number-place.ensures.value) c.index-2.ensures)
