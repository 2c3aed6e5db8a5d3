use Rattle.std.proofs.Common.{◌≡◌, ◌∙◌, sym, arith}
use Rattle.std.proofs.lemmas.Grind.{common_steps}
use Rattle.std.proofs.lemmas.Option.{same_Some, slice_get_within}
use Rattle.pdq_model.specs.declared.rows.Active.{Active}
use Rattle.pdq_model.specs.Step.{collected}
use Rattle.pdq_model.proofs.Lists.{sum_by_changed}
use Rattle.pdq_model.proofs.Soundness.{sound_granted}
use Rattle.pdq_gate.specs.Board.{state_of}
use Rattle.pdq_gate.proofs.Standing.{same_length, stands, frames_there, step_collected}
use Rattle.pdq_gate.proofs.Quiet.{collects, settled_collected}
use Rattle.pdq_gate.proofs.board.Board.hand_over.Goals as goal

pub take_region-region-requires-clause-within : goal.take_region-region-requires-clause-within
take_region-region-requires-clause-within c =
    let same = same_length _ c.args.self.now.regions.items c.args.self.now.active c.requires.sound.regions in
    let within = slice_get_within c.args.self.now.active c.args.place c.args.row c.requires.there in
    omega (arith, same, within)

pub take_region-region-requires-clause-stands : goal.take_region-region-requires-clause-stands
take_region-region-requires-clause-stands c = stands _ c.args.self.now.regions.items c.args.self.now.active c.requires.sound.regions c.args.place c.args.row c.requires.there c.requires.here

pub returns-clause-state : goal.returns-clause-state
returns-clause-state c = grind (arith, common_steps)

pub returns-clause-settled : goal.returns-clause-settled
returns-clause-settled c = rw (returns-clause-state c) (settled_collected (state_of c.args.self.now) c.args.place c.args.row c.requires.there c.requires.settled)

pub returns-clause-region : goal.returns-clause-region
returns-clause-region c =
    rw (← c.requires.sound.per_quantum) (frames_there _ c.args.self.now.regions.items c.args.self.now.active c.requires.sound.regions c.args.place c.args.row c.take_region-region.result c.requires.there c.requires.here c.take_region-region.ensures.region)

pub returns-clause-sound : goal.returns-clause-sound
returns-clause-sound c =
    let same : c.collect.result ≡ c.args.row = same_Some _ _ (sym c.collect.ensures.row ∙ c.requires.there) in
    record {
      model = rw (returns-clause-state c, ← collects c.args.self.now c.args.session c.args.id c.args.place c.args.row c.requires.place c.requires.there c.requires.gone) (sound_granted (state_of c.args.self.now) c.args.session c.args.id c.args.place c.args.row c.requires.sound.model c.requires.place c.requires.there c.requires.here);
      quanta = rw (c.collect.ensures.value, same) (omega (arith, sum_by_changed (λ (a : Active). a.quanta) c.args.self.now.active c.args.place c.args.row (collected c.args.row) c.requires.there, c.requires.sound.quanta));
      made = c.requires.sound.made;
      per_quantum = c.requires.sound.per_quantum;
      numbers = c.requires.sound.numbers;
      regions = rw (c.take_region-region.ensures.left, c.collect.ensures.value, same) (step_collected _ c.args.self.now.regions.items c.args.self.now.active c.args.place c.args.row c.requires.sound.regions);
      next_pool = c.requires.sound.next_pool;
      region_room = omega arith;
      withdrawn_room = omega arith;
      session_room = omega arith;
      admitted_room = omega arith;
    }
