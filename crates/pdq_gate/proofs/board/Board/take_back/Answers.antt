use Rattle.std.proofs.Common.{◌∙◌, ap, arith}
use Rattle.std.proofs.lemmas.Grind.{common_steps}
use Rattle.std.proofs.lemmas.Option.{slice_get_within}
use Rattle.pdq_model.specs.declared.rows.Active.{Active}
use Rattle.pdq_model.specs.declared.events.How.TheVariants.{Done}
use Rattle.pdq_frame.specs.Pools.{PoolView}
use Rattle.pdq_model.proofs.Lists.{sum_by_without}
use Rattle.pdq_model.proofs.Soundness.{sound_finished}
use Rattle.pdq_gate.specs.Board.{state_of}
use Rattle.pdq_gate.proofs.Standing.{same_length, none_there, some_frames, whole_quanta, count_quanta, step_removed}
use Rattle.pdq_gate.proofs.Granting.{finishes}
use Rattle.pdq_gate.proofs.board.Board.take_back.Goals as goal

pub give_back-requires-clause-whole : goal.give_back-requires-clause-whole
give_back-requires-clause-whole c =
    rw c.requires.sound.per_quantum (whole_quanta _ c.args.row.quanta _ (some_frames c.args.self.now.config c.requires.sound.model.valid) c.requires.frames)

pub give_back-requires-clause-most : goal.give_back-requires-clause-most
give_back-requires-clause-most c =
    rw (c.requires.sound.per_quantum, count_quanta _ c.args.row.quanta _ (some_frames c.args.self.now.config c.requires.sound.model.valid) c.requires.frames)
    (omega (arith, sum_by_without (λ (a : Active). a.quanta) c.args.self.now.active c.args.place c.args.row c.requires.there, c.requires.sound.quanta, c.requires.sound.made))

pub remove_none-requires-clause-within : goal.remove_none-requires-clause-within
remove_none-requires-clause-within c =
    let same = same_length _ c.args.self.now.regions.items c.args.self.now.active c.requires.sound.regions in
    let within = slice_get_within c.args.self.now.active c.args.place c.args.row c.requires.there in
    omega (arith, same, within)

pub remove_none-requires-clause-none : goal.remove_none-requires-clause-none
remove_none-requires-clause-none c = none_there _ c.args.self.now.regions.items c.args.self.now.active c.requires.sound.regions c.args.place c.args.row c.requires.there c.requires.collected

pub remove-requires : goal.remove-requires
remove-requires c =
    let within = slice_get_within c.args.self.now.active c.args.place c.args.row c.requires.there in
    omega (arith, within)

pub returns-clause-state : goal.returns-clause-state
returns-clause-state c = grind (arith, common_steps)

pub returns-clause-sound : goal.returns-clause-sound
returns-clause-sound c = record {
  model = rw (returns-clause-state c, ← finishes c.args.self.now c.args.id c.args.place Done c.args.row c.requires.place) (sound_finished (state_of c.args.self.now) c.args.row.session c.args.id Done c.args.place c.args.row c.requires.sound.model c.requires.place c.requires.there);
  quanta = rw (c.remove.ensures.value, c.give_back.ensures.value, c.requires.sound.per_quantum, count_quanta _ c.args.row.quanta _ (some_frames c.args.self.now.config c.requires.sound.model.valid) c.requires.frames) (omega (arith, sum_by_without (λ (a : Active). a.quanta) c.args.self.now.active c.args.place c.args.row c.requires.there, c.requires.sound.quanta));
  made = rw c.give_back.ensures.value c.requires.sound.made;
  per_quantum = ap (λ (p : PoolView). p.frames_per_quantum) c.give_back.ensures.value ∙ c.requires.sound.per_quantum;
  numbers = c.requires.sound.numbers;
  regions = rw (c.remove_none.ensures.left, c.remove.ensures.value, c.give_back.ensures.value) (step_removed _ c.args.self.now.regions.items c.args.self.now.active c.args.place c.requires.sound.regions);
  next_pool = c.requires.sound.next_pool;
  region_room = omega arith;
  withdrawn_room = omega arith;
  session_room = omega arith;
  admitted_room = omega arith;
}
