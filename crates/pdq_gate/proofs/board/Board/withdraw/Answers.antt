use Rattle.std.proofs.Common.{◌≤◌, arith}
use Rattle.std.proofs.lemmas.Grind.{common_steps}
use Rattle.std.proofs.lemmas.Option.{slice_get_within}
use Rattle.pdq_model.specs.declared.rows.Waiting.{Waiting}
use Rattle.pdq_model.proofs.Lists.{All_remove}
use Rattle.pdq_model.proofs.Soundness.{sound_withdrawn}
use Rattle.pdq_gate.specs.Board.{state_of}
use Rattle.pdq_gate.proofs.board.Board.withdraw.Goals as goal

pub remove_at-requires : goal.remove_at-requires
remove_at-requires c = let within = slice_get_within c.args.self.now.waiting c.args.place c.args.w c.requires.there in omega (arith, within)

pub push_reserved-requires : goal.push_reserved-requires
push_reserved-requires c = let within = slice_get_within c.args.self.now.waiting c.args.place c.args.w c.requires.there in omega (arith, within, c.requires.sound.withdrawn_room, c.requires.sound.model.queries, c.requires.sound.model.reserved)

pub returns-clause-state : goal.returns-clause-state
returns-clause-state c = grind (arith, common_steps)

pub returns-clause-sound : goal.returns-clause-sound
returns-clause-sound c = record {
  model = rw (returns-clause-state c) (sound_withdrawn (state_of c.args.self.now) c.args.by c.args.id c.args.place c.args.w c.requires.sound.model c.requires.place c.requires.there);
  quanta = c.requires.sound.quanta;
  made = c.requires.sound.made;
  per_quantum = c.requires.sound.per_quantum;
  numbers = rw c.remove_at.ensures.value (All_remove (λ (w : Waiting). w.id ≤ c.args.self.now.submitted) c.args.self.now.waiting c.args.place c.requires.sound.numbers);
  regions = c.requires.sound.regions;
  next_pool = c.requires.sound.next_pool;
  region_room = omega arith;
  withdrawn_room = omega arith;
  session_room = omega arith;
  admitted_room = omega arith;
}
