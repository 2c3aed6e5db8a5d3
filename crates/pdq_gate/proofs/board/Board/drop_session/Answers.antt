use Rattle.std.proofs.Common.{arith}
use Rattle.std.proofs.lemmas.Grind.{common_steps}
use Rattle.pdq_model.proofs.Soundness.{sound_closed}
use Rattle.pdq_gate.specs.Board.{state_of}
use Rattle.pdq_gate.proofs.board.Board.drop_session.Goals as goal

pub returns-clause-state : goal.returns-clause-state
returns-clause-state c = grind (arith, common_steps)

pub returns-clause-sound : goal.returns-clause-sound
returns-clause-sound c = record {
  model = rw (returns-clause-state c) (sound_closed (state_of c.args.self.now) c.args.session c.args.place c.requires.sound.model c.requires.place);
  quanta = c.requires.sound.quanta;
  made = c.requires.sound.made;
  per_quantum = c.requires.sound.per_quantum;
  numbers = c.requires.sound.numbers;
  regions = c.requires.sound.regions;
  next_pool = c.requires.sound.next_pool;
  region_room = omega arith;
  withdrawn_room = omega arith;
  session_room = omega arith;
  admitted_room = omega arith;
}
