use Rattle.std.proofs.Common.{◌∙◌, ap, arith}
use Rattle.std.proofs.lemmas.Grind.{common_steps}
use Rattle.pdq_frame.specs.Pools.{PoolView}
use Rattle.pdq_model.proofs.Soundness.{sound_admitted}
use Rattle.pdq_gate.specs.Board.{state_of}
use Rattle.pdq_gate.proofs.Ranked.{numbers_left}
use Rattle.pdq_gate.proofs.board.Board.admit.Goals as goal

pub returns-clause-admitted : goal.returns-clause-admitted
returns-clause-admitted c = grind (arith, common_steps)

pub returns-clause-sound : goal.returns-clause-sound
returns-clause-sound c = record {
  model = rw (returns-clause-admitted c) (sound_admitted (state_of c.args.self.now) c.args.place c.args.w c.requires.sound.model c.requires.head c.requires.there c.requires.fits);
  quanta = grind (arith, common_steps);
  made = rw c.grant-region.ensures.pool c.requires.sound.made;
  per_quantum = ap (λ (p : PoolView). p.frames_per_quantum) c.grant-region.ensures.pool ∙ c.requires.sound.per_quantum;
  numbers = rw c.take_head.ensures.value (numbers_left _ _ c.args.place _ c.requires.sound.numbers);
  regions = grind (arith, common_steps);
  next_pool = c.requires.sound.next_pool;
  region_room = omega arith;
  withdrawn_room = omega arith;
  session_room = omega arith;
  admitted_room = omega arith;
}
