use Rattle.std.proofs.Common.{◌≡◌, ◌∙◌, ◌+◌, sym, arith}
use Rattle.std.proofs.lemmas.Grind.{common_steps}
use Rattle.std.proofs.lemmas.Option.{same_Some}
use Rattle.pdq_model.specs.declared.rows.Active.{Active}
use Rattle.pdq_model.specs.Step.{flagged_at}
use Rattle.pdq_model.proofs.Lists.{sum_by_changed}
use Rattle.pdq_model.proofs.Soundness.{sound_cancelled}
use Rattle.pdq_gate.specs.Board.{state_of}
use Rattle.pdq_gate.proofs.Standing.{step_flagged}
use Rattle.pdq_gate.proofs.board.Board.flag.Goals as goal

pub returns-clause-state : goal.returns-clause-state
returns-clause-state c = grind (arith, common_steps)

pub returns-clause-sound : goal.returns-clause-sound
returns-clause-sound c =
    let same : c.flag.result ≡ c.args.row = same_Some _ _ (sym c.flag.ensures.row ∙ c.requires.there) in
    record {
      model = rw (returns-clause-state c) (sound_cancelled (state_of c.args.self.now) c.args.by c.args.id c.requires.sound.model c.requires.may);
      quanta = rw (c.flag.ensures.value, same) (omega (arith, sum_by_changed (λ (a : Active). a.quanta) c.args.self.now.active c.args.place c.args.row (flagged_at (c.args.self.now.entries + 1) c.args.row) c.requires.there, c.requires.sound.quanta));
      made = c.requires.sound.made;
      per_quantum = c.requires.sound.per_quantum;
      numbers = c.requires.sound.numbers;
      regions = rw (c.flag.ensures.value, same) (step_flagged _ c.args.self.now.regions.items c.args.self.now.active c.args.place (c.args.self.now.entries + 1) c.args.row c.requires.there c.requires.sound.regions);
      next_pool = c.requires.sound.next_pool;
      region_room = omega arith;
      withdrawn_room = omega arith;
      session_room = omega arith;
      admitted_room = omega arith;
    }
