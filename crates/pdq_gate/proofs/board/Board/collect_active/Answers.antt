use Rattle.std.proofs.Common.{◌∙◌, refl, sym}
use Rattle.pdq_gate.specs.Board.{state_of}
use Rattle.pdq_gate.proofs.Granting.{found, next_grant, admitted_grant, may_finish_granted, held_granted, others_granted}
use Rattle.pdq_gate.proofs.board.Board.collect_active.Goals as goal

pub returns-clause-state : goal.returns-clause-state
returns-clause-state c =
    c.hand_over-region.ensures.state ∙ sym (next_grant c.args.self.now c.args.session c.args.id c.args.place c.args.row c.requires.settled c.requires.waits c.requires.place c.requires.there c.requires.gone)

pub returns-clause-told : goal.returns-clause-told
returns-clause-told c =
    c.hand_over-region.ensures.told ∙ sym (admitted_grant c.args.self.now c.args.session c.args.id c.args.place c.args.row c.args.self.now.admitted.items c.requires.settled c.requires.waits c.requires.place c.requires.there c.requires.gone)

pub returns-clause-granted : goal.returns-clause-granted
returns-clause-granted c =
    let is_found = found c.args.self.now c.args.id c.args.place c.args.row (rw (← c.requires.session) c.requires.waits) (rw (← c.requires.session) c.requires.place) c.requires.there in
    rw c.hand_over-region.ensures.state (record {
      may_finish = may_finish_granted (state_of c.args.self.now) c.args.id c.args.place c.hand_over-region.result.frames c.args.row is_found c.requires.there c.hand_over-region.ensures.region;
      frames_given = c.hand_over-region.ensures.region;
      holder = held_granted (state_of c.args.self.now) c.args.id c.args.place c.args.row is_found c.requires.there;
      waiting = refl;
      entry = refl;
      submitted = refl;
      configuration = record { config = refl; pending = refl };
      rest = record { withdrawn = refl; sessions = refl; opened = refl; changes = refl };
      others = others_granted (state_of c.args.self.now) c.args.id c.args.place c.args.row is_found.number c.requires.there;
    })
