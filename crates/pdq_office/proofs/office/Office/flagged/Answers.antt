use Rattle.std.proofs.Common.{sym, subst}
use Rattle.pdq_turn.specs.Pass.{view_of}
use Rattle.pdq_model.specs.Kept.{IsLent}
use Rattle.pdq_office.specs.PassValue.{PassValue}
use Rattle.pdq_office.specs.Knowledge.{HasSession}
use Rattle.pdq_office.specs.Passes.{known, session_of, IsOpen, IsHeld}
use Rattle.pdq_office.proofs.Calls.{looked, known_still, session_known, held_active}
use Rattle.pdq_office.proofs.office.Office.flagged.Goals as goal

pub flagged-flagged-requires : goal.flagged-flagged-requires
flagged-flagged-requires g c =
    let p : PassValue = record { turn = c.pass.inside.turn; session = c.pass.inside.session } in
    let m = c.begin-manager.result in
    let finds = c.begin-manager.ensures.finds in
    let opens : IsOpen p = subst (λ (x : PassValue). IsOpen x) (sym c.pass.view_is) c.requires.in_session in
    let has : HasSession (known p) (session_of p) = session_known p opens c.pass.invariant.known in
    record { active = held_active (known p) m (session_of p) c.args.held.now.id c.args.held.now.frames finds (subst (λ (x : PassValue). IsHeld x c.args.held.now) (sym c.pass.view_is) c.requires.held) }

pub returns-clause-held : goal.returns-clause-held
returns-clause-held g c =
    let p : PassValue = record { turn = c.pass.inside.turn; session = c.pass.inside.session } in
    let m = c.begin-manager.result in
    let is = looked (known p) (view_of c.begin-manager.new.turn) (view_of c.give.new.pass) m c.begin-manager.ensures.view.0 c.begin-manager.ensures.finds c.begin-manager.ensures.view.1 c.pass.invariant.free.1 c.pass.invariant.free.2 c.give.ensures.view in
    known_still (known p) (view_of c.give.new.pass) m (λ s. IsLent s (session_of p) c.args.held.now.id c.args.held.now.frames) c.begin-manager.ensures.finds is (subst (λ (x : PassValue). IsHeld x c.args.held.now) (sym c.pass.view_is) c.requires.held)
