use Rattle.pdq_turn.specs.Pass.{view_of}
use Rattle.pdq_office.specs.PassValue.{PassValue}
use Rattle.pdq_office.specs.Passes.{known}
use Rattle.pdq_office.proofs.Calls.{looked, open_still}
use Rattle.pdq_office.proofs.office.Office.look.Goals as goal

pub invariant_of-pass : goal.invariant_of-pass
invariant_of-pass g c =
    let p : PassValue = record { turn = c.pass.inside.turn; session = c.pass.inside.session } in
    let m = c.begin-found.result in
    let is = looked (known p) (view_of c.begin-found.new.turn) (view_of c.give.new.pass) m c.begin-found.ensures.view.0 c.begin-found.ensures.finds c.begin-found.ensures.view.1 c.pass.invariant.free.1 c.pass.invariant.free.2 c.give.ensures.view in
    record { free = c.give.ensures.free; known = open_still (known p) (view_of c.give.new.pass) m c.pass.inside.session c.begin-found.ensures.finds is c.pass.invariant.known }
