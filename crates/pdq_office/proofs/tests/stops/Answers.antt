use Rattle.std.proofs.Common.{ℕ, ◌≡◌, ◌∙◌, ap, subst}
use Rattle.std.specs.Prelude.{Option, unwrap_or}
use Rattle.pdq_office.specs.Passes.{session_of, KeepsBut}
use Rattle.pdq_office.proofs.Following.{keeps_follow, keeps_then}
use Rattle.pdq_office.proofs.tests.stops.Goals as goal

pub returns-clause-keeps : goal.returns-clause-keeps
returns-clause-keeps g c =
    let first = keeps_follow c.args.pass.now c.granted-region.new.pass c.flagged.new.pass c.args.ticket.id c.granted-region.ensures.keeps c.flagged.ensures.follows in
    let same : session_of c.flagged.new.pass ≡ session_of c.args.pass.now = ap (λ (o : Option ℕ). unwrap_or o 0) (c.flagged.ensures.follows.session ∙ c.granted-region.ensures.lock.1) in
    keeps_then c.args.pass.now c.flagged.new.pass c.finish.new.pass c.args.ticket.id same first (subst (λ (n : ℕ). KeepsBut n c.flagged.new.pass c.finish.new.pass) c.granted-region.ensures.held.0 c.finish.ensures.keeps)
