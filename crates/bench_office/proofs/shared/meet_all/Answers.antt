use Rattle.std.proofs.Common.{◌≡◌, ◌∙◌, None}
use Rattle.pdq_office.specs.PassValue.{PassValue}
use Rattle.pdq_office.specs.Passes.{lock_at, lock_in}
use Rattle.pdq_turn.proofs.Elements.{all_next}
use Rattle.bench_office.proofs.shared.meet_all.Goals as goal

pub loop-pass-preserved : goal.loop-pass-preserved
loop-pass-preserved c =
    let P : PassValue → Type 0 = λ p. (lock_at p ≡ lock_in c.args.office.now) × (p.session ≡ None) in
    (c.meet.ensures.follows.lock ∙ c.loop-pass.invariant.0, (all_next P c.loop-pass.pass-iterator c.next.new.self _ _ c.next.ensures.steps c.in-Some.is c.loop-pass.invariant.1).1)
