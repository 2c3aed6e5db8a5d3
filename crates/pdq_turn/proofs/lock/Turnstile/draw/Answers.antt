use Rattle.std.proofs.Common.{rules, ap, ◌∙◌, arith}
use Rattle.pdq_turn.proofs.Steps.{draws}
use Rattle.pdq_turn.proofs.lock.Turnstile.draw.Goals as goal

pub compare_exchange-requires : goal.compare_exchange-requires
compare_exchange-requires g c =
    let is = c.loop.invariant.1 in let free = c.requires.free.1 in
    (search rules, search rules, draws _ _ _ _ _ _ _ _ free.3.0 (ap (λ m. m.0.origin) is ∙ free.3.1) (ap (λ m. m.0.ticket) is ∙ free.1) (ap (λ m. m.0.out) is ∙ free.2) (omega arith))
